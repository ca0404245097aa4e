-- What a port's fields stand for, and what they keep.
use Rattle.port.specs.Port.{PortState}
use Rattle.port.specs.declared.port.Port.TheInside.{Inside}

abbrev pub port_of : Inside → PortState
port_of p = record {
  link = p.link;
  rate = p.rate;
  delay = p.delay;
  lose = p.losses.lose;
  offered = p.losses.offered;
  sent = p.sent;
  next_free = p.next_free;
  queue = p.queue;
}
