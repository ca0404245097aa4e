-- What a CoDel queue's fields stand for.
use Rattle.aqm.specs.Codel.{CodelState}
use Rattle.aqm.specs.declared.codel.Codel.TheInside.{Inside}

abbrev pub codel_of : Inside → CodelState
codel_of q = record {
  fifo = q.fifo;
  target = q.target;
  interval = q.interval;
  maxpacket = q.maxpacket;
  first_above = q.first_above;
  drop_next = q.drop_next;
  count = q.count;
  lastcount = q.lastcount;
  dropping = q.dropping;
}
