-- A link's sending side: what it keeps, and what offering a packet to it and taking from its queue do.
use Rattle.std.specs.Prelude.{◌<◌, ◌≤◌, ℕ, ◌+◌, if◌then◌else◌, List, [], ◌∷◌, ◌++◌, map, Option, None, Some, is_none}
use Rattle.std.specs.Option.{option_or}
use Rattle.sim_time.specs.Serial.{serial, IsRate}
use Rattle.packet_chain.specs.declared.packet.Packet.{Packet}
use Rattle.packet_chain.specs.Stamped.{Stamped}
use Rattle.aqm.specs.declared.drop_reason.TakeDrop.{TakeDrop}
use Rattle.aqm.specs.declared.drop_reason.DropReason.TheVariants.{Lost, Offer, Take}
use Rattle.aqm.specs.declared.queue.Queue.{Queue}
use Rattle.aqm.specs.Queue.{refuses, offer_reason, offered_to, take_reason, taken_from}
use Rattle.port.specs.Losses.{is_lost}
use Rattle.port.specs.declared.acts.Act.{Act}
use Rattle.port.specs.declared.acts.Act.TheVariants.{Tx, Dropped}

-- the link's number, its rate in bits a second and its delay in nanoseconds; which of the packets offered are lost, counted from 1; how many were offered and how many began to be sent; until when it is busy, if it is; the packets that wait
pub record PortState : Type 0 where
  pub link : ℕ
  pub rate : ℕ
  pub delay : ℕ
  pub lose : List ℕ
  pub offered : ℕ
  pub sent : ℕ
  pub next_free : Option ℕ
  pub queue : Queue

-- a link of a scenario: its number, its rate and its delay are in their ranges
pub record IsPort (port : PortState) : Type 0 where
  pub number : port.link < 1024
  pub rate_range : IsRate port.rate
  pub delay_least : 1 ≤ port.delay
  pub delay_most : port.delay ≤ 10000000000

-- a packet that begins to be sent, when the link has sent it and is free again, and when it arrives at the link's end
pub record Departure : Type 0 where
  pub packet : Packet
  pub free : ℕ
  pub arrival : ℕ

-- what is done at a port: the port afterwards, what departs if anything does, what happened to packets in the order done
pub record PortStep : Type 0 where
  pub port : PortState
  pub departure : Option Departure
  pub acts : List Act

-- before anything was offered to it a link is idle
abbrev pub initial_port : ℕ → ℕ → ℕ → List ℕ → Queue → PortState
initial_port link rate delay lose queue = record {
  link = link;
  rate = rate;
  delay = delay;
  lose = lose;
  offered = 0;
  sent = 0;
  next_free = None;
  queue = queue;
}

-- the link is free again once all bits of the packet are out, and the packet arrives a delay later
abbrev pub departure_of : ℕ → PortState → Packet → Departure
departure_of now port packet =
    let free = now + serial packet.bytes port.rate in
    record { packet = packet; free = free; arrival = free + port.delay }

-- what a queue has given begins to be sent; where it has given nothing, the link is idle
abbrev pub begun : ℕ → PortState → Option Stamped → PortStep
begun now port None = record { port = record port { next_free = None }; departure = None; acts = [] }
begun now port (Some head) =
    let departure = departure_of now port head.0 in
    record {
      port = record port { sent = port.sent + 1; next_free = Some departure.free };
      departure = Some departure;
      acts = Tx port.link head.0 ∷ [];
    }

-- a packet is dropped at a take for a link
abbrev pub dropped_for : ℕ → TakeDrop → Stamped → Act
dropped_for link reason cell = Dropped link (Take reason) cell.0

-- a port takes from its queue: what the queue drops comes first, then what is given
abbrev pub taken : ℕ → PortState → PortStep
taken now port =
    let take = taken_from port.queue now in
    let sending = begun now (record port { queue = take.queue }) take.given in
    record sending { acts = map (dropped_for port.link (take_reason port.queue)) take.dropped ++ sending.acts }

-- nothing departs, and this is all that happened
abbrev pub only : PortState → List Act → PortStep
only port acts = record { port = port; departure = None; acts = acts }

-- the queue after a packet was offered to it
abbrev pub with_packet : ℕ → PortState → Packet → PortState
with_packet now port packet = record port { queue = offered_to port.queue (packet, now) now }

-- an idle link takes at once
abbrev pub taken_if_idle : ℕ → PortState → PortStep
taken_if_idle now port = if is_none port.next_free then taken now port else only port []

-- a packet enters the queue, and an idle link takes
abbrev pub entered : ℕ → PortState → Packet → PortStep
entered now port packet = taken_if_idle now (with_packet now port packet)

-- a packet that is not lost comes to the queue: it is dropped where the queue refuses it, and else enters
abbrev pub admitted : ℕ → PortState → Packet → PortStep
admitted now port packet =
    if refuses port.queue then only (with_packet now port packet) (Dropped port.link (Offer (offer_reason port.queue)) packet ∷ [])
    else entered now port packet

-- a packet is offered: it is lost where the list has its number, and else comes to the queue
abbrev pub offered_one : ℕ → PortState → Packet → PortStep
offered_one now port packet =
    let counted = record port { offered = port.offered + 1 } in
    if is_lost port.lose counted.offered then only counted (Dropped port.link Lost packet ∷ []) else admitted now counted packet

-- packets are offered at one moment, in their order: at most one departs, as a busy link begins nothing
abbrev pub offered_all : ℕ → PortState → List Packet → PortStep
offered_all now port [] = only port []
offered_all now port (packet ∷ packets) =
    let first = offered_one now port packet in
    let others = offered_all now first.port packets in
    record { port = others.port; departure = option_or first.departure others.departure; acts = first.acts ++ others.acts }

-- what departs, with its arrival as its stamp
abbrev pub departed : Option Departure → List Stamped
departed None = []
departed (Some departure) = (departure.packet, departure.arrival) ∷ []
