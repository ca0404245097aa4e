-- What every port keeps to, whatever is offered to it and whenever.
use Rattle.std.specs.Prelude.{◌≡◌, ◌+◌, ℕ, List, [], length, drop, map, slice_get, All, Option, Some, None, IfSome, IsSomeAnd, option_to_list}
use Rattle.std.specs.List.{filter_map}
use Rattle.std.specs.List.Sorted.{IsStrictlyIncreasing}
use Rattle.sim_time.specs.Serial.{IsRate}
use Rattle.packet_chain.specs.declared.packet.Packet.{Packet}
use Rattle.packet_chain.specs.PacketBytes.{IsPacketBytes}
use Rattle.packet_chain.specs.Stamped.{bytes_of}
use Rattle.aqm.specs.DropTail.{DropTailState}
use Rattle.aqm.specs.Codel.{CodelState}
use Rattle.aqm.specs.Queue.{waiting_in}
use Rattle.aqm.specs.Laws.{IsForCause}
use Rattle.aqm.specs.declared.drop_reason.DropReason.TheVariants.{Take}
use Rattle.aqm.specs.declared.queue.Queue.TheVariants.{DropTail, Codel}
use Rattle.port.specs.declared.acts.Act.{Act}
use Rattle.port.specs.declared.acts.Act.TheVariants.{Tx, Dropped}
use Rattle.port.specs.Port.{PortState, offered_all, taken}
use Rattle.port.specs.Room.{drops_at_offer}
use Rattle.port.specs.History.{Call, history, offered_in, AreTimely}
use Rattle.port.specs.Fates.{Fate, AreFates}

-- every packet that waits at first or is offered is lost, dropped by its queue as it comes or at a taking, sent, or waits at the end: one of these, in order and once
abbrev pub EveryPacketHasOneFate : Type 0
EveryPacketHasOneFate = (port : PortState) (calls : List Call) → (fates : List (Packet × Fate)) × AreFates port calls fates

-- the packet that an act sends
abbrev pub sent_by : Act → Option Packet
sent_by (Tx link packet) = Some packet
sent_by (Dropped link reason packet) = None

-- the packet that an act tells to be dropped by its queue at a take
abbrev pub queue_drop_in : Act → Option Packet
queue_drop_in (Dropped link (Take reason) packet) = Some packet
queue_drop_in act = None

-- a busy link begins nothing: it stays busy as long, and has sent as many
abbrev pub BusyLinkBeginsNothing : Type 0
BusyLinkBeginsNothing =
    (now t : ℕ) (port : PortState) (packets : List Packet) → port.next_free ≡ Some t →
    let step = offered_all now port packets in
    (step.departure ≡ None) × (step.port.next_free ≡ Some t) × (step.port.sent ≡ port.sent)

-- of packets offered at one moment only the one that departs is sent, if any is
abbrev pub OneDepartsAtMost : Type 0
OneDepartsAtMost =
    (now : ℕ) (port : PortState) (packets : List Packet) → let step = offered_all now port packets in
    filter_map sent_by step.acts ≡ map (λ departure. departure.packet) (option_to_list step.departure)

-- a link that sends at a rate, and packets that are in their range of sizes
pub record AreSized (port : PortState) (calls : List Call) : Type 0 where
  pub rate_range : IsRate port.rate
  pub waiting_sizes : All (λ cell. IsPacketBytes cell.0.bytes) (waiting_in port.queue)
  pub offered_sizes : All (λ packet. IsPacketBytes packet.bytes) (offered_in calls)

-- what a link sends arrives one after another
abbrev pub ArrivalsRise : Type 0
ArrivalsRise =
    (since : ℕ) (port : PortState) (calls : List Call) → AreSized port calls → AreTimely since port calls →
    IsStrictlyIncreasing (map (λ departure. departure.arrival) (history port calls).departures)

-- with drop-tail nothing that entered is dropped
abbrev pub DropTailDropsNothingThatEntered : Type 0
DropTailDropsNothingThatEntered =
    (port : PortState) (calls : List Call) (s : DropTailState) → port.queue ≡ DropTail s → filter_map queue_drop_in (history port calls).acts ≡ []

-- the packets that CoDel drops at a taking are the first that wait, and each is dropped for cause
abbrev pub EveryCodelDropHasACause : Type 0
EveryCodelDropHasACause =
    (now i : ℕ) (port : PortState) (s : CodelState) → port.queue ≡ Codel s →
    IfSome (slice_get (filter_map queue_drop_in (taken now port).acts) i)
    (λ packet. IsSomeAnd (slice_get s.fifo.waiting i) (λ cell. (cell.0 ≡ packet) × IsForCause s now (bytes_of (drop (i + 1) s.fifo.waiting)) cell))

-- where a link is idle, nothing waits
abbrev pub NothingWaitsWhereIdle : PortState → Type 0
NothingWaitsWhereIdle port = port.next_free ≡ None → waiting_in port.queue ≡ []

-- so it stays, whatever is done
abbrev pub IdleLinksKeepNothing : Type 0
IdleLinksKeepNothing = (port : PortState) (calls : List Call) → NothingWaitsWhereIdle port → NothingWaitsWhereIdle (history port calls).port

-- and then an offering drops nothing
abbrev pub OfferingsDropNothing : Type 0
OfferingsDropNothing = (now : ℕ) (port : PortState) (packet : Packet) → NothingWaitsWhereIdle port → drops_at_offer now port packet ≡ 0

-- the link stays as it is, and what was offered and sent is counted
pub record IsCounted (old new : PortState) (more_offered more_sent : ℕ) : Type 0 where
  pub link : new.link ≡ old.link
  pub rate : new.rate ≡ old.rate
  pub delay : new.delay ≡ old.delay
  pub lose : new.lose ≡ old.lose
  pub offered : new.offered ≡ old.offered + more_offered
  pub sent : new.sent ≡ old.sent + more_sent

abbrev pub EveryPacketIsCounted : Type 0
EveryPacketIsCounted =
    (port : PortState) (calls : List Call) → let h = history port calls in
    IsCounted port h.port (length (offered_in calls)) (length h.departures)
