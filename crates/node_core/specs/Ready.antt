-- What a node needs so that its event can be run.
use Rattle.std.specs.Prelude.{◌≡◌, ℕ, ◌+◌, ◌%◌, ◌<◌, ◌≤◌, ◌^◌, List, length, Option, Some, IsSome}
use Rattle.std.specs.List.{AllByRecursion}
use Rattle.packet_chain.specs.Stamped.{Stamped}
use Rattle.packet_chain.specs.declared.packet.Packet.{Packet}
use Rattle.packet_chain.specs.declared.packet.Kind.{Kind}
use Rattle.packet_chain.specs.declared.packet.Kind.TheVariants.{Data, Ack}
use Rattle.sim_time.specs.declared.key.Key.{Key}
use Rattle.sim_time.specs.Moment.{IsMoment}
use Rattle.sim_time.specs.declared.limits.TheConstants.{MOST_EVENTS}
use Rattle.reno_sender.specs.declared.fields.SenderFields.{SenderFields}
use Rattle.reno_sender.specs.Laws.{IsAckFor}
use Rattle.reno_receiver.specs.Received.{ReceiverState}
use Rattle.node_core.specs.declared.event.Event.{Event}
use Rattle.node_core.specs.declared.event.Event.TheVariants.{Start, Rto, DelAck, Free, Arrive}
use Rattle.node_core.specs.declared.role.Role.{Role}
use Rattle.node_core.specs.declared.role.Role.TheVariants.{Sends, Receives, Routes}
use Rattle.node_core.specs.RouteTable.{exit_for}
use Rattle.node_core.specs.Timers.{first_free}
use Rattle.node_core.specs.InStep.{rto_deadline, delayed_of}
use Rattle.node_core.specs.Part.{LinkState, PartState}

-- an acknowledgement has to be one for the sender
abbrev pub SenderTakes : SenderFields → ℕ → Kind → ℕ → Type 0
SenderTakes f now Data number = Unit {0}
SenderTakes f now Ack number = IsAckFor f number now

-- a segment has to be a whole multiple of mss, within the greatest flow
abbrev pub ReceiverTakes : ReceiverState → Kind → ℕ → Type 0
ReceiverTakes st Data number = (number % st.mss ≡ 0) × (number ≤ 9000000000000)
ReceiverTakes st Ack number = Unit {0}

-- a router's exit for a packet has to be one of its links
abbrev pub IsExit : ℕ → Option ℕ → Type 0
IsExit links exit = (index : ℕ) → exit ≡ Some index → index < links

-- a node can take a packet
abbrev pub CanTakePacket : PartState → Role → ℕ → Packet → Type 0
CanTakePacket part (Sends flow fields) now x = SenderTakes fields now x.kind x.number
CanTakePacket part (Receives flow state) now x = ReceiverTakes state x.kind x.number
CanTakePacket part (Routes table) now x = IsExit (length part.links) (exit_for table x)

-- what an event needs of its node: an arrival that the node can take the packet
abbrev pub CanHandle : PartState → ℕ → Event → Type 0
CanHandle part now (Start flow) = Unit {0}
CanHandle part now (Rto flow) = Unit {0}
CanHandle part now (DelAck flow) = Unit {0}
CanHandle part now (Free link) = Unit {0}
CanHandle part now (Arrive packet) = CanTakePacket part part.role now packet

-- the sums at a link stay in their types
pub record LinkCan (link : LinkState) : Type 0 where
  pub sent_fits : link.port.sent < MOST_EVENTS
  pub offered_fits : link.port.offered < 2 ^ 90

-- packets can be offered to a link at a moment, and one of them put behind those that have left over it
pub record CanOffer (now : ℕ) (link : LinkState) (chain : List Stamped) : Type 0 where
  pub moment : IsMoment now
  pub can : LinkCan link
  pub chain_fits : length chain < MOST_EVENTS

-- what is needed of the event that is a node's least
pub record IsRunnable (part : PartState) (k : Key) (v : Event) : Type 0 where
  pub moment : IsMoment k.time
  pub can : CanHandle part k.time v
  pub links : AllByRecursion LinkCan part.links

-- the timer that ends is one that the role has set
abbrev pub IsSetBy : Role → Event → Type 0
IsSetBy role (Start flow) = Unit {0}
IsSetBy role (Rto flow) = IsSome (rto_deadline role)
IsSetBy role (DelAck flow) = IsSome (delayed_of role)
IsSetBy role (Free link) = Unit {0}
IsSetBy role (Arrive packet) = Unit {0}

-- a flow's end can take a packet
abbrev pub EndTakes : Role → ℕ → Packet → Type 0
EndTakes (Sends flow fields) now x = SenderTakes fields now x.kind x.number
EndTakes (Receives flow state) now x = ReceiverTakes state x.kind x.number
EndTakes (Routes table) now x = Unit {0}

-- the link that is free is one of the node's
abbrev pub IsOfLink : ℕ → ℕ → Event → Type 0
IsOfLink number links (Start flow) = Unit {0}
IsOfLink number links (Rto flow) = Unit {0}
IsOfLink number links (DelAck flow) = Unit {0}
IsOfLink number links (Free link) = (first_free ≤ number) × (number < first_free + links)
IsOfLink number links (Arrive packet) = Unit {0}
