-- Which lines of the trace a breakpoint matches, with the states before and after them.
use Rattle.std.specs.Prelude.{◌≡◌, ◌==◌, ◌+◌, ℕ, Bool, true, false, ◌||◌, IsTrue, IsNone, is_some, List, ◌∷◌, ◌++◌, length, Any, Option, None, Some, IfSome}
use Rattle.std.specs.List.{list_any}
use Rattle.packet_chain.specs.declared.packet.Kind.{Kind}
use Rattle.packet_chain.specs.declared.packet.Kind.TheVariants.{Data, Ack}
use Rattle.port.specs.declared.acts.Act.{Act}
use Rattle.port.specs.declared.acts.Act.TheVariants.{Tx, Dropped}
use Rattle.node_core.specs.declared.event.Event.{Event}
use Rattle.node_core.specs.declared.event.Event.TheVariants.{Start, Rto, DelAck, Free, Arrive}
use Rattle.node_core.specs.TraceLine.{TraceLine}
use Rattle.table_run.specs.State.{State}
use Rattle.flow_waits.specs.Stalled.{becomes_stalled}
use Rattle.breakpoints.specs.declared.breaks.EventKind.{EventKind}
use Rattle.breakpoints.specs.declared.breaks.EventKind.TheVariants.{Start as StartWord, Rto as RtoWord, DelAck as DelAckWord, Free as FreeWord, Data as DataWord, Ack as AckWord}
use Rattle.breakpoints.specs.declared.breaks.Break.{Break}
use Rattle.breakpoints.specs.declared.breaks.Condition.{Condition}
use Rattle.breakpoints.specs.declared.breaks.Condition.TheVariants.{Node, Flow, Kind as OfKind, Drop, Link, Byte, Stall, Value}
use Rattle.breakpoints.specs.declared.breaks.StallOf.{StallOf}
use Rattle.breakpoints.specs.declared.breaks.StallOf.TheVariants.{Any as AnyFlow, Flow as OneFlow}
use Rattle.breakpoints.specs.declared.breaks.Hit.{Hit}
use Rattle.breakpoints.specs.Values.{no_values, asking_value, MeetsValues, MeetsKept, asks_kept}
use Rattle.breakpoints.specs.Seen.{MeetsStates, asks_states, seen_in}

-- the flow that an event names: none where a link becomes free
abbrev pub flow_of : Event → Option ℕ
flow_of (Start flow) = Some flow
flow_of (Rto flow) = Some flow
flow_of (DelAck flow) = Some flow
flow_of (Free link) = None
flow_of (Arrive packet) = Some packet.flow

abbrev pub arrival_kind : Kind → EventKind
arrival_kind Data = DataWord
arrival_kind Ack = AckWord

-- the kind of an event, as the trace names it
abbrev pub kind_of : Event → EventKind
kind_of (Start flow) = StartWord
kind_of (Rto flow) = RtoWord
kind_of (DelAck flow) = DelAckWord
kind_of (Free link) = FreeWord
kind_of (Arrive packet) = arrival_kind packet.kind

abbrev pub is_drop : Act → Bool
is_drop (Tx link packet) = false
is_drop (Dropped link reason packet) = true

-- the link of an act: that which sends the packet, or drops it
abbrev pub link_of_act : Act → ℕ
link_of_act (Tx link packet) = link
link_of_act (Dropped link reason packet) = link

abbrev pub is_at_link : ℕ → Act → Bool
is_at_link link act = link_of_act act == link

-- a packet of a flow begins to be sent
abbrev pub is_sent_of : ℕ → Act → Bool
is_sent_of flow (Tx link packet) = packet.flow == flow
is_sent_of flow (Dropped link reason packet) = false

-- the flow that starts, or of which a packet arrives, begins to send a packet by the event
abbrev pub sends_own : Event → List Act → Bool
sends_own (Start flow) acts = list_any (is_sent_of flow) acts
sends_own (Rto flow) acts = false
sends_own (DelAck flow) acts = false
sends_own (Free link) acts = false
sends_own (Arrive packet) acts = list_any (is_sent_of packet.flow) acts

-- a packet that carries this is dropped: the first byte of a segment, or the number of an acknowledgement
abbrev pub is_drop_of_byte : ℕ → Act → Bool
is_drop_of_byte number (Tx link packet) = false
is_drop_of_byte number (Dropped link reason packet) = packet.number == number

-- what an arriving packet carries, in the same way
abbrev pub byte_of : Event → Option ℕ
byte_of (Start flow) = None
byte_of (Rto flow) = None
byte_of (DelAck flow) = None
byte_of (Free link) = None
byte_of (Arrive packet) = Some packet.number

-- a line is of a byte: a packet that carries it is dropped, at whatever link, where drops are asked for, and else such a packet arrives
abbrev pub IsOfByte : Bool → ℕ → TraceLine → Type 0
IsOfByte true byte line = IsTrue (list_any (is_drop_of_byte byte) line.acts)
IsOfByte false byte line = byte_of line.event ≡ Some byte

-- the breakpoint that every line matches
abbrev pub asks_nothing : Break
asks_nothing = record { node = None; flow = None; kind = None; drops = false; link = None; byte = None; stall = None; values = no_values }

-- one condition more, in the place of another of its sort
abbrev pub asking : Break → Condition → Break
asking b (Node node) = record b { node = Some node }
asking b (Flow flow) = record b { flow = Some flow }
asking b (OfKind kind) = record b { kind = Some kind }
asking b Drop = record b { drops = true }
asking b (Link link) = record b { link = Some link }
asking b (Byte byte) = record b { byte = Some byte }
asking b (Stall asked) = record b { stall = Some asked }
asking b (Value condition) = record b { values = asking_value b.values condition }

-- a line meets each condition that a breakpoint asks for, of those on what lines show
pub record MeetsLine (b : Break) (line : TraceLine) : Type 0 where
  pub node : IfSome b.node (λ node. line.key.node ≡ node)
  pub flow : IfSome b.flow (λ flow. flow_of line.event ≡ Some flow)
  pub kind : IfSome b.kind (λ kind. kind_of line.event ≡ kind)
  pub drops : IsTrue b.drops → IsTrue (list_any is_drop line.acts)
  pub link : IfSome b.link (λ link. IsTrue (list_any (is_at_link link) line.acts))
  pub byte : IfSome b.byte (λ byte. IsOfByte b.drops byte line)
  pub values : MeetsValues b.values line

-- the flow that is asked for, or some flow, is stalled in a state, and was not in the one before
abbrev pub Stalls : StallOf → State → State → Type 0
Stalls AnyFlow before after = (flow : ℕ) × (becomes_stalled flow before after ≡ true)
Stalls (OneFlow flow) before after = becomes_stalled flow before after ≡ true

-- a breakpoint matches a line of a run, from the state before it to that after it: the line meets each condition, what the sender keeps and the states before and after it do, and by it a flow becomes stalled, where that is asked for
pub record Matches (b : Break) (before : State) (line : TraceLine) (after : State) : Type 0 where
  pub meets : MeetsLine b line
  pub kept : MeetsKept b.values line.after
  pub states : MeetsStates b.values before line after
  pub stalls : IfSome b.stall (λ asked. Stalls asked before after)

-- one of the breakpoints matches
abbrev pub IsHit : List Break → State → TraceLine → State → Type 0
IsHit breaks before line after = Any (λ b. Matches b before line after) breaks

-- a breakpoint is the first that matches; where it asks for a change, the value was this before
pub record HitsFirst (breaks : List Break) (old : State) (line : TraceLine) (new : State) (hit : Hit) : Type 0 where
  pub before : List Break
  pub after : List Break
  pub parted : breaks ≡ before ++ hit.breakpoint ∷ after
  pub at : hit.number ≡ length before + 1
  pub was : hit.was ≡ (seen_in old hit.breakpoint.values).change.value
  pub missed : ¬ IsHit before old line new
  pub matches : Matches hit.breakpoint old line new

-- the first that matches, or none does
abbrev pub IsFirstHit : List Break → State → TraceLine → State → Option Hit → Type 0
IsFirstHit breaks old line new None = ¬ IsHit breaks old line new
IsFirstHit breaks old line new (Some hit) = HitsFirst breaks old line new hit

-- a breakpoint asks for what lines do not show: a stall, what a sender keeps besides, a link's values, or a change
abbrev pub asks_unshown : Break → Bool
asks_unshown b = is_some b.stall || (asks_kept b.values || asks_states b.values)

abbrev pub AsksUnshown : List Break → Type 0
AsksUnshown breaks = Any (λ b. IsTrue (asks_unshown b)) breaks

-- a line meets the conditions of one of the breakpoints: where none asks for more, that one matches
abbrev pub IsLineHit : List Break → TraceLine → Type 0
IsLineHit breaks line = Any (λ b. MeetsLine b line) breaks

-- a breakpoint may match a line, by which no flow becomes stalled where it is quiet: the line meets each condition, and no stall is asked for there
abbrev pub MayMatch : Bool → TraceLine → Break → Type 0
MayMatch quiet line b = (IsTrue quiet → IsNone b.stall) × MeetsLine b line

-- one of the breakpoints may match
abbrev pub IsMayHit : List Break → Bool → TraceLine → Type 0
IsMayHit breaks quiet line = Any (MayMatch quiet line) breaks

-- the breakpoint at an index was taken out, and the others stay in their order
pub record IsTakenOut (old new : List Break) (index : ℕ) (b : Break) : Type 0 where
  pub before : List Break
  pub after : List Break
  pub was : old ≡ before ++ b ∷ after
  pub at : length before ≡ index
  pub left : new ≡ before ++ after
