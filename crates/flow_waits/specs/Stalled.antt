-- Whether a flow is stalled in a state of a net.
use Rattle.std.specs.Prelude.{ℕ, ◌==◌, ◌&&◌, ◌||◌, Bool, false, not, nat_lt, is_none, if◌then◌else◌, List, [], ◌∷◌, Option, None, Some}
use Rattle.std.specs.List.{list_any}
use Rattle.std.specs.Option.{option_or}
use Rattle.std.specs.FinMap as map
use Rattle.sim_time.specs.declared.key.Key.{Key}
use Rattle.reno_sender.specs.declared.fields.SenderFields.{SenderFields}
use Rattle.reno_sender.specs.Fields.{total}
use Rattle.port.specs.declared.acts.Act.{Act}
use Rattle.port.specs.declared.acts.Act.TheVariants.{Tx, Dropped}
use Rattle.node_core.specs.declared.event.Event.{Event}
use Rattle.node_core.specs.declared.event.Event.TheVariants.{Start, Rto, DelAck, Free, Arrive}
use Rattle.node_core.specs.Part.{PartState, sender_in}
use Rattle.table_run.specs.State.{State}
use Rattle.trace_text.specs.DumpParts.{has_waiting}

-- a sender, where it is the one that is asked for
abbrev pub sender_if : Bool → SenderFields → Option SenderFields
sender_if is_own f = if is_own then Some f else None

-- a node's sender, where it is a flow's
abbrev pub sender_for : ℕ → Option (ℕ × SenderFields) → Option SenderFields
sender_for flow None = None
sender_for flow (Some found) = sender_if (found.0 == flow) found.1

-- the sender of a flow, at the first of the nodes that sends it
abbrev pub sender_of : ℕ → List PartState → Option SenderFields
sender_of flow [] = None
sender_of flow (part ∷ parts) = option_or (sender_for flow (sender_in part.role)) (sender_of flow parts)

-- bytes of the flow are still to be acknowledged
abbrev pub is_unfinished : SenderFields → Bool
is_unfinished f = nat_lt f.una (total f)

-- the same of the sender of a flow, where there is one
abbrev pub is_some_unfinished : Option SenderFields → Bool
is_some_unfinished None = false
is_some_unfinished (Some f) = is_unfinished f

-- a packet of a flow waits at a link that leaves a node
abbrev pub waits_at : ℕ → PartState → Bool
waits_at flow part = list_any (has_waiting flow) part.links

-- a packet of a flow waits at a link
abbrev pub is_waiting : ℕ → List PartState → Bool
is_waiting flow parts = list_any (waits_at flow) parts

-- an event is the start of a flow
abbrev pub is_start_of : ℕ → Event → Bool
is_start_of flow (Start own) = own == flow
is_start_of flow (Rto own) = false
is_start_of flow (DelAck own) = false
is_start_of flow (Free link) = false
is_start_of flow (Arrive packet) = false

-- when a flow starts, in nanoseconds, where that is still to come
abbrev pub start_due : ℕ → List (Key × Event) → Option ℕ
start_due flow [] = None
start_due flow (entry ∷ pending) = if is_start_of flow entry.1 then Some entry.0.time else start_due flow pending

-- an event is the arrival of a packet of a flow
abbrev pub is_arrival_of : ℕ → Event → Bool
is_arrival_of flow (Start own) = false
is_arrival_of flow (Rto own) = false
is_arrival_of flow (DelAck own) = false
is_arrival_of flow (Free link) = false
is_arrival_of flow (Arrive packet) = packet.flow == flow

-- a packet of a flow is under way: a link has begun to send it, and it has not arrived
abbrev pub is_under_way : ℕ → List (Key × Event) → Bool
is_under_way flow pending = list_any (λ (entry : Key × Event). is_arrival_of flow entry.1) pending

-- a packet of a flow is in the net
abbrev pub has_packets : ℕ → List PartState → List (Key × Event) → Bool
has_packets flow parts pending = is_waiting flow parts || is_under_way flow pending

-- as the nodes have it: bytes of the flow are still to be acknowledged, and no packet of it waits
abbrev pub may_be_stalled : ℕ → List PartState → Bool
may_be_stalled flow parts = is_some_unfinished (sender_of flow parts) && not (is_waiting flow parts)

-- as the pending events have it: the flow was started, and no packet of it is under way
abbrev pub is_left_alone : ℕ → List (Key × Event) → Bool
is_left_alone flow pending = is_none (start_due flow pending) && not (is_under_way flow pending)

-- a flow is stalled where all four hold: at most a timer of its own goes on with it
abbrev pub is_stalled : ℕ → State → Bool
is_stalled flow state = may_be_stalled flow state.parts && is_left_alone flow (map.entries state.pending)

-- a flow is stalled in a state, and was not in the one before
abbrev pub becomes_stalled : ℕ → State → State → Bool
becomes_stalled flow before after = not (is_stalled flow before) && is_stalled flow after

-- a packet of a flow is dropped
abbrev pub is_drop_of : ℕ → Act → Bool
is_drop_of flow (Tx link packet) = false
is_drop_of flow (Dropped link reason packet) = packet.flow == flow

-- an event that leaves a flow with less that goes on with it: its start, the arrival of a packet of it, or a link that becomes free and whose queue drops one
abbrev pub may_stall : ℕ → Event → List Act → Bool
may_stall flow (Start own) acts = own == flow
may_stall flow (Rto own) acts = false
may_stall flow (DelAck own) acts = false
may_stall flow (Free link) acts = list_any (is_drop_of flow) acts
may_stall flow (Arrive packet) acts = packet.flow == flow

-- the flow of a packet that is dropped is stalled
abbrev pub is_stalled_by_drop : State → Act → Bool
is_stalled_by_drop state (Tx link packet) = false
is_stalled_by_drop state (Dropped link reason packet) = is_stalled packet.flow state

-- a flow for which an event may do so is stalled after it
abbrev pub some_stalls : Event → List Act → State → Bool
some_stalls (Start own) acts state = is_stalled own state
some_stalls (Rto own) acts state = false
some_stalls (DelAck own) acts state = false
some_stalls (Free link) acts state = list_any (is_stalled_by_drop state) acts
some_stalls (Arrive packet) acts state = is_stalled packet.flow state
