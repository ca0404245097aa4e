-- The events of a run, each with the state before it, its line and the state after.
use Rattle.std.specs.Prelude.{◌==◌, ℕ, zero, suc, if◌then◌else◌, List, [], ◌++◌, Option, Some, None, option_to_list}
use Rattle.std.specs.List.{filter_map}
use Rattle.std.specs.Option.{option_map}
use Rattle.packet_chain.specs.declared.packet.Kind.{Kind}
use Rattle.packet_chain.specs.declared.packet.Kind.TheVariants.{Data, Ack}
use Rattle.reno_sender.specs.declared.fields.SenderFields.{SenderFields}
use Rattle.node_core.specs.declared.event.Event.{Event}
use Rattle.node_core.specs.declared.event.Event.TheVariants.{Start, Rto, DelAck, Free, Arrive}
use Rattle.node_core.specs.Part.{sender_in}
use Rattle.node_core.specs.TraceLine.{TraceLine}
use Rattle.table_run.specs.State.{State, part_at, step, run}
use Rattle.figures.specs.declared.turn.Cause.{Cause}
use Rattle.figures.specs.declared.turn.Cause.TheVariants.{Starts, Acknowledged, TimesOut}
use Rattle.figures.specs.Turns.{Turn}

-- an event: the state before it, its line, and the state after it
pub record Moment : Type 0 where
  pub before : State
  pub line : TraceLine
  pub after : State

-- the event that follows so many lines and a state, if one is due
abbrev pub following : Option (List TraceLine × State) → List Moment
following None = []
following (Some so_far) = option_to_list (option_map (λ (next : TraceLine × State). record { before = so_far.1; line = next.0; after = next.1 }) (step so_far.1))

-- the first events from a state on
abbrev pub moments : State → ℕ → List Moment
moments s zero = []
moments s (suc n) = moments s n ++ following (run s n)

-- from where on a run is counted: a moment, the state in which the first event is due that is counted, how many events were before it, and these
pub record Base : Type 0 where
  pub since : ℕ
  pub state : State
  pub before : ℕ
  pub earlier : List Moment

-- why a sender acts at an event that is due at its node, if it does
abbrev pub arrived : Kind → ℕ → Option Cause
arrived Data number = None
arrived Ack number = Some (Acknowledged number)

abbrev pub cause_of : Event → Option Cause
cause_of (Start flow) = Some Starts
cause_of (Rto flow) = Some TimesOut
cause_of (DelAck flow) = None
cause_of (Free link) = None
cause_of (Arrive packet) = arrived packet.kind packet.number

-- what a sender does at an event, where there is one and it does anything
abbrev pub turn_by : Option (ℕ × SenderFields) → Event → ℕ → Option Turn
turn_by None event now = None
turn_by (Some found) event now = option_map (λ (cause : Cause). record { old = found.1; cause = cause; now = now }) (cause_of event)

-- what a node's sender does at an event
abbrev pub turn_at : ℕ → Moment → Option Turn
turn_at node m = if m.line.key.node == node then turn_by (sender_in (part_at m.before node).role) m.line.event m.line.key.time else None

-- all that it does
abbrev pub turns_at : ℕ → List Moment → List Turn
turns_at node ms = filter_map (turn_at node) ms
