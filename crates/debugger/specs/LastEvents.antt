-- What the last event was, and which breakpoint stops at it.
use Rattle.std.specs.Prelude.{◌≡◌, ◌+◌, ℕ, Bool, true, false, List, Option, None, Some, Result, IfOk}
use Rattle.node_core.specs.declared.event.Event.{Event}
use Rattle.node_core.specs.declared.event.Event.TheVariants.{Start, Rto, DelAck, Free, Arrive}
use Rattle.node_core.specs.TraceLine.{TraceLine}
use Rattle.table_run.specs.State.{State}
use Rattle.breakpoints.specs.declared.breaks.Break.{Break}
use Rattle.debugger.specs.declared.fault.MoveFault.{MoveFault}
use Rattle.debugger.specs.declared.passed.LastEvent.{LastEvent}
use Rattle.breakpoints.specs.Breaks.{flow_of, IsFirstHit}
use Rattle.debugger.specs.Moves.{GivesAt}

-- the link that becomes free by an event
abbrev pub freed_link : Event → Option ℕ
freed_link (Start flow) = None
freed_link (Rto flow) = None
freed_link (DelAck flow) = None
freed_link (Free link) = Some link
freed_link (Arrive packet) = None

-- what a line shows of its event: the moment, the node, the flow that it names, and the link that becomes free
pub record IsOfLine (line : TraceLine) (event : LastEvent) : Type 0 where
  pub time : event.time ≡ line.key.time
  pub node : event.node ≡ line.key.node
  pub flow : event.flow ≡ flow_of line.event
  pub link : event.link ≡ freed_link line.event

-- the event before a position: what its line shows of it, and the first breakpoint that matches that
pub record IsLastEvent (start : State) (breaks : List Break) (p : ℕ) (event : LastEvent) : Type 0 where
  pub line : TraceLine
  pub given : GivesAt start line p
  pub shows : IsOfLine line event
  pub first : IsFirstHit breaks given.before.state line given.after event.hit

-- no event was run, and nothing is told; or one was, and it is told of, where there was memory
abbrev pub IsReportedOf : State → List Break → ℕ → ℕ → Result LastEvent MoveFault → Bool → Type 0
IsReportedOf start breaks m p reported true = (p ≡ m) × IfOk reported (λ _. ⊥)
IsReportedOf start breaks m p reported false = (p ≡ m + 1) × IfOk reported (IsLastEvent start breaks p)
