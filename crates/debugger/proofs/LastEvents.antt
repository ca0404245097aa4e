-- What is told of the event that a position is behind.
use Rattle.std.proofs.Common.{◌≡◌, ◌+◌, ◌∙◌, ℕ, List, Bool, true, false, subst, arith, Some, Result, Ok, Err, IfOk}
use Rattle.node_core.specs.TraceLine.{TraceLine}
use Rattle.table_run.specs.State.{State}
use Rattle.breakpoints.specs.declared.breaks.Break.{Break}
use Rattle.breakpoints.specs.Breaks.{IsFirstHit}
use Rattle.net_machine.specs.Run.{Reached, Stepped}
use Rattle.debugger.specs.declared.fault.MoveFault.{MoveFault}
use Rattle.debugger.specs.declared.passed.LastEvent.{LastEvent}
use Rattle.debugger.specs.LastEvents.{IsOfLine, IsLastEvent, IsReportedOf}
use Rattle.debugger.specs.Moves.{Passes}

-- what is told of the line to a position
pub last_event : (start : State) (breaks : List Break) (old new : Reached) (line : TraceLine) (p : ℕ) (r : Result LastEvent MoveFault) → Passes start old → Stepped old (Some line) new → p ≡ new.position
    → IfOk r (IsOfLine line) → IfOk r (λ event. IsFirstHit breaks old.state line new.state event.hit) → IfOk r (IsLastEvent start breaks p)
last_event start breaks old new line p (Ok event) at next here shows first = record {
  line = line;
  given = record { before = old; after = new.state; passes = at; gives = next.0; is_next = here ∙ next.1 };
  shows = shows;
  first = first;
}
last_event start breaks old new line p (Err fault) at next here shows first = tt

-- what is told of the event that a position is behind
pub reported_last : (start : State) (breaks : List Break) (m p position : ℕ) (reported : Result LastEvent MoveFault) (on : Bool) → IsReportedOf start breaks m p reported on → m + 1 ≡ position → IfOk reported (IsLastEvent start breaks position)
reported_last start breaks m p position (Err fault) on h is = tt
reported_last start breaks m p position (Ok event) true h is = absurd h.1
reported_last start breaks m p position (Ok event) false h is = subst (λ q. IsLastEvent start breaks q event) (h.0 ∙ is) h.1
