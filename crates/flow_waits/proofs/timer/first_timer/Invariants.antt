-- None of the events before is a timer of the flow.
use Rattle.std.proofs.Common.{◌≡◌, drop}
use Rattle.flow_waits.specs.FlowStatus.{first_timer}
use Rattle.flow_waits.proofs.timer.first_timer.Given as goal

abbrev pub invariant-loop-key : goal.invariant-loop-key
invariant-loop-key l = first_timer l.flow (drop l.key-index l.pending) ≡ first_timer l.flow l.pending
