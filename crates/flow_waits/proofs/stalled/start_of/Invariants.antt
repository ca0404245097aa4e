-- None of the events before starts the flow.
use Rattle.std.proofs.Common.{◌≡◌, drop}
use Rattle.flow_waits.specs.Stalled.{start_due}
use Rattle.flow_waits.proofs.stalled.start_of.Given as goal

abbrev pub invariant-loop-key : goal.invariant-loop-key
invariant-loop-key l = start_due l.flow (drop l.key-index l.pending) ≡ start_due l.flow l.pending
