use Rattle.std.proofs.Common.{◌≤◌}
use Rattle.debugger.specs.Moves.{Passes}
use Rattle.debugger.proofs.checkpoints.Checkpoints.nearest.Given as goal

-- the best so far is of the run, and not past the target
abbrev pub invariant-loop-net : goal.invariant-loop-net
invariant-loop-net l = record {
  on_run : Passes l.fn.self l.best;
  below : l.best.position ≤ l.target;
}
