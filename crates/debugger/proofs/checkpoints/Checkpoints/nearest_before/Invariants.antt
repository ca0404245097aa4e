use Rattle.debugger.proofs.Moments.{Begins}
use Rattle.debugger.proofs.checkpoints.Checkpoints.nearest_before.Given as goal

-- the best so far is one from which the move can begin
abbrev pub invariant-loop-net : goal.invariant-loop-net
invariant-loop-net l = Begins l.fn.self l.time l.best
