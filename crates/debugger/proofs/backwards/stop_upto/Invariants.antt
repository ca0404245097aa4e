use Rattle.std.proofs.Common.{◌≡◌, ◌≤◌}
use Rattle.debugger.specs.Backwards.{NoneStops}
use Rattle.debugger.proofs.backwards.stop_upto.Given as goal

-- what was searched has no stop
abbrev pub invariant-loop-last : goal.invariant-loop-last
invariant-loop-last l = record {
  same : l.checkpoints ≡ l.fn.checkpoints;
  within : l.last ≤ l.upto;
  none : NoneStops l.fn.checkpoints l.breaks l.last l.upto;
}

-- each stretch has a line
abbrev pub decreases-loop-last : goal.decreases-loop-last
decreases-loop-last l = l.last
