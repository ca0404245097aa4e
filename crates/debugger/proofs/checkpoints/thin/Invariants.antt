use Rattle.std.proofs.Common.{◌-◌, vec_len}
use Rattle.std.specs.List.{All, Contains}
use Rattle.debugger.proofs.checkpoints.thin.Given as goal

-- all that are left were there
abbrev pub invariant-loop-at : goal.invariant-loop-at
invariant-loop-at l = All (Contains l.initial.nets.items) l.nets.items

abbrev pub decreases-loop-at : goal.decreases-loop-at
decreases-loop-at l = vec_len l.nets - l.at
