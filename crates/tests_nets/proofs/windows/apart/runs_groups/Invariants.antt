use Rattle.std.proofs.Common.{◌≡◌, false}
use Rattle.tests_nets.proofs.windows.apart.runs_groups.Given as goal

abbrev pub invariant-loop-group : goal.invariant-loop-group
invariant-loop-group g l = l.window.out ≡ false
