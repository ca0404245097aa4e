use Rattle.std.proofs.Common.{◌≡◌, false}
use Rattle.tests_nets.proofs.windows.refused.goes_on.Given as goal

abbrev pub invariant-loop-group : goal.invariant-loop-group
invariant-loop-group g l = l.window.out ≡ false
