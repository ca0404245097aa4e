use Rattle.std.proofs.Common.{◌≡◌, false}
use Rattle.tests_nets.proofs.windows.refused.windows_of.Given as goal

abbrev pub invariant-loop-count : goal.invariant-loop-count
invariant-loop-count g l = l.window.out ≡ false
