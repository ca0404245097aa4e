use Rattle.std.proofs.Common.{◌≡◌, false}
use Rattle.tests_nets.proofs.windows.apart.windows_of_both.Given as goal

abbrev pub invariant-loop-count : goal.invariant-loop-count
invariant-loop-count g l = (l.apart.out ≡ false) × (l.whole.out ≡ false)
