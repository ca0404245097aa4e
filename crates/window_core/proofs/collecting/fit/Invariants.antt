use Rattle.std.proofs.Common.{◌≡◌, length}
use Rattle.window_core.proofs.collecting.fit.Given as goal

abbrev pub invariant-loop-number : goal.invariant-loop-number
invariant-loop-number l = length l.lists.items ≡ l._number
