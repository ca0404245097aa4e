use Rattle.std.proofs.Common.{◌≤◌}
use Rattle.line_merge.proofs.sheaf.parting.note.Given as goal

abbrev pub invariant-loop-nth : goal.invariant-loop-nth
invariant-loop-nth l = l.count ≤ 256
