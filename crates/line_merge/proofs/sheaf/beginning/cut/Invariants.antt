use Rattle.std.proofs.Common.{◌≡◌, ◌≤◌, ◌<◌, ◌+◌, ℕ, length, get_or}
use Rattle.line_merge.specs.Merged.{all_of, lines_of, rests}
use Rattle.line_merge.specs.Sheaves.{IsCut}
use Rattle.line_merge.proofs.sheaf.beginning.cut.Given as goal

-- the lists so far are cut, the others are whole
abbrev pub invariant-loop-number : goal.invariant-loop-number
invariant-loop-number l = record {
  size : length l.nexts ≡ length l.lists;
  cuts : (i : ℕ) → i < l.number → IsCut l.moment (get_or l.nexts i 0) (lines_of l.lists i);
  whole : (i : ℕ) → l.number ≤ i → get_or l.nexts i 0 ≡ 0;
  count : l.at + length (all_of (rests l.lists l.nexts)) ≡ length (all_of l.lists);
}
