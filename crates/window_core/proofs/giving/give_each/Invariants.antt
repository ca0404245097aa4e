-- the lists so far have no line, and the groups are as they were
use Rattle.std.proofs.Common.{◌≡◌, ◌<◌, ℕ, [], length}
use Rattle.line_merge.specs.Merged.{lines_of}
use Rattle.window_core.proofs.giving.give_each.Given as goal

abbrev pub invariant-loop-at : goal.invariant-loop-at
invariant-loop-at l = record {
  size : length l.lists ≡ length l.initial.group_states;
  none : (i : ℕ) → i < l.at → lines_of l.lists i ≡ [];
  group_states : l.group_states ≡ l.initial.group_states;
}
