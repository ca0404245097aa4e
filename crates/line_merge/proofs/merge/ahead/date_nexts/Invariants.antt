use Rattle.std.proofs.Common.{◌≡◌, ℕ, ◌<◌, length, get_or}
use Rattle.std.specs.List.{slice_get}
use Rattle.std.specs.Option.{option_map}
use Rattle.node_core.specs.TraceLine.{TraceLine}
use Rattle.line_merge.specs.Ahead.{next_moment_in}
use Rattle.line_merge.specs.Merged.{lines_of}
use Rattle.line_merge.proofs.merge.ahead.date_nexts.Given as goal

abbrev pub invariant-loop-list : goal.invariant-loop-list
invariant-loop-list l = record {
  size : length l.moments ≡ length l.lists;
  dated : (i : ℕ) → i < l.list → get_or l.moments i 0 ≡ next_moment_in i (option_map (λ (line : TraceLine). line.key) (slice_get (lines_of l.lists i) (get_or l.nexts i 0)));
}
