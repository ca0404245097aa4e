use Rattle.std.proofs.Common.{◌≡◌, ◌++◌, ◌+◌, length, take, All}
use Rattle.window_law.specs.Windows.{in_order}
use Rattle.line_merge.specs.Merged.{AreNext, IsSpot, all_of, lines_at_spots, rests}
use Rattle.line_merge.proofs.merge.merge.Given as goal

-- the lines at the spots so far, and in order what is left
abbrev pub invariant-loop-spot : goal.invariant-loop-spot
invariant-loop-spot l = record {
  merged : lines_at_spots l.lists (take l.spot-index l.order) ++ in_order (all_of (rests l.lists l.nexts)) ≡ in_order (all_of l.lists);
  spots : All (IsSpot l.lists) (take l.spot-index l.order);
  next : AreNext l.lists l.nexts l.tournament;
  count : l.spot-index + length (all_of (rests l.lists l.nexts)) ≡ length l.order;
}
