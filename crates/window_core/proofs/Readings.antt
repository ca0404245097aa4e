-- What is read off the groups, one after another.
use Rattle.std.proofs.Common.{◌≡◌, ◌+◌, List, [], ◌∷◌, ◌++◌, length, map, refl, ap, length-append}
use Rattle.node_core.specs.TraceLine.{TraceLine}
use Rattle.node_group.specs.Group.{GroupValue}
use Rattle.line_merge.specs.Merged.{all_of}
use Rattle.window_core.specs.Window.{states_of}
use Rattle.window_law.specs.Windows.{all_lines}

-- the lines of all groups, as those of lists
pub lines_of_groups : (groups : List GroupValue) → all_lines (states_of groups) ≡ all_of (map (λ (g : GroupValue). g.lines) groups)
lines_of_groups [] = refl
lines_of_groups (g ∷ groups) = ap (λ (ls : List TraceLine). g.lines ++ ls) (lines_of_groups groups)

pub reported_more : (g : GroupValue) (groups : List GroupValue) → length (all_lines (states_of (g ∷ groups))) ≡ length g.lines + length (all_lines (states_of groups))
reported_more g groups = length-append g.lines (all_lines (states_of groups))
