use Rattle.std.proofs.Common.{◌≡◌, ◌+◌, ◌≤◌, ◌++◌, All, length, map, vec_len}
use Rattle.std.specs.Prelude.{vec_capacity}
use Rattle.std.specs.Vec.Iter.{into_iter_items}
use Rattle.window_core.specs.Group.{GroupValue}
use Rattle.window_workers.specs.Laid.{laid_for}
use Rattle.window_workers.proofs.apart.pieces_of.Given as goal

abbrev pub invariant-loop-group : goal.invariant-loop-group
invariant-loop-group l =
    let rest = into_iter_items l.group-iterator in
    (l.pieces.items ++ map (laid_for l.end) rest ≡ map (laid_for l.end) l.fn.groups.items)
    × (vec_len l.pieces + length rest ≤ vec_capacity l.pieces)
    × All (λ (g : GroupValue). l.end ≤ g.until) rest
