use Rattle.std.proofs.Common.{arith, ap, length, ◌≤◌}
use Rattle.std.specs.Vec.Iter.{into_iter_items}
use Rattle.window_core.specs.Group.{GroupValue}
use Rattle.window_workers.specs.Laid.{laid_for}
use Rattle.window_workers.proofs.Laying.{All-rest, map_step}
use Rattle.window_workers.proofs.apart.pieces_of.Goals as goal

pub loop-group-preserved : goal.loop-group-preserved
loop-group-preserved c =
    let was = c.loop-group.invariant in
    let rest = into_iter_items c.loop-group.group-iterator in
    let more = into_iter_items c.next.new.self in
    let is = c.in-Some.ensures.steps.0 in (
      rw (c.push_reserved.ensures.items, c.new.ensures) (map_step (laid_for c.args.end) c.loop-group.pieces.items _ rest more c.in-Some.group is was.0),
      omega (arith, ap length is, was.1, c.push_reserved.ensures.len, c.push_reserved.ensures.capacity),
      All-rest (λ (g : GroupValue). c.args.end ≤ g.until) rest more c.in-Some.group is was.2,
    )
