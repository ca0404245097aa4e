use Rattle.std.proofs.Common.{◌≤◌, sym, subst}
use Rattle.node_group.specs.Group.{GroupValue}
use Rattle.node_group.proofs.AfterBoth.{after_both}
use Rattle.node_group.proofs.group_state.GroupState.run.Goals as goal

pub loop-preserved : goal.loop-preserved
loop-preserved c =
    let before = c.loop.invariant in
    let now = c.fire_below.ensures in (
      after_both c.args.end c.args.self.now c.loop.self c.fire_below.new.self before.0 now.after,
      now.on_run,
      subst (λ (v : GroupValue). c.args.end ≤ v.until) (sym now.after.rest) before.2,
    )
