use Rattle.std.proofs.Common.{subst, arith}
use Rattle.node_group.specs.Seats.{number_at}
use Rattle.node_group.specs.Group.{GroupValue, IsDueBelow}
use Rattle.node_group.proofs.Lines.{reported_count, due_below}
use Rattle.node_group.proofs.group_state.GroupState.fire_below.Goals as goal

pub fire_at-requires : goal.fire_at-requires
fire_at-requires c =
    let s = c.self.inside in
    let reported = reported_count s.lines.items s.count c.self.invariant.count in
    subst (λ (v : GroupValue). IsDueBelow c.args.end v (number_at v.seats c.in-Some.at)) c.self.view_is
    (due_below s c.self.invariant c.args.self.now c.self.view_is c.requires.on_run c.args.end c.requires.within (number_at s.area.nodes_by_number c.in-Some.at) c.in-Some.time c.in-Some.ensures.first c.in-Some.ensures.time (omega (arith, c.if-time-end.false)) (omega (arith, c.self.invariant.is_group.fits, reported, c.if-self-eq-MOST_EVENTS.false)))
