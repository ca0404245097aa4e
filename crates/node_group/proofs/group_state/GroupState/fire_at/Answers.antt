use Rattle.std.proofs.Common.{◌+◌, List, set, take, map, sym, subst, arith}
use Rattle.std.proofs.lemmas.List.{length-set}
use Rattle.node_core.specs.TraceLine.{shown}
use Rattle.net_machine.specs.declared.places.LinkEnds.{LinkEnds}
use Rattle.net_machine.specs.Region.{CanRun, CanGoOn, HasHappened}
use Rattle.node_group.specs.Passing.{nodes_of, number_of, with_node, CanPass, HasPassed}
use Rattle.node_group.specs.Seats.{number_at}
use Rattle.node_group.specs.Group.{GroupValue, IsDueBelow, IsFiring}
use Rattle.node_group.specs.GroupStateOf.{group_of}
use Rattle.node_group.proofs.Endings.{can_run, can_go}
use Rattle.node_group.proofs.Lines.{has_fired_into}
use Rattle.node_group.proofs.group_state.GroupState.fire_at.Goals as goal

pub run_event-requires-clause-can_run : goal.run_event-requires-clause-can_run
run_event-requires-clause-can_run c =
    let s = c.self.inside in
    let d : IsDueBelow c.args._end (group_of s) (number_of s.area c.args.at) = subst (λ (v : GroupValue). IsDueBelow c.args._end v (number_at v.seats c.args.at)) (sym c.self.view_is) c.requires in
    subst (λ (links : List LinkEnds). CanRun links (nodes_of s.area) (number_of s.area c.args.at)) (sym c.deref.ensures.value) (can_run d)

pub run_event-requires-clause-can_go_on : goal.run_event-requires-clause-can_go_on
run_event-requires-clause-can_go_on c =
    let s = c.self.inside in
    let d : IsDueBelow c.args._end (group_of s) (number_of s.area c.args.at) = subst (λ (v : GroupValue). IsDueBelow c.args._end v (number_at v.seats c.args.at)) (sym c.self.view_is) c.requires in
    subst (λ (links : List LinkEnds). CanGoOn nodes_of with_node (CanPass links) s.area (number_of s.area c.args.at)) (sym c.deref.ensures.value) (can_go d)

pub invariant_of-self-2 : goal.invariant_of-self-2
invariant_of-self-2 c =
    let s = c.self.inside in
    let d : IsDueBelow c.args._end (group_of s) (number_of s.area c.args.at) = subst (λ (v : GroupValue). IsDueBelow c.args._end v (number_at v.seats c.args.at)) (sym c.self.view_is) c.requires in
    let has = subst (λ (links : List LinkEnds). HasHappened nodes_of with_node (HasPassed links) s.area c.run_event.new.region (number_of s.area c.args.at) (shown c.run_event.new.line)) c.deref.ensures.value c.in_ok-run_event.ensures.ok in
    let firing = has_fired_into s c.args._end (number_of s.area c.args.at) c.self.invariant.count d c.make_room.new.lines.items c.in_ok-make_room.ensures.room c.make_room.ensures.kept c.run_event.new.line c.run_event.new.region has in
    let long = length-set c.make_room.new.lines.items s.count c.run_event.new.line in
    record { is_group = firing.is_group; count = omega (arith, c.in_ok-make_room.ensures.room, long); out_empty = c.run_event.ensures.empty }

pub returns-clause-ok : goal.returns-clause-ok
returns-clause-ok c =
    let s = c.self.inside in
    let d : IsDueBelow c.args._end (group_of s) (number_of s.area c.args.at) = subst (λ (v : GroupValue). IsDueBelow c.args._end v (number_at v.seats c.args.at)) (sym c.self.view_is) c.requires in
    let has = subst (λ (links : List LinkEnds). HasHappened nodes_of with_node (HasPassed links) s.area c.run_event.new.region (number_of s.area c.args.at) (shown c.run_event.new.line)) c.deref.ensures.value c.in_ok-run_event.ensures.ok in
    let firing = has_fired_into s c.args._end (number_of s.area c.args.at) c.self.invariant.count d c.make_room.new.lines.items c.in_ok-make_room.ensures.room c.make_room.ensures.kept c.run_event.new.line c.run_event.new.region has in
    subst (λ (v : GroupValue). IsFiring c.args._end v (record (group_of s) { seats = c.run_event.new.region.nodes_by_number; held = c.run_event.new.region.exits; lines = map shown (take (s.count + 1) (set c.make_room.new.lines.items s.count c.run_event.new.line)) })) c.self.view_is firing
