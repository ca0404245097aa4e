use Rattle.std.proofs.Common.{◌≡◌, ◌<◌, ◌+◌, ◌-◌, ◌++◌, length, set, get_or, refl, sym, ap, subst, ◌∙◌, arith}
use Rattle.std.proofs.lemmas.List.{length-set, length-reverse}
use Rattle.std.specs.Option.{option_to_list}
use Rattle.node_core.specs.Node.{NodeState}
use Rattle.node_group.specs.declared.group_state.GroupStateParts.{GroupStateParts}
use Rattle.net_partition.specs.Partition.{group_in}
use Rattle.node_group.specs.GroupStates.{AreSeatedBelow}
use Rattle.net_partition.proofs.Partitions.{upto_greatest}
use Rattle.node_group.proofs.Seating.{AreLeft, IsNext, all_left, next_left, seated_none, has_room, seated_one}
use Rattle.node_group.proofs.sharing.seat_all.Goals as goal

pub loop-node-init : goal.loop-node-init
loop-node-init c =
    let all = c.args.nodes.now.items in
    let turned = c.reverse.ensures.items in
    let size : length c.reverse.new.self.items ≡ length all = ap length turned ∙ length-reverse all in
    let none : length all - length c.reverse.new.self.items ≡ 0 = omega (arith, size) in
    record {
      left = subst (AreLeft all) (sym turned) (all_left all);
      within = omega (arith, size);
      count = refl;
      seated = subst (λ n. AreSeatedBelow n c.args.partition.now c.args._links.now all c.args.rooms.now) (sym none) (seated_none c.args.partition.now c.args._links.now all c.args.rooms.now c.requires.rooms);
    }

pub offset_bounds-rooms-group : goal.offset_bounds-rooms-group
offset_bounds-rooms-group c =
    let upto = upto_greatest c.args.partition.now c.from-place.result in
    omega (arith, upto, c.group.ensures, c.requires.groups, c.requires.few)

pub bounds-rooms-group : goal.bounds-rooms-group
bounds-rooms-group c =
    let upto = upto_greatest c.args.partition.now c.from-place.result in
    omega (arith, upto, c.group.ensures, c.requires.groups, c.loop-node.invariant.count)

pub join-requires-clause-within : goal.join-requires-clause-within
join-requires-clause-within c =
    let all = c.args.nodes.now.items in
    let before = c.pop.new.self.items in
    let inv = c.loop-node.invariant in
    let next : IsNext all c.loop-node.nodes.items before c.in-Some.node = next_left all c.loop-node.nodes.items before c.in-Some.node inv.left inv.within (c.pop.ensures.items ∙ ap (λ o. before ++ option_to_list o) c.in-Some.is) in
    let place_is = c.from-place.ensures ∙ c.number.ensures ∙ ap (λ (n : NodeState). n.number) next.node_is ∙ c.requires.placed.number (length all - length c.loop-node.nodes.items) next.within in
    let upto = upto_greatest c.args.partition.now c.from-place.result in
    let inside : c.group.result < length c.loop-node.rooms = omega (arith, upto, c.group.ensures, c.requires.groups, inv.count) in
    let many = (inv.seated c.group.result c.index-rooms-group.result inside).joined.count in
    omega (arith, many, next.within, c.requires.size, place_is)

pub join-requires-clause-room : goal.join-requires-clause-room
join-requires-clause-room c =
    let all = c.args.nodes.now.items in
    let before = c.pop.new.self.items in
    let inv = c.loop-node.invariant in
    let next : IsNext all c.loop-node.nodes.items before c.in-Some.node = next_left all c.loop-node.nodes.items before c.in-Some.node inv.left inv.within (c.pop.ensures.items ∙ ap (λ o. before ++ option_to_list o) c.in-Some.is) in
    let place = length all - length c.loop-node.nodes.items in
    let number_is = ap (λ (n : NodeState). n.number) next.node_is ∙ c.requires.placed.number place next.within in
    let upto = upto_greatest c.args.partition.now c.from-place.result in
    let inside : c.group.result < length c.loop-node.rooms = omega (arith, upto, c.group.ensures, c.requires.groups, inv.count) in
    let old : GroupStateParts = get_or c.loop-node.rooms c.group.result c.index-rooms-group.result in
    (has_room c.args.partition.now c.args._links.now all place (omega (arith, next.within, c.requires.size)) c.loop-node.rooms inv.seated
    c.group.result (c.group.ensures ∙ ap (group_in c.args.partition.now) (c.from-place.ensures ∙ c.number.ensures ∙ number_is)) inside old c.index-rooms-group.result refl c.in-Some.node next.node_is number_is).0

pub join-requires-clause-few : goal.join-requires-clause-few
join-requires-clause-few c =
    let all = c.args.nodes.now.items in
    let before = c.pop.new.self.items in
    let inv = c.loop-node.invariant in
    let next : IsNext all c.loop-node.nodes.items before c.in-Some.node = next_left all c.loop-node.nodes.items before c.in-Some.node inv.left inv.within (c.pop.ensures.items ∙ ap (λ o. before ++ option_to_list o) c.in-Some.is) in
    let place = length all - length c.loop-node.nodes.items in
    let number_is = ap (λ (n : NodeState). n.number) next.node_is ∙ c.requires.placed.number place next.within in
    let upto = upto_greatest c.args.partition.now c.from-place.result in
    let inside : c.group.result < length c.loop-node.rooms = omega (arith, upto, c.group.ensures, c.requires.groups, inv.count) in
    let old : GroupStateParts = get_or c.loop-node.rooms c.group.result c.index-rooms-group.result in
    (has_room c.args.partition.now c.args._links.now all place (omega (arith, next.within, c.requires.size)) c.loop-node.rooms inv.seated
    c.group.result (c.group.ensures ∙ ap (group_in c.args.partition.now) (c.from-place.ensures ∙ c.number.ensures ∙ number_is)) inside old c.index-rooms-group.result refl c.in-Some.node next.node_is number_is).1

pub loop-node-preserved : goal.loop-node-preserved
loop-node-preserved c =
    let all = c.args.nodes.now.items in
    let before = c.pop.new.self.items in
    let inv = c.loop-node.invariant in
    let next : IsNext all c.loop-node.nodes.items before c.in-Some.node = next_left all c.loop-node.nodes.items before c.in-Some.node inv.left inv.within (c.pop.ensures.items ∙ ap (λ o. before ++ option_to_list o) c.in-Some.is) in
    let place = length all - length c.loop-node.nodes.items in
    let number_is = ap (λ (n : NodeState). n.number) next.node_is ∙ c.requires.placed.number place next.within in
    let place_is = c.from-place.ensures ∙ c.number.ensures ∙ number_is in
    let upto = upto_greatest c.args.partition.now c.from-place.result in
    let inside : c.group.result < length c.loop-node.rooms = omega (arith, upto, c.group.ensures, c.requires.groups, inv.count) in
    let old : GroupStateParts = get_or c.loop-node.rooms c.group.result c.index-rooms-group.result in
    let after : place + 1 ≡ length all - length before = omega (arith, next.long, inv.within) in
    record {
      left = next.rest;
      within = omega (arith, next.long, inv.within);
      count = length-set c.loop-node.rooms c.group.result (record old { nodes_by_number = c.join.new.self }) ∙ inv.count;
      seated = subst (λ n. AreSeatedBelow n c.args.partition.now c.args._links.now all (set c.loop-node.rooms c.group.result (record old { nodes_by_number = c.join.new.self }))) after
          (seated_one c.args.partition.now c.args._links.now all place (omega (arith, next.within, c.requires.size)) c.loop-node.rooms inv.seated
          c.group.result (c.group.ensures ∙ ap (group_in c.args.partition.now) place_is) inside old c.index-rooms-group.result refl c.in-Some.node next.node_is number_is
          c.join.new.self c.join.ensures.nodes (c.join.ensures.index ∙ ap (λ n. set old.nodes_by_number.index.items n (length old.nodes_by_number.nodes.items)) place_is) c.join.ensures.capacity c.join.ensures.timetable);
    }
