use Rattle.std.proofs.Common.{◌≡◌, ◌+◌, ◌++◌, ◌∷◌, [], length, sym, ap, subst, ◌∙◌, arith, length-append}
use Rattle.std.specs.Option.{option_to_list}
use Rattle.net_partition.specs.Partition.{groups_of}
use Rattle.node_group.specs.GroupStates.{IsSeatedBelow}
use Rattle.node_group.proofs.SharedOut.{seats_in, front_seated, last_seated, none_missing, room_is_group, room_group_state, made_more, made_all}
use Rattle.node_group.proofs.sharing.share_out.Goals as goal

pub new-requires-clause-group : goal.new-requires-clause-group
new-requires-clause-group c =
    let before = c.pop.new.self.items in
    let more : c.loop-room.rooms.items ≡ before ++ c.in-Some.room ∷ [] = c.pop.ensures.items ∙ ap (λ o. before ++ option_to_list o) c.in-Some.is in
    let here = last_seated c.args.partition.now c.args.links.now c.args.nodes.items c.loop-room.rooms.items before c.in-Some.room more c.loop-room.invariant.seated in
    room_is_group c.args.nodes.items c.args.links.now c.args.end c.args.position c.requires.net c.args.partition.now c.requires.size c.len-number.result c.args.end c.in-Some.room
    (subst (λ n. IsSeatedBelow (length c.args.partition.now) c.args.partition.now c.args.links.now c.args.nodes.items n c.in-Some.room) (sym (c.len-number.ensures ∙ c.pop.new.self.ok.0)) here)

pub new-requires-clause-found : goal.new-requires-clause-found
new-requires-clause-found c =
    let before = c.pop.new.self.items in
    let more : c.loop-room.rooms.items ≡ before ++ c.in-Some.room ∷ [] = c.pop.ensures.items ∙ ap (λ o. before ++ option_to_list o) c.in-Some.is in
    (last_seated c.args.partition.now c.args.links.now c.args.nodes.items c.loop-room.rooms.items before c.in-Some.room more c.loop-room.invariant.seated).joined.found

pub new-requires-clause-rising : goal.new-requires-clause-rising
new-requires-clause-rising c =
    let before = c.pop.new.self.items in
    let more : c.loop-room.rooms.items ≡ before ++ c.in-Some.room ∷ [] = c.pop.ensures.items ∙ ap (λ o. before ++ option_to_list o) c.in-Some.is in
    (last_seated c.args.partition.now c.args.links.now c.args.nodes.items c.loop-room.rooms.items before c.in-Some.room more c.loop-room.invariant.seated).joined.rising

pub new-requires-clause-room : goal.new-requires-clause-room
new-requires-clause-room c =
    let before = c.pop.new.self.items in
    let more : c.loop-room.rooms.items ≡ before ++ c.in-Some.room ∷ [] = c.pop.ensures.items ∙ ap (λ o. before ++ option_to_list o) c.in-Some.is in
    none_missing c.args.partition.now c.args.links.now c.args.nodes.items (length before) c.in-Some.room
    (last_seated c.args.partition.now c.args.links.now c.args.nodes.items c.loop-room.rooms.items before c.in-Some.room more c.loop-room.invariant.seated)

pub new-requires-clause-empty : goal.new-requires-clause-empty
new-requires-clause-empty c =
    let before = c.pop.new.self.items in
    let more : c.loop-room.rooms.items ≡ before ++ c.in-Some.room ∷ [] = c.pop.ensures.items ∙ ap (λ o. before ++ option_to_list o) c.in-Some.is in
    (last_seated c.args.partition.now c.args.links.now c.args.nodes.items c.loop-room.rooms.items before c.in-Some.room more c.loop-room.invariant.seated).out_empty

pub loop-room-preserved : goal.loop-room-preserved
loop-room-preserved c =
    let before = c.pop.new.self.items in
    let inv = c.loop-room.invariant in
    let more : c.loop-room.rooms.items ≡ before ++ c.in-Some.room ∷ [] = c.pop.ensures.items ∙ ap (λ o. before ++ option_to_list o) c.in-Some.is in
    let here = last_seated c.args.partition.now c.args.links.now c.args.nodes.items c.loop-room.rooms.items before c.in-Some.room more inv.seated in
    let number_is = c.len-number.ensures ∙ c.pop.new.self.ok.0 in
    let long : length c.loop-room.rooms.items ≡ length before + 1 = ap length more ∙ length-append before (c.in-Some.room ∷ []) in
    let longer : length c.push_reserved.new.self.items ≡ length c.loop-room.group_states.items + 1 = ap length c.push_reserved.ensures.items ∙ length-append c.loop-room.group_states.items (c.new.result ∷ []) in
    let sum : length before + length c.loop-room.group_states.items + 1 ≡ groups_of c.args.partition.now = omega (arith, inv.total, long) in
    let group_state = room_group_state c.args.partition.now c.args.links.now c.args.nodes.items c.args.end c.args.position (length before) c.in-Some.room c.new.result here
    (c.new.ensures ∙ (λ i. record { number = number_is i; entries = c.args.partition.now; links = c.in-Some.room.links.items; seats = seats_in c.in-Some.room; held = c.in-Some.room.exits; lines = []; until = c.args.end; position = c.args.position })) in
    record {
      total = omega (arith, inv.total, long, longer);
      seated = front_seated c.args.partition.now c.args.links.now c.args.nodes.items c.loop-room.rooms.items before c.in-Some.room more inv.seated;
      made = subst (Rattle.node_group.proofs.SharedOut.AreMade c.args.partition.now c.args.links.now c.args.nodes.items c.args.end c.args.position (groups_of c.args.partition.now)) (sym c.push_reserved.ensures.items)
          (made_more c.args.partition.now c.args.links.now c.args.nodes.items c.args.end c.args.position (groups_of c.args.partition.now) c.loop-room.group_states.items c.new.result (length before) sum inv.made group_state);
      room = (let capacity = c.push_reserved.ensures.capacity in omega (arith, inv.room, long, longer, capacity));
      kept = c.push_reserved.ensures.capacity ∙ inv.kept;
    }
