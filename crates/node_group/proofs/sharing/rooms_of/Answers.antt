use Rattle.std.proofs.Common.{◌+◌, [], ◌∷◌, length, length-append, ap, sym, subst, ◌∙◌}
use Rattle.node_group.specs.GroupStates.{IsRoom, AreRooms}
use Rattle.node_group.proofs.Seating.{rooms_more}
use Rattle.node_group.proofs.sharing.rooms_of.Goals as goal

pub loop-number-preserved : goal.loop-number-preserved
loop-number-preserved c =
    let more = c.in_ok-push.ensures.items in
    record {
      size = ap length more ∙ length-append c.loop-number.rooms.items (c.in_ok-room_of.field-0 ∷ []) ∙ ap (λ n. n + 1) c.loop-number.invariant.size;
      each_room = subst (AreRooms c.args.partition.now c.args.links.now.items c.args.nodes.now) (sym more)
          (rooms_more c.args.partition.now c.args.links.now.items c.args.nodes.now c.loop-number.rooms.items c.in_ok-room_of.field-0 c.loop-number.invariant.each_room
          (subst (λ n. IsRoom c.args.partition.now c.args.links.now.items c.args.nodes.now n c.in_ok-room_of.field-0) (sym c.loop-number.invariant.size) c.in_ok-room_of.ensures));
    }
