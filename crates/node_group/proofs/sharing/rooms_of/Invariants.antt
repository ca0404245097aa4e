use Rattle.std.proofs.Common.{◌≡◌, length}
use Rattle.node_group.specs.GroupStates.{AreRooms}
use Rattle.node_group.proofs.sharing.rooms_of.Given as goal

-- each group so far has its room
abbrev pub invariant-loop-number : goal.invariant-loop-number
invariant-loop-number l = record {
  size : length l.rooms.items ≡ l.number;
  each_room : AreRooms l.partition l.links.items l.nodes l.rooms.items;
}
