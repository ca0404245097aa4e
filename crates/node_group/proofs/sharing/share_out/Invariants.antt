use Rattle.std.proofs.Common.{◌≡◌, ◌<◌, ◌≤◌, ◌+◌, ◌-◌, ℕ, length, get_or, vec_capacity}
use Rattle.net_partition.specs.Partition.{groups_of}
use Rattle.node_group.specs.Group.{GroupValue}
use Rattle.node_group.specs.GroupStates.{AreSeatedBelow, IsGroupStateOf}
use Rattle.node_group.proofs.sharing.share_out.Given as goal

-- the first rooms are left, and the groups of the others have their states, the last first
abbrev pub invariant-loop-room : goal.invariant-loop-room
invariant-loop-room l = record {
  total : length l.rooms.items + length l.group_states.items ≡ groups_of l.partition;
  seated : AreSeatedBelow (length l.partition) l.partition l.links l.fn.nodes.items l.rooms.items;
  made : (i : ℕ) (d : GroupValue) → i < length l.group_states.items → IsGroupStateOf l.partition l.links l.fn.nodes.items l.end l.position (groups_of l.partition - 1 - i) (get_or l.group_states.items i d);
  room : length l.rooms.items + length l.group_states.items ≤ vec_capacity l.group_states;
  kept : vec_capacity l.group_states ≡ vec_capacity l.fn.group_states;
}

abbrev pub decreases-loop-room : goal.decreases-loop-room
decreases-loop-room l = goal.left-loop-room l
