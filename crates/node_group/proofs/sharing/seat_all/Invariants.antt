use Rattle.std.proofs.Common.{◌≡◌, ◌≤◌, ◌-◌, length}
use Rattle.node_group.specs.GroupStates.{AreSeatedBelow}
use Rattle.node_group.proofs.Seating.{AreLeft}
use Rattle.node_group.proofs.sharing.seat_all.Given as goal

-- the last nodes are left, and the others have their seats
abbrev pub invariant-loop-node : goal.invariant-loop-node
invariant-loop-node l = record {
  left : AreLeft l.fn.nodes.items l.nodes.items;
  within : length l.nodes.items ≤ length l.fn.nodes.items;
  count : length l.rooms ≡ length l.initial.rooms;
  seated : AreSeatedBelow (length l.fn.nodes.items - length l.nodes.items) l.partition l._links l.fn.nodes.items l.rooms;
}

abbrev pub decreases-loop-node : goal.decreases-loop-node
decreases-loop-node l = goal.left-loop-node l
