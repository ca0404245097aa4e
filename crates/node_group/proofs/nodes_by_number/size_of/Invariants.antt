use Rattle.std.proofs.Common.{◌≡◌, ◌≤◌, ◌==◌, take}
use Rattle.std.specs.List.{count_by}
use Rattle.node_group.proofs.nodes_by_number.size_of.Given as goal

-- those of the nodes so far that are in the group
abbrev pub invariant-loop-node : goal.invariant-loop-node
invariant-loop-node l = record {
  count : l.size ≡ count_by (λ entry. entry == l.number) (take l.node l.partition);
  few : l.size ≤ l.node;
}
