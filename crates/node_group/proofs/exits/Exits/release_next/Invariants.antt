use Rattle.std.proofs.Common.{◌≡◌, [], length, vec_capacity}
use Rattle.node_group.specs.Held.{AreListed}
use Rattle.node_group.proofs.exits.Exits.release_next.Given as goal

-- the outgoing messages are as they were, and the list still has all of them
abbrev pub invariant-loop-link : goal.invariant-loop-link
invariant-loop-link l = record {
  wires : l.self-inside.held.items ≡ l.initial.self-inside.held.items;
  listed : AreListed l.self-inside.held.items l.self-inside.busy.items (vec_capacity l.self-inside.busy);
  empty : l.packets ≡ [];
}

abbrev pub decreases-loop-link : goal.decreases-loop-link
decreases-loop-link l = length l.self-inside.busy.items
