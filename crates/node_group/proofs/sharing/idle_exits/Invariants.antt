use Rattle.std.proofs.Common.{◌≡◌, ◌<◌, ℕ, length}
use Rattle.node_group.specs.Held.{wire_at}
use Rattle.node_group.specs.GroupStates.{idle_wire}
use Rattle.node_group.proofs.sharing.idle_exits.Given as goal

-- each link so far has its wire
abbrev pub invariant-loop-link : goal.invariant-loop-link
invariant-loop-link l = record {
  size : length l.exits ≡ l.link;
  each_wire : (link : ℕ) → link < l.link → wire_at l.exits link ≡ idle_wire l.links l._nodes link;
}
