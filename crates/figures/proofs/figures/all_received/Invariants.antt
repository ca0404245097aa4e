use Rattle.std.proofs.Common.{◌≡◌, ◌<◌, ℕ, length, slice_index_or}
use Rattle.net_machine.specs.Nodes.{node_at}
use Rattle.table_run.specs.Flow.{next_at}
use Rattle.figures.proofs.figures.all_received.Given as goal

-- of each node so far the next byte is known
abbrev pub invariant-loop-node : goal.invariant-loop-node
invariant-loop-node l = record {
  size : length l.all.items ≡ l.node-index;
  bytes : (place other : ℕ) → place < l.node-index → slice_index_or l.all.items place other ≡ next_at (node_at l.nodes place).part.role;
}
