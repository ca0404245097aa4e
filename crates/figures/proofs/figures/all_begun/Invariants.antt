use Rattle.std.proofs.Common.{◌≡◌, ◌<◌, ℕ, length, slice_index_or, None}
use Rattle.net_machine.specs.Nodes.{node_at}
use Rattle.figures.specs.Senders.{IsBegun}
use Rattle.figures.specs.declared.sender.SenderFigures.{SenderFigures}
use Rattle.figures.proofs.figures.all_begun.Given as goal

-- of each node so far nothing is counted
abbrev pub invariant-loop-place : goal.invariant-loop-place
invariant-loop-place l = record {
  size : length l.all.items ≡ l.place;
  figures : (place : ℕ) (other : SenderFigures) → place < l.place → IsBegun (slice_index_or l.earlier place None) (node_at l.nodes place).part.role (slice_index_or l.all.items place other);
}
