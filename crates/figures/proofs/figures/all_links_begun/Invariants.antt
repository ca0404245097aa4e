use Rattle.std.proofs.Common.{◌≡◌, ◌<◌, ℕ, length, slice_index_or}
use Rattle.net_machine.specs.Nodes.{node_at}
use Rattle.figures.specs.Links.{AreLinksBegun}
use Rattle.figures.specs.declared.links.NodeLinks.{NodeLinks}
use Rattle.figures.proofs.figures.all_links_begun.Given as goal

-- of the links of each node so far nothing is counted
abbrev pub invariant-loop-node : goal.invariant-loop-node
invariant-loop-node l = record {
  size : length l.all.items ≡ l.node-index;
  figures : (place : ℕ) (other : NodeLinks) → place < l.node-index → AreLinksBegun l.since (node_at l.nodes place).part.links (slice_index_or l.all.items place other).figures.items;
}
