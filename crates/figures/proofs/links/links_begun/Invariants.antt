use Rattle.std.proofs.Common.{◌≡◌, ◌<◌, ℕ, length, slice_index_or}
use Rattle.node_core.specs.Part.{link_at}
use Rattle.figures.specs.Links.{IsLinkBegun}
use Rattle.figures.specs.declared.link.LinkFigures.{LinkFigures}
use Rattle.figures.proofs.links.links_begun.Given as goal

-- of each link so far nothing is counted
abbrev pub invariant-loop-link : goal.invariant-loop-link
invariant-loop-link l = record {
  size : length l.all.items ≡ l.link-index;
  figures : (i : ℕ) (other : LinkFigures) → i < l.link-index → IsLinkBegun l.since (link_at l.links i).port (slice_index_or l.all.items i other);
}
