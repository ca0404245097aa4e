use Rattle.std.proofs.Common.{◌≡◌, take}
use Rattle.node_core.proofs.node.copies_of.Given as goal

-- a copy of each so far
abbrev pub invariant-loop-link : goal.invariant-loop-link
invariant-loop-link l = l.copies.items ≡ take l.link-index l.links
