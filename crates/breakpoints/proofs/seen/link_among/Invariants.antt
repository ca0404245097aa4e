-- None of the links before is the one.
use Rattle.std.proofs.Common.{◌≡◌, drop}
use Rattle.breakpoints.specs.Seen.{link_among}
use Rattle.breakpoints.proofs.seen.link_among.Given as goal

abbrev pub invariant-loop-link : goal.invariant-loop-link
invariant-loop-link l = link_among l.number (drop l.link-index l.links) ≡ link_among l.number l.links
