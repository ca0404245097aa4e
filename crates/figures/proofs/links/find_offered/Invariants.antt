use Rattle.std.proofs.Common.{◌<◌, ℕ}
use Rattle.figures.specs.Links.{IsUnoffered}
use Rattle.figures.proofs.links.find_offered.Given as goal

-- to no link so far packets were offered
abbrev pub invariant-loop-i : goal.invariant-loop-i
invariant-loop-i l = (i : ℕ) → i < l.i → IsUnoffered l.figures l.links i
