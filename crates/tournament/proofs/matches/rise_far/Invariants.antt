use Rattle.tournament.specs.Replayed.{IsRisingMatch}
use Rattle.tournament.proofs.matches.rise_far.Given as goal

-- the matches below this node are played, and none of those above it is
abbrev pub invariant-loop-climb : goal.invariant-loop-climb
invariant-loop-climb l = IsRisingMatch l.leaves l.winners l.climb.at l.climb.first l.climb.moment

abbrev pub decreases-loop-climb : goal.decreases-loop-climb
decreases-loop-climb l = l.climb.at
