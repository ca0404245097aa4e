use Rattle.tournament.specs.Words.{AreSameLeaves, IsClimbing}
use Rattle.tournament.proofs.words.rise_far.Given as goal

-- the words below this node are chosen, and none of those above it is; the leaves are as they were
abbrev pub invariant-loop-climb : goal.invariant-loop-climb
invariant-loop-climb l = record {
  leaves : AreSameLeaves l.initial.tree l.tree;
  climbing : IsClimbing l.tree l.climb.at l.climb.word;
}

abbrev pub decreases-loop-climb : goal.decreases-loop-climb
decreases-loop-climb l = l.climb.at
