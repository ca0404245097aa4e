use Rattle.std.proofs.Common.{◌≡◌, ℕ, ◌*◌, ◌<◌, ◌≤◌, length}
use Rattle.tournament.specs.Tournament.{AreOwn, AreWithin, IsWon}
use Rattle.tournament.proofs.matches.play_all.Given as goal

-- the matches from here on are played
abbrev pub invariant-loop-at : goal.invariant-loop-at
invariant-loop-at l = record {
  size : length l.winners ≡ 2 * length l.leaves;
  inner : l.at ≤ length l.leaves;
  within : AreWithin (length l.leaves) l.winners;
  own : AreOwn (length l.leaves) l.winners;
  won : (j : ℕ) → l.at ≤ j → 0 < j → 2 * j < length l.winners → IsWon l.leaves l.winners j;
}

abbrev pub decreases-loop-at : goal.decreases-loop-at
decreases-loop-at l = l.at
