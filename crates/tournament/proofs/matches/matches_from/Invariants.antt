use Rattle.std.proofs.Common.{◌≡◌, ◌*◌, ◌<◌, length}
use Rattle.tournament.specs.Tournament.{AreOwn, AreWithin}
use Rattle.tournament.specs.Replayed.{WonBut}
use Rattle.tournament.proofs.matches.matches_from.Given as goal

-- the matches from this node up to the root are not played yet
abbrev pub invariant-loop-at : goal.invariant-loop-at
invariant-loop-at l = record {
  size : length l.winners ≡ 2 * length l.leaves;
  inner : 2 * l.at < length l.winners;
  within : AreWithin (length l.leaves) l.winners;
  own : AreOwn (length l.leaves) l.winners;
  won : WonBut l.leaves l.winners l.at;
}

abbrev pub decreases-loop-at : goal.decreases-loop-at
decreases-loop-at l = l.at
