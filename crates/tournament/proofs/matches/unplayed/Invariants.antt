use Rattle.std.proofs.Common.{◌≡◌, ℕ, ◌+◌, ◌<◌, length}
use Rattle.std.specs.Prelude.{slice_index}
use Rattle.tournament.specs.Tournament.{AreWithin}
use Rattle.tournament.proofs.matches.unplayed.Given as goal

-- the places so far stand in the last half
abbrev pub invariant-loop-place : goal.invariant-loop-place
invariant-loop-place l = record {
  size : length l.winners.items ≡ l.places + l.place;
  within : AreWithin l.places l.winners.items;
  own : (p : ℕ) → p < l.place → slice_index l.winners.items (l.places + p) ≡ p;
}
