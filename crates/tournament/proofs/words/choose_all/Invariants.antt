use Rattle.std.proofs.Common.{◌≡◌, ℕ, ◌*◌, ◌<◌, ◌≤◌, length}
use Rattle.std.specs.Prelude.{slice_index}
use Rattle.tournament.specs.Words.{IsLesser}
use Rattle.tournament.proofs.words.choose_all.Given as goal

-- the words from here on are chosen
abbrev pub invariant-loop-at : goal.invariant-loop-at
invariant-loop-at l = record {
  size : length l.tree ≡ 2 * l.places;
  inner : l.at ≤ l.places;
  leaves : (p : ℕ) → l.places ≤ p → slice_index l.tree p ≡ slice_index l.initial.tree p;
  lesser : (j : ℕ) → l.at ≤ j → 0 < j → 2 * j < length l.tree → IsLesser l.tree j;
}

abbrev pub decreases-loop-at : goal.decreases-loop-at
decreases-loop-at l = l.at
