use Rattle.std.proofs.Common.{◌≡◌, ℕ, ◌+◌, ◌<◌, length}
use Rattle.std.specs.Prelude.{slice_index}
use Rattle.tournament.specs.Words.{no_time, word_of}
use Rattle.tournament.proofs.words.unchosen.Given as goal

-- the words so far stand in the last half
abbrev pub invariant-loop-place : goal.invariant-loop-place
invariant-loop-place l = record {
  size : length l.tree.items ≡ l.places + l.place;
  words : (p : ℕ) → p < l.place → slice_index l.tree.items (l.places + p) ≡ word_of no_time p;
}
