use Rattle.std.proofs.Common.{◌≡◌, ℕ, ◌<◌, length, false}
use Rattle.std.specs.Prelude.{slice_index}
use Rattle.tournament.specs.Tournament.{moment_of}
use Rattle.tournament.proofs.tournament.vacant_moments.Given as goal

abbrev pub invariant-loop-place : goal.invariant-loop-place
invariant-loop-place l = record { size : length l.moments.items ≡ l.place; vacant : (p : ℕ) → p < l.place → slice_index l.moments.items p ≡ moment_of 18446744073709551615 0 p false }
