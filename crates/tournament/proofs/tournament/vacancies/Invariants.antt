use Rattle.std.proofs.Common.{◌≡◌, ℕ, ◌<◌, length}
use Rattle.tournament.specs.Tournament.{IsVacantAt}
use Rattle.tournament.proofs.tournament.vacancies.Given as goal

abbrev pub invariant-loop-place : goal.invariant-loop-place
invariant-loop-place l = record { size : length l.leaves.items ≡ l.place; vacant : (p : ℕ) → p < l.place → IsVacantAt l.leaves.items p }
