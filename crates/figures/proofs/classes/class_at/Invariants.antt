-- so many values are up to the classes that are left, and that is enough
use Rattle.std.proofs.Common.{◌≡◌, ◌<◌, ◌≤◌, ◌-◌, ◌^◌, ℕ, List, length, All}
use Rattle.std.specs.Prelude.{slice_index}
use Rattle.figures.specs.Classes.{in_class, upto}
use Rattle.figures.proofs.classes.class_at.Given as goal

abbrev pub invariant-loop-class : goal.invariant-loop-class
invariant-loop-class l =
    (l.rank ≤ l.upto) × ((xs : List ℕ) → l.count ≡ length xs → All (λ x. x < 2 ^ 50) xs → ((c : ℕ) → 1 ≤ c → c < 1472 → slice_index l.counts c ≡ in_class xs c) → l.upto ≡ upto xs (l.class - 1))
