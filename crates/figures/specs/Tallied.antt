-- What a tally of values holds.
use Rattle.std.specs.Prelude.{◌≡◌, ◌≤◌, ◌<◌, ◌^◌, ℕ, false, List, length, slice_index, All}
use Rattle.figures.specs.declared.tally.Tally.{Tally}
use Rattle.figures.specs.Classes.{in_class, greatest}

-- the tally is that of these values, which are below 2^50; the lowest class has those that are in no other, and where memory was refused some are in no count
pub record IsTallyOf (xs : List ℕ) (t : Tally) : Type 0 where
  pub each : t.refused ≡ false → (c : ℕ) → 1 ≤ c → c < 1472 → slice_index t.counts.items c ≡ in_class xs c
  pub count_is : t.count ≡ length xs
  pub greatest_is : t.greatest ≡ greatest xs
  pub below : All (λ x. x < 2 ^ 50) xs
