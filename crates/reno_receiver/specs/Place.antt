-- Where a number belongs in a rising list.
use Rattle.std.specs.Prelude.{ℕ, ◌<◌, ◌≤◌, List, length, slice_index}

-- those before the place are below the number, and those from it on are above
pub record IsPlaceOf (number : ℕ) (numbers : List ℕ) (place : ℕ) : Type 0 where
  pub within : place ≤ length numbers
  pub before : (k : ℕ) → k < place → slice_index numbers k < number
  pub after : (k : ℕ) → place ≤ k → k < length numbers → number < slice_index numbers k
