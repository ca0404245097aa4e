-- Ranges of numbers.
use Rattle.std.specs.Prelude.{ℕ, ◌≤◌}

-- n is one of the numbers from the least to the greatest
abbrev pub IsBetween : ℕ → ℕ → ℕ → Type 0
IsBetween least greatest n = (least ≤ n) × (n ≤ greatest)
