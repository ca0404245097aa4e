-- Which of the packets offered to a link are lost.
use Rattle.std.specs.Prelude.{ℕ, ◌<◌, ◌≤◌, ◌==◌, Bool, List, length, slice_index}
use Rattle.std.specs.List.{list_any}
use Rattle.std.specs.List.Sorted.{IsStrictlyIncreasing}

-- the numbers of the packets that are lost, counted from 1; how many packets were offered
pub record LossState : Type 0 where
  pub lose : List ℕ
  pub offered : ℕ

-- whether the offered packet of this number is lost
abbrev pub is_lost : List ℕ → ℕ → Bool
is_lost lose number = list_any (λ n. n == number) lose

-- the numbers rise; those before the place were offered, and those from it on are to come
pub record IsNextLoss (lose : List ℕ) (offered place : ℕ) : Type 0 where
  pub rises : IsStrictlyIncreasing lose
  pub passed : (k : ℕ) → k < place → slice_index lose k ≤ offered
  pub to_come : (k : ℕ) → place ≤ k → k < length lose → offered < slice_index lose k
