-- How a run is shared out.
use Rattle.std.specs.Prelude.{ℕ, List}

-- among so many workers, by the groups that a text names
pub record SharingValue : Type 0 where
  pub workers : ℕ
  pub groups : List ℕ
