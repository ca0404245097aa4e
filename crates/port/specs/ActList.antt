-- What an event did to packets, in the order done, and how many more acts there is memory for.
use Rattle.std.specs.Prelude.{ℕ, List}
use Rattle.port.specs.declared.acts.Act.{Act}

pub record ActList : Type 0 where
  pub acts : List Act
  pub room : ℕ
