-- What a turn gives.
use Rattle.std.specs.Prelude.{ℕ, List}
use Rattle.node_core.specs.TraceLine.{TraceLine}

-- lines in the order of their keys, and the number of the first in the run, or of the next to come where there is none
pub record BatchValue : Type 0 where
  pub first : ℕ
  pub lines : List TraceLine
