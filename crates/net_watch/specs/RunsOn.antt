-- A stretch of a run.
use Rattle.std.specs.Prelude.{◌≡◌, ◌+◌, List, length, Some}
use Rattle.node_core.specs.TraceLine.{TraceLine}
use Rattle.table_run.specs.State.{run}
use Rattle.net_machine.specs.Run.{Reached}

-- the run goes on from the one to the other, by these lines and no others
pub record RunsOn (old new : Reached) : Type 0 where
  pub lines : List TraceLine
  pub comes : run old.state (length lines) ≡ Some (lines, new.state)
  pub position : new.position ≡ old.position + length lines
