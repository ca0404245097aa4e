-- A stretch of a run before a moment.
use Rattle.std.specs.Prelude.{◌≡◌, ◌+◌, ◌<◌, ◌≤◌, ℕ, List, [], length, Some, refl}
use Rattle.std.proofs.Common.{arith}
use Rattle.std.specs.List.{AllByRecursion}
use Rattle.sim_time.specs.declared.key.Key.{Key}
use Rattle.node_core.specs.declared.event.Event.{Event}
use Rattle.node_core.specs.TraceLine.{TraceLine}
use Rattle.table_run.specs.State.{State, due, run}
use Rattle.net_machine.specs.Run.{Reached}

-- the run goes on from the one to the other by these lines, which are all before a moment
pub record RunsBefore (moment : ℕ) (old new : Reached) : Type 0 where
  pub lines : List TraceLine
  pub comes : run old.state (length lines) ≡ Some (lines, new.state)
  pub position : new.position ≡ old.position + length lines
  pub early : AllByRecursion (λ (line : TraceLine). line.key.time < moment) lines

pub runs_none : (moment : ℕ) (at : Reached) → RunsBefore moment at at
runs_none moment at = record { lines = []; comes = refl; position = omega arith; early = tt }

-- the next event, if one is due, is before a moment
abbrev pub IsNextBefore : ℕ → State → Type 0
IsNextBefore moment s = (k : Key) (v : Event) → due s ≡ Some (k, v) → k.time < moment

-- none is due before it
abbrev pub IsHeldAt : ℕ → State → Type 0
IsHeldAt moment s = (k : Key) (v : Event) → due s ≡ Some (k, v) → moment ≤ k.time
