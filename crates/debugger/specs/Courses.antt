-- A copy of a net on its way by windows, and what a window of it decides.
use Rattle.std.specs.Prelude.{◌≡◌, ◌<◌, ◌≤◌, ℕ, false, length, Option, None, Some}
use Rattle.node_core.specs.TraceLine.{TraceLine}
use Rattle.table_run.specs.State.{State, due}
use Rattle.net_machine.specs.Run.{Reached}
use Rattle.window_core.specs.Batches.{BatchValue}
use Rattle.window_core.specs.Merged.{line_in}
use Rattle.window_engine.specs.Engines.{GoesOn}
use Rattle.debugger.specs.declared.course.WindowedNet.{WindowedNet}
use Rattle.debugger.specs.Moves.{Passes}

-- the windows had no fault; their net is one of the run, and so is the net behind, which isn't past a position
pub record IsOnWindows (start : State) (most : ℕ) (c : WindowedNet) : Type 0 where
  pub running : c.engine.failed ≡ false
  pub ahead : Passes start c.engine.net
  pub behind : Passes start c.behind
  pub upto : c.behind.position ≤ most

-- a window was run and gave these lines; or none is left, and nothing is due
abbrev pub WentOn : Reached → Option BatchValue → Reached → Type 0
WentOn old None new = (due old.state ≡ None) × (new ≡ old)
WentOn old (Some batch) new = GoesOn old batch new

-- the index of the first line of which P holds
pub record IsFirstIndex (P : TraceLine → Type 0) (batch : BatchValue) (index : ℕ) : Type 0 where
  pub within : index < length batch.lines
  pub holds : P (line_in batch.lines index)
  pub before : (j : ℕ) → j < index → P (line_in batch.lines j) → ⊥

-- P holds of none of the lines
abbrev pub HasNone : (TraceLine → Type 0) → BatchValue → Type 0
HasNone P batch = (j : ℕ) → j < length batch.lines → P (line_in batch.lines j) → ⊥

-- the first line of which P holds, where there is one
abbrev pub Finds : (TraceLine → Type 0) → BatchValue → Option ℕ → Type 0
Finds P batch None = HasNone P batch
Finds P batch (Some index) = IsFirstIndex P batch index
