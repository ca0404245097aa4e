-- What a move by windows looks for, and where it goes.
use Rattle.std.specs.Prelude.{◌≡◌, ◌≤◌, ◌+◌, ◌-◌, ℕ, false, List, Option, None, Some}
use Rattle.node_core.specs.TraceLine.{TraceLine}
use Rattle.table_run.specs.State.{State}
use Rattle.window_core.specs.Batches.{BatchValue}
use Rattle.debugger.specs.declared.aim.Aim.{Aim}
use Rattle.debugger.specs.declared.aim.Aim.TheVariants.{Hit, Moment}
use Rattle.breakpoints.specs.declared.breaks.Break.{Break}
use Rattle.breakpoints.specs.Breaks.{IsLineHit}
use Rattle.debugger.specs.declared.course.WindowedNet.{WindowedNet}
use Rattle.debugger.specs.Courses.{IsOnWindows, IsFirstIndex, HasNone}
use Rattle.debugger.specs.Moves.{Passes, HasPosition, RunsTo, UntilGoesTo}

-- the line meets the conditions of a breakpoint; or it is at a moment, or past it
abbrev pub IsMet : Aim → TraceLine → Type 0
IsMet (Hit breaks) line = IsLineHit breaks.now line
IsMet (Moment time) line = time ≤ line.key.time

-- the position behind the line of an index, or before it
abbrev pub end_at : Aim → BatchValue → ℕ → ℕ
end_at (Hit breaks) batch index = batch.first + index
end_at (Moment time) batch index = batch.first + index - 1

-- the move ends at the first line of a window that is looked for, or goes on
abbrev pub EndsIn : Aim → BatchValue → Option ℕ → Type 0
EndsIn aim batch None = HasNone (IsMet aim) batch
EndsIn aim batch (Some p) = (index : ℕ) × IsFirstIndex (IsMet aim) batch index × (p ≡ end_at aim batch index)

-- the same, with the states before and after the line, which do not matter
abbrev pub LineHit : List Break → State → TraceLine → State → Type 0
LineHit breaks before line after = IsLineHit breaks line

-- where a move from m goes: `run` with conditions on lines alone, or `until`
abbrev pub GoesTo : State → Aim → ℕ → ℕ → Type 0
GoesTo start (Hit breaks) m = RunsTo (LineHit breaks.now) start m
GoesTo start (Moment time) m = UntilGoesTo start time m

-- a move from m ends in the last window of a course, at a position that its net behind is not past; or with the run, where the course stands
abbrev pub IsSought : State → Aim → ℕ → WindowedNet → Option ℕ → Type 0
IsSought start aim m c (Some p) = IsOnWindows start p c × (HasPosition start p × GoesTo start aim m p)
IsSought start aim m c None = (c.engine.failed ≡ false) × (Passes start c.engine.net × GoesTo start aim m c.engine.net.position)
