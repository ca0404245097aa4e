use Rattle.std.proofs.Common.{ℕ, ◌<◌}
use Rattle.window_core.specs.Merged.{line_in}
use Rattle.debugger.specs.Aims.{IsMet}
use Rattle.debugger.proofs.aim.Aim.first_in.Given as goal

-- none so far is such a line
abbrev pub invariant-loop-index : goal.invariant-loop-index
invariant-loop-index l = (j : ℕ) → j < l.index → IsMet l.self (line_in l.batch.lines j) → ⊥
