use Rattle.std.proofs.Common.{ℕ, ◌<◌, get_or}
use Rattle.node_core.specs.TraceLine.{shown}
use Rattle.breakpoints.specs.declared.breaks.Break.{Break}
use Rattle.breakpoints.specs.Breaks.{MeetsLine}
use Rattle.breakpoints.proofs.breaks.Breaks.hits_line.Given as goal

-- the line meets the conditions of none so far
abbrev pub invariant-loop-b : goal.invariant-loop-b
invariant-loop-b l = (k : ℕ) (d : Break) → k < l.b-index → MeetsLine (get_or l.b-items k d) (shown l.line) → ⊥
