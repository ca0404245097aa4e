use Rattle.std.proofs.Common.{ℕ, ◌<◌, get_or}
use Rattle.node_core.specs.TraceLine.{shown}
use Rattle.breakpoints.specs.declared.breaks.Break.{Break}
use Rattle.breakpoints.specs.Breaks.{MayMatch}
use Rattle.breakpoints.proofs.breaks.Breaks.may_hit.Given as goal

-- none so far may match
abbrev pub invariant-loop-b : goal.invariant-loop-b
invariant-loop-b l = (k : ℕ) (d : Break) → k < l.b-index → MayMatch l.quiet (shown l.line) (get_or l.b-items k d) → ⊥
