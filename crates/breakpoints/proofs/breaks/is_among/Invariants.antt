use Rattle.std.proofs.Common.{◌≡◌, ℕ, ◌<◌, get_or}
use Rattle.breakpoints.specs.declared.breaks.Break.{Break}
use Rattle.breakpoints.proofs.breaks.is_among.Given as goal

-- none so far is the one
abbrev pub invariant-loop-index : goal.invariant-loop-index
invariant-loop-index l = (k : ℕ) (d : Break) → k < l.index → get_or l.breaks k d ≡ l.b → ⊥
