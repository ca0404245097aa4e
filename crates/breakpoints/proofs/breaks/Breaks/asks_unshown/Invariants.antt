use Rattle.std.proofs.Common.{ℕ, ◌<◌, get_or}
use Rattle.std.specs.Prelude.{IsTrue}
use Rattle.breakpoints.specs.declared.breaks.Break.{Break}
use Rattle.breakpoints.specs.Breaks.{asks_unshown}
use Rattle.breakpoints.proofs.breaks.Breaks.asks_unshown.Given as goal

-- none so far asks for what lines do not show
abbrev pub invariant-loop-b : goal.invariant-loop-b
invariant-loop-b l = (k : ℕ) (d : Break) → k < l.b-index → IsTrue (asks_unshown (get_or l.b-items k d)) → ⊥
