-- What is found of the lines of a run that a breakpoint matches.
use Rattle.std.specs.Prelude.{◌≡◌, ℕ, Bool, true, false, List, Option, None, refl}
use Rattle.std.proofs.Common.{sym, subst, arith}
use Rattle.table_run.specs.State.{State}
use Rattle.breakpoints.specs.declared.breaks.Break.{Break}
use Rattle.debugger.specs.Moves.{RunGoesTo}
use Rattle.debugger.specs.Backwards.{FindsLast}

-- the last line so far that matches is found, and there is none where the first ends the run; or the run is at the first, but where memory was refused
abbrev pub HasSought : State → List Break → ℕ → ℕ → Bool → Option ℕ → Bool → Bool → Bool → Type 0
HasSought start breaks m p first found was is true = (is ≡ was) × FindsLast start breaks m p found × (first ≡ true → found ≡ None)
HasSought start breaks m p first found was is false = is ≡ false → (first ≡ true) × RunGoesTo start breaks m p

pub none_sought : (start : State) (breaks : List Break) (m : ℕ) (first : Bool) (found : Option ℕ) (refused : Bool) → found ≡ None → HasSought start breaks m m first found refused refused true
none_sought start breaks m first found refused none = (refl, subst (FindsLast start breaks m m) (sym none) (λ q above upto _. absurd (omega (arith, above, upto))), λ _. none)
