-- What was found of a line, of each state before it that is one of a run.
use Rattle.std.proofs.Common.{◌≡◌, Bool, true, false, sym, ◌∙◌, true≢false, Result, Ok, IfOk}
use Rattle.std.specs.Prelude.{◌↔◌, IsTrue}
use Rattle.std.proofs.lemmas.Result.{IfOk-at_ok}

-- it was found
pub was_found : {E : Type 0} (P : Type 0) (r : Result Bool E) (found : Bool) → r ≡ Ok found → found ≡ true → IfOk r (λ b. IsTrue b ↔ P) → P
was_found P r found is test holds = (IfOk-at_ok (λ b. IsTrue b ↔ P) is holds).0 test

-- or it was not
pub was_not : {E : Type 0} (P : Type 0) (r : Result Bool E) (found : Bool) → r ≡ Ok found → found ≡ false → IfOk r (λ b. IsTrue b ↔ P) → P → ⊥
was_not P r found is test holds p = true≢false (sym ((IfOk-at_ok (λ b. IsTrue b ↔ P) is holds).1 p) ∙ test)
