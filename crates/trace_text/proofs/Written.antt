-- Texts that are written one behind another.
use Rattle.std.proofs.Common.{◌≡◌, ◌≤◌, ◌+◌, ℕ, List, ◌++◌, length, take, sym, ap, ◌∙◌, arith, append_assoc}
use Rattle.std.proofs.Math.Seq.{take-append-add}
use Rattle.std.proofs.lemmas.List.{take-take, length-take-le}

-- the first bytes of what was written
pub first_written : (old now row : List ℕ) (at k m : ℕ) → at ≤ length old → m ≤ k → take (at + k) now ≡ take at old ++ row → take (at + m) now ≡ take at old ++ take m row
first_written old now row at k m within few e =
    let long : length (take at old) ≡ at = length-take-le at old within in
    sym (take-take (at + m) (at + k) now (omega (arith, few))) ∙ ap (take (at + m)) e
    ∙ ap (λ n. take (n + m) (take at old ++ row)) (sym long) ∙ take-append-add (take at old) row m

-- a text, and another behind it
pub both_written : (before first now a b : List ℕ) → first ≡ before ++ a → now ≡ first ++ b → now ≡ before ++ (a ++ b)
both_written before first now a b e f = f ∙ ap (λ l. l ++ b) e ∙ append_assoc before a b
