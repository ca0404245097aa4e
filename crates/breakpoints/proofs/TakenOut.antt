-- A breakpoint that is taken out of the others.
use Rattle.std.proofs.Common.{◌≡◌, ◌<◌, ◌+◌, ◌∙◌, ℕ, suc, List, ◌∷◌, ◌++◌, length, take, drop, get_or, sym, ap, arith}
use Rattle.std.proofs.lemmas.List.{drop_more, length-take-le, take-append-drop}
use Rattle.breakpoints.specs.declared.breaks.Break.{Break}
use Rattle.breakpoints.specs.Breaks.{IsTakenOut}

pub taken_out : (xs new : List Break) (i : ℕ) (b : Break) → i < length xs → b ≡ get_or xs i b → new ≡ take i xs ++ drop (suc i) xs → IsTakenOut xs new i b
taken_out xs new i b within value left =
    let one : suc i ≡ i + 1 = omega arith in
    let here : drop i xs ≡ b ∷ drop (suc i) xs = drop_more xs i b within ∙ ap (λ x. x ∷ drop (i + 1) xs) (sym value) ∙ ap (λ n. b ∷ drop n xs) (sym one) in
    record {
      before = take i xs;
      after = drop (suc i) xs;
      was = sym (take-append-drop i xs) ∙ ap (λ l. take i xs ++ l) here;
      at = length-take-le i xs (omega (arith, within));
      left = left;
    }
