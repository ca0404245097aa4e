-- What holds of each element of a list, with one more at the end.
use Rattle.std.proofs.Common.{◌≡◌, ◌≢◌, ℕ, ◌+◌, ◌<◌, List, [], ◌∷◌, ◌++◌, length, get_or, sym, subst, arith, ⊎_elim}
use Rattle.std.proofs.lemmas.Bool.{cases_eq}
use Rattle.std.proofs.lemmas.List.{get_or_push, get_or_append_left}

pub one_pushed : {A : Type 0} (P : ℕ → A → Type 0) (xs : List A) (x : A) (n : ℕ) → length xs ≡ n → ((i : ℕ) (other : A) → i < n → P i (get_or xs i other)) → P n x →
    (i : ℕ) (other : A) → i < n + 1 → P i (get_or (xs ++ x ∷ []) i other)
one_pushed P xs x n size before here i other under =
    ⊎_elim
    (λ (same : i ≡ n). subst (P i) (sym (get_or_push xs x other i (omega (arith, size, same)))) (subst (λ k. P k x) (sym same) here))
    (λ (apart : i ≢ n). let less : i < n = omega (arith, under, apart) in subst (P i) (sym (get_or_append_left xs (x ∷ []) other i (omega (arith, less, size)))) (before i other less))
    (cases_eq i n)
