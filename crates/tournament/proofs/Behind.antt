-- Numbers that are put behind others, one after another.
use Rattle.std.proofs.Common.{◌≡◌, ◌≢◌, ℕ, ◌+◌, ◌<◌, List, [], ◌∷◌, ◌++◌, length, sym, ap, subst, ◌∙◌, ⊎_elim, arith}
use Rattle.std.specs.Prelude.{slice_index}
use Rattle.std.proofs.lemmas.Bool.{cases_eq}
use Rattle.std.proofs.lemmas.List.{get_or_append_left, get_or_push, length_push}
use Rattle.tournament.specs.Tournament.{AreWithin}

-- those behind the first `base` are told by their places, with one more too
pub behind_more : (xs : List ℕ) (base i x : ℕ) (f : ℕ → ℕ) → length xs ≡ base + i → x ≡ f i → ((p : ℕ) → p < i → slice_index xs (base + p) ≡ f p) → (p : ℕ) → p < i + 1 → slice_index (xs ++ x ∷ []) (base + p) ≡ f p
behind_more xs base i x f size is before p under =
    ⊎_elim
    (λ (at : p ≡ i). get_or_push xs x 0 (base + p) (size ∙ ap (λ n. base + n) (sym at)) ∙ is ∙ ap f (sym at))
    (λ (apart : p ≢ i). let inside : p < i = omega (arith, under, apart) in get_or_append_left xs (x ∷ []) 0 (base + p) (omega (arith, size, inside)) ∙ before p inside)
    (cases_eq p i)

-- each is a place, with one more too
pub within_more : (places : ℕ) (xs : List ℕ) (x : ℕ) → x < places → AreWithin places xs → AreWithin places (xs ++ x ∷ [])
within_more places xs x few before j under =
    ⊎_elim
    (λ (at : j ≡ length xs). subst (λ n. n < places) (sym (get_or_push xs x 0 j (sym at))) few)
    (λ (apart : j ≢ length xs). let inside : j < length xs = omega (arith, under, apart, length_push xs x) in subst (λ n. n < places) (sym (get_or_append_left xs (x ∷ []) 0 j inside)) (before j inside))
    (cases_eq j (length xs))
