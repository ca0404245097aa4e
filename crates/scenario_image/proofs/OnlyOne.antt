-- What a search for a counted element finds.
use Rattle.std.proofs.Common.{◌≡◌, ℕ, zero, suc, ◌+◌, ◌<◌, ltb, cond, Bool, true, false, List, [], ◌∷◌, length, get_or, Some, None, ◌⊎◌, inl, inr, arith, refl, ap, sym, ◌∙◌}
use Rattle.std.proofs.lemmas.Bool.Decides.{nat_tests}
use Rattle.std.proofs.lemmas.Option.{none-some, same_Some, slice_get-get_or}
use Rattle.std.proofs.lemmas.List.Quantifiers.{position-Some}
use Rattle.std.proofs.lemmas.List.Sums.{sum_by-cons}
use Rattle.std.specs.List.{slice_get, find, count_by, position, position_or_len}

-- passing or failing
passes_or_fails : (b : Bool) → (b ≡ true) ⊎ (b ≡ false)
passes_or_fails true = inl refl
passes_or_fails false = inr refl

module _ {X : Type 0} (p : X → Bool) where
  count-cons : (x : X) (xs : List X) → count_by p (x ∷ xs) ≡ cond (p x) 1 0 + count_by p xs
  count-cons x xs = sum_by-cons (λ y. cond (p y) 1 0) x xs

  counted_yes : (x : X) (xs : List X) → p x ≡ true → count_by p (x ∷ xs) ≡ 1 + count_by p xs
  counted_yes x xs passes = count-cons x xs ∙ ap (λ b. cond b 1 0 + count_by p xs) passes

  counted_no : (x : X) (xs : List X) → p x ≡ false → count_by p (x ∷ xs) ≡ 0 + count_by p xs
  counted_no x xs fails = count-cons x xs ∙ ap (λ b. cond b 1 0 + count_by p xs) fails

  -- none is counted: none passes
  none_passes : (xs : List X) (j : ℕ) (y : X) → count_by p xs ≡ 0 → slice_get xs j ≡ Some y → p y ≡ true → ⊥
  none_passes [] j y none found passes = none-some y found
  none_passes (x ∷ xs) zero y none found passes =
      let first : p x ≡ true = ap p (same_Some x y found) ∙ passes in omega (arith, counted_yes x xs first)
  none_passes (x ∷ xs) (suc j) y none found passes =
      elim (passes_or_fails (p x)) [ inl yes' ↦ omega (arith, counted_yes x xs yes') | inr no' ↦ none_passes xs j y (omega (arith, counted_no x xs no')) found passes ]

  -- one is counted: two that pass stand at one place
  pub only_one : (xs : List X) (i j : ℕ) (x y : X) → count_by p xs ≡ 1 → slice_get xs i ≡ Some x → p x ≡ true → slice_get xs j ≡ Some y → p y ≡ true → i ≡ j
  only_one [] i j x y one at_i passes_x at_j passes_y = absurd (none-some x at_i)
  only_one (z ∷ xs) zero zero x y one at_i passes_x at_j passes_y = refl
  only_one (z ∷ xs) zero (suc j) x y one at_i passes_x at_j passes_y =
      let first : p z ≡ true = ap p (same_Some z x at_i) ∙ passes_x in absurd (none_passes xs j y (omega (arith, counted_yes z xs first)) at_j passes_y)
  only_one (z ∷ xs) (suc i) zero x y one at_i passes_x at_j passes_y =
      let first : p z ≡ true = ap p (same_Some z y at_j) ∙ passes_y in absurd (none_passes xs i x (omega (arith, counted_yes z xs first)) at_i passes_x)
  only_one (z ∷ xs) (suc i) (suc j) x y one at_i passes_x at_j passes_y =
      elim (passes_or_fails (p z)) [
        | inl yes' ↦ absurd (none_passes xs i x (omega (arith, counted_yes z xs yes')) at_i passes_x)
        | inr no' ↦ let same : i ≡ j = only_one xs i j x y (omega (arith, counted_no z xs no')) at_i passes_x at_j passes_y in omega arith
      ]

  -- where one is counted, a search ends before the end
  found_before : (xs : List X) → 0 < count_by p xs → position_or_len p xs < length xs
  found_before [] some = absurd (omega arith)
  found_before (x ∷ xs) some =
      elim (passes_or_fails (p x)) [
        | inl yes' ↦ rw yes' (omega arith)
        | inr no' ↦ let rest : position_or_len p xs < length xs = found_before xs (omega (arith, counted_no x xs no')) in rw no' (omega arith)
      ]

  -- where one is counted, a search finds one
  pub position_found : (xs : List X) → 0 < count_by p xs → (i : ℕ) × (x : X) × (position p xs ≡ Some i) × (slice_get xs i ≡ Some x) × (p x ≡ true)
  position_found [] some = absurd (omega arith)
  position_found (x ∷ xs) some =
      let i : ℕ = position_or_len p (x ∷ xs) in
      let before : i < length (x ∷ xs) = found_before (x ∷ xs) some in
      let found : position p (x ∷ xs) ≡ Some i = ap (λ b. cond b (Some i) None) (is_below i (length (x ∷ xs)) before) in
      (i, get_or (x ∷ xs) i x, found, slice_get-get_or (x ∷ xs) i x before, (position-Some p (x ∷ xs) i x found).1)
    where
      is_below : (a b : ℕ) → a < b → ltb a b ≡ true
      is_below a b less = grind (arith, nat_tests)

  -- what a search finds is an element that passes
  pub find_passes : (xs : List X) (x : X) → find p xs ≡ Some x → (i : ℕ) × (slice_get xs i ≡ Some x) × (p x ≡ true)
  find_passes [] x found = absurd (none-some x found)
  find_passes (z ∷ xs) x found =
      elim (passes_or_fails (p z)) [
        | inl yes' ↦ let same : z ≡ x = same_Some z x (ap (λ b. cond b (Some z) (find p xs)) (sym yes') ∙ found) in (0, ap Some same, ap p (sym same) ∙ yes')
        | inr no' ↦ let (i, at_i, passes) = find_passes xs x (ap (λ b. cond b (Some z) (find p xs)) (sym no') ∙ found) in (suc i, at_i, passes)
      ]
