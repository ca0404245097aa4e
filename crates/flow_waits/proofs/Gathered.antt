-- What is gathered of the numbers from one on.
use Rattle.std.proofs.Common.{◌≡◌, ◌<◌, ◌≤◌, ◌-◌, ◌+◌, ℕ, suc, List, ◌++◌, arith, append_assoc, append-nil, sym, ◌∙◌, ap}
use Rattle.std.specs.List.{flat_map, range_with_len}

module _ {A : Type 0} (of : ℕ → List A) (k count : ℕ) (old out : List A) where
  -- from one number to the next
  pub next_number : (new : List A) → k < count → out ++ flat_map of (range_with_len k (count - k)) ≡ old → new ≡ out ++ of k
      → new ++ flat_map of (range_with_len (k + 1) (count - (k + 1))) ≡ old
  next_number new within so_far gathered =
      let rest = flat_map of (range_with_len (k + 1) (count - (k + 1))) in
      let one_less : suc (count - (k + 1)) ≡ count - k = omega (arith, within) in
      ap (λ l. l ++ rest) gathered ∙ append_assoc out (of k) rest ∙ ap (λ n. out ++ flat_map of (range_with_len k n)) one_less ∙ so_far

  -- past the last number nothing is left
  pub none_left : count ≤ k → out ++ flat_map of (range_with_len k (count - k)) ≡ old → out ≡ old
  none_left past so_far =
      let none : count - k ≡ 0 = omega (arith, past) in
      sym (append-nil out) ∙ ap (λ n. out ++ flat_map of (range_with_len k n)) (sym none) ∙ so_far
