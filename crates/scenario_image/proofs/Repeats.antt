-- Where a step that is repeated comes to.
use Rattle.std.proofs.Common.{◌≡◌, ◌≢◌, ℕ, zero, suc, ◌<◌, ◌≤◌, eqb, cond, Option, Some, None, ◌⊎◌, inl, inr, ⊎_elim, arith, refl, ap, sym, ◌∙◌}
use Rattle.std.proofs.lemmas.Bool.{cases_lt, cases_eq}
use Rattle.std.proofs.lemmas.Bool.Decides.{nat_tests}
use Rattle.std.proofs.lemmas.Option.{none-some}
use Rattle.std.specs.Option.{option_and_then}

-- whether a number is among the first values of a function
among : (n : ℕ) (f : ℕ → ℕ) (v : ℕ) → ((k : ℕ) × (k < n) × (f k ≡ v)) ⊎ ((k : ℕ) → k < n → f k ≢ v)
among zero f v = inr (λ k below _. omega arith)
among (suc n) f v =
    elim (among n f v) [
      | inl (k, below, is) ↦ inl (k, omega arith, is)
      | inr none ↦
          ⊎_elim (λ (is : f n ≡ v). inl (n, omega arith, is))
          (λ (differs : f n ≢ v). inr (λ k below is.
          ⊎_elim (λ (lower : k < n). none k lower is) (λ (last : n ≤ k). let same : k ≡ n = omega arith in differs (sym (ap f same) ∙ is)) (cases_lt k n)))
          (cases_eq (f n) v)
    ]

-- two places of a function, up to a last one, with one value
abbrev pub HasRepeat : ℕ → (ℕ → ℕ) → Type 0
HasRepeat last f = (i : ℕ) × (j : ℕ) × (i < j) × (j ≤ last) × (f i ≡ f j)

-- the values with one of them replaced by another
abbrev replaced : ℕ → ℕ → (ℕ → ℕ) → ℕ → ℕ
replaced old new f k = cond (eqb (f k) old) new (f k)

-- values below n + 1 are below n once n is replaced by another
replaced_below : (n new v : ℕ) → v < suc n → new < suc n → new ≢ v → cond (eqb v n) new v < n
replaced_below n new v below new_below differs = grind (arith, nat_tests)

-- a repeat of the replaced values is one of the values
replaced_same : (n new v w : ℕ) → v ≢ new → w ≢ new → cond (eqb v n) new v ≡ cond (eqb w n) new w → v ≡ w
replaced_same n new v w v_differs w_differs same = grind (arith, nat_tests)

-- one more value than there are numbers to take: two are the same
pub pigeonhole : (n : ℕ) (f : ℕ → ℕ) → ((k : ℕ) → k ≤ n → f k < n) → HasRepeat n f
pigeonhole zero f below = absurd (omega (arith, below 0 (omega arith)))
pigeonhole (suc n) f below =
    elim (among (suc n) f (f (suc n))) [
      | inl (k, before, same) ↦ (k, suc n, before, omega arith, same)
      | inr differ ↦
          let last : ℕ = f (suc n) in
          let (i, j, lower, most, same) = pigeonhole n (replaced n last f) (λ k most. replaced_below n last (f k) (below k (omega arith)) (below (suc n) (omega arith)) (λ is. differ k (omega arith) (sym is))) in
          (i, j, lower, omega arith, replaced_same n last (f i) (f j) (differ i (omega arith)) (differ j (omega arith)) same)
    ]

-- nothing or something
pub something : (o : Option ℕ) → (o ≡ None) ⊎ ((y : ℕ) × (o ≡ Some y))
something None = inl refl
something (Some y) = inr (y, refl)

-- a step that is repeated: at each place the step of the place before, where there is one
module _ (step : ℕ → Option ℕ) (at_place : ℕ → Option ℕ) (goes : (k : ℕ) → at_place (suc k) ≡ option_and_then step (at_place k)) where
  -- nothing comes after nothing
  pub none_later : (m k : ℕ) → k ≤ m → at_place k ≡ None → at_place m ≡ None
  none_later zero k before none = let same : k ≡ zero = omega arith in sym (ap at_place same) ∙ none
  none_later (suc m) k before none =
      ⊎_elim (λ (earlier : k < suc m). goes m ∙ ap (option_and_then step) (none_later m k (omega arith) none))
      (λ (last : suc m ≤ k). let same : k ≡ suc m = omega arith in sym (ap at_place same) ∙ none) (cases_lt k (suc m))

  -- there is something before something
  pub some_earlier : (m k x : ℕ) → k ≤ m → at_place m ≡ Some x → (y : ℕ) × (at_place k ≡ Some y)
  some_earlier m k x before is =
      elim (something (at_place k)) [
        | inl none ↦ absurd (none-some x (sym (none_later m k before none) ∙ is))
        | inr some ↦ some
      ]

  -- where two places are one, the next ones are
  next_same : (i j : ℕ) → at_place i ≡ at_place j → at_place (suc i) ≡ at_place (suc j)
  next_same i j same = goes i ∙ ap (option_and_then step) same ∙ sym (goes j)

  -- after a repeat there are no new places
  pub no_new_place : (i j : ℕ) → i < j → at_place i ≡ at_place j → (k : ℕ) → (m : ℕ) × (m < j) × (at_place (suc k) ≡ at_place (suc m))
  no_new_place i j before same zero = (0, omega arith, refl)
  no_new_place i j before same (suc k) =
      let (m, below, is) = no_new_place i j before same k in
      ⊎_elim (λ (lower : suc m < j). (suc m, lower, next_same (suc k) (suc m) is))
      (λ (last : j ≤ suc m). let at_j : suc m ≡ j = omega arith in (i, before, next_same (suc k) i (is ∙ ap at_place at_j ∙ sym same))) (cases_lt (suc m) j)
