-- Where the elements that pass stand among themselves: at their counts. And elements that are counted one after another, each under its number.
use Rattle.std.proofs.Common.{◌≡◌, ◌≢◌, ℕ, zero, suc, ◌+◌, ◌<◌, ◌==◌, Bool, true, false, cond, List, [], ◌∷◌, length, filter, take, set, get_or, refl, sym, ap, ◌∙◌, eq-eqb, ⊎_elim, arith}
use Rattle.std.specs.List.{enumerate_from, count_by}
use Rattle.std.proofs.lemmas.Bool.{cases_eq, ne_eqb}
use Rattle.std.proofs.lemmas.List.{get_or-set_same, get_or-set_other}
use Rattle.std.proofs.lemmas.List.Sums.{sum_by-cons, count_by_more_yes, count_by_more_no}

module _ {X : Type 0} (p : X → Bool) where
  pub count-cons : (x : X) (xs : List X) → count_by p (x ∷ xs) ≡ cond (p x) 1 0 + count_by p xs
  count-cons x xs = sum_by-cons (λ y. cond (p y) 1 0) x xs

  -- those that pass, numbered
  abbrev pub passing : ℕ → List X → List (ℕ × X)
  passing base xs = filter (λ (x : ℕ × X). p x.1) (enumerate_from base xs)

  -- the one at a place that passes stands at the count of those before it
  pub at_count : (base : ℕ) (xs : List X) (place : ℕ) (d : X) (e : ℕ × X) → place < length xs → p (get_or xs place d) ≡ true → get_or (passing base xs) (count_by p (take place xs)) e ≡ (base + place, get_or xs place d)
  at_count base [] place d e under passes = absurd (omega (arith, under))
  at_count base (x ∷ xs) zero d e under passes =
      ap (λ b. get_or (cond b ((base, x) ∷ passing (base + 1) xs) (passing (base + 1) xs)) 0 e) passes
      ∙ (let number : base ≡ base + 0 = omega arith in ap (λ n. (n, x)) number)
  at_count base (x ∷ xs) (suc place) d e under passes =
      let inside : place < length xs = omega (arith, under) in
      let number : base + 1 + place ≡ base + suc place = omega arith in
      let rest = at_count (base + 1) xs place d e inside passes ∙ ap (λ n. (n, get_or xs place d)) number in
      elim (p x) as (λ b. p x ≡ b → get_or (cond b ((base, x) ∷ passing (base + 1) xs) (passing (base + 1) xs)) (count_by p (take (suc place) (x ∷ xs))) e ≡ (base + suc place, get_or xs place d)) [
        | true ↦ λ yes'. let count : count_by p (take (suc place) (x ∷ xs)) ≡ suc (count_by p (take place xs)) = count-cons x (take place xs) ∙ ap (λ b. cond b 1 0 + count_by p (take place xs)) yes' ∙ omega arith in
            ap (λ n. get_or ((base, x) ∷ passing (base + 1) xs) n e) count ∙ rest
        | false ↦ λ no'. let count : count_by p (take (suc place) (x ∷ xs)) ≡ count_by p (take place xs) = count-cons x (take place xs) ∙ ap (λ b. cond b 1 0 + count_by p (take place xs)) no' ∙ omega arith in
            ap (λ n. get_or (passing (base + 1) xs) n e) count ∙ rest
      ] refl

  -- the one at an index among those that pass
  pub record IsPassing (base : ℕ) (xs : List X) (d : X) (index : ℕ) (x : ℕ × X) : Type 0 where
    pub place : ℕ
    pub within : place < length xs
    pub is : x ≡ (base + place, get_or xs place d)
    pub passes : p (get_or xs place d) ≡ true
    pub count : count_by p (take place xs) ≡ index

  later : (base : ℕ) (x : X) (xs : List X) (d : X) (at more index : ℕ) (y : ℕ × X) → IsPassing (base + 1) xs d at y → cond (p x) 1 0 ≡ more → more + at ≡ index → IsPassing base (x ∷ xs) d index y
  later base x xs d at more index y rest counts sum =
      let number : base + 1 + rest.place ≡ base + suc rest.place = omega arith in
      let inside : suc rest.place < length (x ∷ xs) = omega (arith, rest.within) in
      let all : count_by p (take (suc rest.place) (x ∷ xs)) ≡ index = (let a = count-cons x (take rest.place xs) in omega (arith, a, counts, rest.count, sum)) in
      record { place = suc rest.place; within = inside; is = rest.is ∙ ap (λ n. (n, get_or xs rest.place d)) number; passes = rest.passes; count = all }

  first : (base : ℕ) (x : X) (xs : List X) (d : X) (e : ℕ × X) → ((i : ℕ) → i < length (passing (base + 1) xs) → IsPassing (base + 1) xs d i (get_or (passing (base + 1) xs) i e))
      → (at : ℕ) → p x ≡ true → at < length ((base, x) ∷ passing (base + 1) xs) → IsPassing base (x ∷ xs) d at (get_or ((base, x) ∷ passing (base + 1) xs) at e)
  first base x xs d e rest zero yes' within = (let number : base ≡ base + 0 = omega arith in record { place = 0; within = omega arith; is = ap (λ n. (n, x)) number; passes = yes'; count = refl })
  first base x xs d e rest (suc at) yes' within = later base x xs d at 1 (suc at) _ (rest at (omega (arith, within))) (ap (λ b. cond b 1 0) yes') (omega arith)

  pub passing_at : (base : ℕ) (xs : List X) (index : ℕ) (d : X) (e : ℕ × X) → index < length (passing base xs) → IsPassing base xs d index (get_or (passing base xs) index e)
  passing_at base [] index d e under = absurd (omega (arith, under))
  passing_at base (x ∷ xs) index d e under =
      elim (p x) as (λ b. p x ≡ b → index < length (cond b ((base, x) ∷ passing (base + 1) xs) (passing (base + 1) xs)) → IsPassing base (x ∷ xs) d index (get_or (cond b ((base, x) ∷ passing (base + 1) xs) (passing (base + 1) xs)) index e)) [
        | true ↦ λ yes' within. first base x xs d e (λ i below. passing_at (base + 1) xs i d e below) index yes' within
        | false ↦ λ no' within. later base x xs d index 0 index _ (passing_at (base + 1) xs index d e within) (ap (λ b. cond b 1 0) no') (omega arith)
      ] refl under

-- an element is counted under its number
pub counted_more : {X : Type 0} (number : X → ℕ) (xs : List X) (i : ℕ) (d : X) → i < length xs → (counts : List ℕ) (at : ℕ) → at ≡ number (get_or xs i d) → at < length counts → (one_more : ℕ) → one_more ≡ get_or counts at 0 + 1
    → (n : ℕ) → get_or counts n 0 ≡ count_by (λ x. number x == n) (take i xs) → get_or (set counts at one_more) n 0 ≡ count_by (λ x. number x == n) (take (i + 1) xs)
counted_more number xs i d within counts at its_number inside one_more more n before =
    ⊎_elim
    (λ (here : n ≡ at).
    ap (λ m. get_or (set counts at one_more) m 0) here ∙ get_or-set_same counts at one_more 0 inside ∙ more ∙ ap (λ m. get_or counts m 0 + 1) (sym here) ∙ ap (λ m. m + 1) before
    ∙ sym (count_by_more_yes (λ x. number x == n) xs i d within (eq-eqb (number (get_or xs i d)) n (sym its_number ∙ sym here))))
    (λ (apart : n ≢ at).
    get_or-set_other counts at n one_more 0 apart ∙ before
    ∙ sym (count_by_more_no (λ x. number x == n) xs i d within (ne_eqb (number (get_or xs i d)) n (λ same. apart (sym same ∙ sym its_number)))))
    (cases_eq n at)
