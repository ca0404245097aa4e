-- The next number is the least multiple of mss that is missing.
use Rattle.std.proofs.Common.{◌≡◌, ℕ, suc, zero, ◌+◌, ◌*◌, ◌-◌, ◌<◌, ◌≤◌, Bool, true, false, not, cond, ◌⊎◌, inl, inr, map as each, Some, ap, ◌∙◌, arith}
use Rattle.std.specs.Prelude.{find, unwrap_or, is_some}
use Rattle.std.specs.List.{range_with_len}
use Rattle.std.specs.Ordering.{nat_cmp}
use Rattle.std.specs.Cmp.{nat_cmp_total, unsigned_tied}
use Rattle.std.specs.FinMap as map
use Rattle.std.specs.FinSet.{FinSet}
use Rattle.std.proofs.lemmas.Bool.{cases_eq, cases_order, cases_Bool, both_ways, ne_eqb}
use Rattle.std.proofs.Math.Nat.{mul-le-mul_right}
use Rattle.reno_receiver.specs.Received.{ReceiverState, next_of}

-- the first v from a on that passes is what `find` gives
find_first : (p : ℕ → Bool) (f : ℕ → ℕ) (n a v : ℕ) → a ≤ v → v < a + n → p (f v) ≡ true → ((j : ℕ) → a ≤ j → j < v → p (f j) ≡ false) → find p (each f (range_with_len a n)) ≡ Some (f v)
find_first p f zero a v low high at before = absurd (omega arith)
find_first p f (suc n) a v low high at before =
    elim (cases_eq a v) [
      | inl e ↦ rw (e, at)
      | inr ne ↦ rw (before a (omega arith) (omega arith)) (find_first p f n (a + 1) v (omega arith) (omega arith) at (λ j l h. before j (omega arith) h))
    ]

-- the first k multiples are received, and the one after them is not
pub record IsNextAt (s : FinSet nat_cmp) (mss k : ℕ) : Type 0 where
  pub missing : map.contains_key s (k * mss) ≡ false
  pub before : (j : ℕ) → j < k → map.contains_key s (j * mss) ≡ true

unequal_multiples : (j k mss : ℕ) → 1 ≤ mss → j < k → j * mss ≡ k * mss → ⊥
unequal_multiples j k mss pos lt e = omega (arith, mul-le-mul_right mss (let up : j + 1 ≤ k = omega arith in up))

kept_by_remove : (s : FinSet nat_cmp) (k q : ℕ) → (q ≡ k → ⊥) → map.contains_key s q ≡ true → map.contains_key (map.remove s k) q ≡ true
kept_by_remove s k q ne is = rw (map.get-remove nat_cmp_total s k q, unsigned_tied q k, ne_eqb q k ne) is

nonempty : (s : FinSet nat_cmp) (q : ℕ) → map.contains_key s q ≡ true → map.len s ≡ 0 → ⊥
nonempty s q is e = both_ways (map.contains_key s q) (ap (λ t. map.contains_key t q) (map.empty_of_len s e) ∙ ap is_some (map.get-empty nat_cmp q)) is

-- a set of n different numbers has at least n
at_least : (n mss : ℕ) → 1 ≤ mss → (s : FinSet nat_cmp) → ((j : ℕ) → j < n → map.contains_key s (j * mss) ≡ true) → n ≤ map.len s
at_least zero mss pos s all = omega arith
at_least (suc n) mss pos s all =
    let last : map.contains_key s (n * mss) ≡ true = all n (omega arith) in
    let rest : n ≤ map.len (map.remove s (n * mss)) = at_least n mss pos (map.remove s (n * mss)) (λ j lt. kept_by_remove s (n * mss) (j * mss) (unequal_multiples j n mss pos lt) (all j (omega arith))) in
    let less : map.len (map.remove s (n * mss)) ≡ map.len s - 1 = map.len-remove nat_cmp_total s (n * mss) ∙ ap (λ b. cond b (map.len s - 1) (map.len s)) last in
    let some : map.len s ≡ 0 → ⊥ = nonempty s (n * mss) last in
    omega arith

-- the first n multiples are all received, or one of them is the first that is not
look_for : (s : FinSet nat_cmp) (mss n : ℕ) → ((j : ℕ) → j < n → map.contains_key s (j * mss) ≡ true) ⊎ ((k : ℕ) × (k < n) × IsNextAt s mss k)
look_for s mss zero = inl (λ j lt. absurd (omega arith))
look_for s mss (suc n) =
    elim (look_for s mss n) [
      | inl all ↦ elim (cases_Bool (map.contains_key s (n * mss))) [
        | inl is ↦ inl (λ j lt. elim (cases_eq j n) [ inl e ↦ rw e is | inr ne ↦ all j (omega arith) ])
        | inr none ↦ inr (n, omega arith, record { missing = none; before = all })
      ]
      | inr found ↦ inr (found.0, omega arith, found.2)
    ]

pub next_at : (st : ReceiverState) → 1 ≤ st.mss → (k : ℕ) × IsNextAt st.received st.mss k × (next_of st ≡ k * st.mss)
next_at st pos =
    elim (look_for st.received st.mss (map.len st.received + 1)) [
      | inl all ↦ absurd (omega (arith, at_least (map.len st.received + 1) st.mss pos st.received all))
      | inr found ↦ (found.0, found.2, ap (λ o. unwrap_or o 0) (find_first (λ n. not (map.contains_key st.received n)) (λ k. k * st.mss) (map.len st.received + 1) 0 found.0 (omega arith) (omega arith) (ap not found.2.missing) (λ j l h. ap not (found.2.before j h))))
    ]

pub same_next : (s : FinSet nat_cmp) (mss j k : ℕ) → IsNextAt s mss j → IsNextAt s mss k → j ≡ k
same_next s mss j k a b =
    elim (cases_order j k) [
      | inl e ↦ e
      | inr apart ↦ elim apart [ inl lt ↦ absurd (both_ways _ a.missing (b.before j lt)) | inr gt ↦ absurd (both_ways _ b.missing (a.before k gt)) ]
    ]

-- the next number, where the first k multiples are received and the one after them is not
pub next_of_at : (st : ReceiverState) (k : ℕ) → 1 ≤ st.mss → IsNextAt st.received st.mss k → next_of st ≡ k * st.mss
next_of_at st k pos is = let found = next_at st pos in found.2 ∙ ap (λ j. j * st.mss) (same_next st.received st.mss found.0 k found.1 is)
