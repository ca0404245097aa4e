-- Multiples of mss in order, and the rising list of those held above them.
use Rattle.std.proofs.Common.{◌≡◌, ℕ, suc, zero, ◌+◌, ◌*◌, ◌/◌, ◌%◌, ◌<◌, ◌≤◌, true, false, List, [], ◌∷◌, ◌++◌, map as each, length, take, drop, get_or, refl, sym, ap, inl, inr, arith}
use Rattle.std.specs.Prelude.{◌==◌, ◌≢◌, nat_lt, nat_le, filter, insert, All, slice_get, Some}
use Rattle.std.specs.List.{list_any, list_all, range_with_len}
use Rattle.std.proofs.lemmas.Bool.{cases_lt, cases_Bool, eq-eqb, ne_eqb, eqb-true, or_cases, or_from, or_left, or_right, le-ltb, lt-ltb, le-leb, lt-leb}
use Rattle.std.proofs.lemmas.List.FromFn.{length-map-range_with_len, get_or-map-range_with_len}
use Rattle.std.proofs.lemmas.List.Folds.{list_any_at}
use Rattle.std.proofs.lemmas.List.Elements.{All-nil, All-cons}
use Rattle.std.proofs.Math.Nat.{mul-le-mul_right}
use Rattle.reno_receiver.specs.Kept.{IsHeldAbove}
use Rattle.reno_receiver.proofs.Laws.{whole_multiple}
use Rattle.reno_receiver.proofs.Sets.{RisesFrom, RisesFrom-lower}

-- two multiples of mss are a segment apart
pub segment_apart : (m n mss : ℕ) → m % mss ≡ 0 → n % mss ≡ 0 → m < n → m + mss ≤ n
segment_apart m n mss a b lt =
    elim (cases_lt (m / mss) (n / mss)) [
      | inl below ↦ omega (arith, whole_multiple m mss a, whole_multiple n mss b, mul-le-mul_right mss (let up : m / mss + 1 ≤ n / mss = omega arith in up))
      | inr above ↦ absurd (omega (arith, whole_multiple m mss a, whole_multiple n mss b, mul-le-mul_right mss above))
    ]

-- a number at a place is among them
pub found_any : (q : ℕ) (xs : List ℕ) (i : ℕ) → slice_get xs i ≡ Some q → list_any (λ x. q == x) xs ≡ true
found_any q [] i at = absurd (cc)
found_any q (x ∷ xs) zero at = let here : q ≡ x = cc in or_left _ _ (eq-eqb q x here)
found_any q (x ∷ xs) (suc i) at = or_right _ _ (found_any q xs i at)

module _ (mss : ℕ) where
  -- the multiples from the a-th on
  abbrev pub from : ℕ → ℕ → List ℕ
  from a n = each (λ k. k * mss) (range_with_len a n)

  pub from-append : (a m n : ℕ) → from a (m + n) ≡ from a m ++ from (a + m) n
  from-append a zero n = let e : 0 + n ≡ n = omega arith in let f : a + 0 ≡ a = omega arith in rw (e, f)
  from-append a (suc m) n =
      let e : suc m + n ≡ suc (m + n) = omega arith in
      let f : a + suc m ≡ (a + 1) + m = omega arith in
      rw (e, f) (ap (λ l. a * mss ∷ l) (from-append (a + 1) m n))

  pub any_from : (n j : ℕ) → j < n → list_any (λ x. j * mss == x) (from 0 n) ≡ true
  any_from n j lt =
      list_any_at (λ x. j * mss == x) (from 0 n) j 0 (rw (length-map-range_with_len (λ k. k * mss) 0 n) lt)
      (rw (get_or-map-range_with_len (λ k. k * mss) 0 n j j 0 lt (omega arith)) (eq-eqb (j * mss) (j * mss) refl))

  pub member_from : (a n q : ℕ) → list_any (λ x. q == x) (from a n) ≡ true → (j : ℕ) × (j < a + n) × (q ≡ j * mss)
  member_from a zero q is = absurd (cc)
  member_from a (suc n) q is =
      elim (or_cases _ _ is) [
        | inl here ↦ (a, omega arith, eqb-true q (a * mss) here)
        | inr later ↦ let at = member_from (a + 1) n q later in (at.0, omega arith, at.2)
      ]

  pub rises_from : (a n : ℕ) (ys : List ℕ) → 1 ≤ mss → RisesFrom ((a + n) * mss) ys → RisesFrom (a * mss) (from a n ++ ys)
  rises_from a zero ys pos rises = let e : a + 0 ≡ a = omega arith in rw e at rises
  rises_from a (suc n) ys pos rises =
      let e : a + suc n ≡ (a + 1) + n = omega arith in
      (omega arith, RisesFrom-lower (a * mss + 1) ((a + 1) * mss) _ (omega arith) (rises_from (a + 1) n ys pos (rw e at rises)))

  first_below : (a n high : ℕ) → (a + suc n) * mss ≤ high + mss → a * mss ≤ high
  first_below a n high le = omega (arith, mul-le-mul_right mss (let up : a + 1 ≤ a + suc n = omega arith in up))

  pub filter_from : (a n high : ℕ) → (a + n) * mss ≤ high + mss → filter (nat_lt high) (from a n) ≡ []
  filter_from a zero high le = refl
  filter_from a (suc n) high le =
      let first : a * mss ≤ high = first_below a n high le in
      let e : a + suc n ≡ (a + 1) + n = omega arith in
      rw (le-ltb high (a * mss) first) (filter_from (a + 1) n high (rw e at le))

  pub all_from : (a n high : ℕ) → (a + n) * mss ≤ high + mss → list_all (λ x. nat_le x high) (from a n) ≡ true
  all_from a zero high le = refl
  all_from a (suc n) high le =
      let first : a * mss ≤ high = first_below a n high le in
      let e : a + suc n ≡ (a + 1) + n = omega arith in
      rw (le-leb (a * mss) high first) (all_from (a + 1) n high (rw e at le))

  pub rises_held : (n : ℕ) (xs : List ℕ) → IsHeldAbove mss n xs → RisesFrom (n + 1) xs
  rises_held n [] held = tt
  rises_held n (x ∷ xs) held = (omega arith, rises_held x xs held.3)

  pub member_held : (n q : ℕ) (xs : List ℕ) → IsHeldAbove mss n xs → list_any (λ x. q == x) xs ≡ true → (n < q) × (q % mss ≡ 0) × (q ≤ 9000000000000)
  member_held n q [] held is = absurd (cc)
  member_held n q (x ∷ xs) held is =
      elim (or_cases _ _ is) [
        | inl here ↦ rw (eqb-true q x here) (held.0, held.1, held.2)
        | inr later ↦ let at = member_held x q xs held.3 later in (omega arith, at.1, at.2)
      ]

  pub none_held : (n q : ℕ) (xs : List ℕ) → IsHeldAbove mss n xs → q ≤ n → list_any (λ x. q == x) xs ≡ false
  none_held n q xs held le =
      elim (cases_Bool (list_any (λ x. q == x) xs)) [ inl is ↦ absurd (let at = member_held n q xs held is in let lt : n < q = at.0 in omega arith) | inr not ↦ not ]

  pub filter_held : (low n : ℕ) (xs : List ℕ) → low ≤ n → IsHeldAbove mss n xs → filter (nat_lt low) xs ≡ xs
  filter_held low n [] le held = refl
  filter_held low n (x ∷ xs) le held = let lt : low < x = omega arith in rw (lt-ltb low x lt) (ap (λ l. x ∷ l) (filter_held low x xs (omega arith) held.3))

  pub none_below : (high n : ℕ) (xs : List ℕ) → high ≤ n → IsHeldAbove mss n xs → list_all (λ x. nat_le x high) xs ≡ (length xs == 0)
  none_below high n [] le held = refl
  none_below high n (x ∷ xs) le held = let lt : high < x = omega arith in rw (lt-leb x high lt) (sym (ne_eqb (length (x ∷ xs)) 0 (λ e. omega arith)))

  pub all_held : (n : ℕ) (xs : List ℕ) → IsHeldAbove mss n xs → All (λ x. x ≤ 9000000000000) xs
  all_held n [] held = All-nil (λ x. x ≤ 9000000000000)
  all_held n (x ∷ xs) held = All-cons (λ x. x ≤ 9000000000000) x xs held.2 (all_held x xs held.3)

  above_first : (n : ℕ) (xs : List ℕ) (j : ℕ) → IsHeldAbove mss n xs → j < length xs → n < get_or xs j 0
  above_first n [] j held lt = absurd (omega arith)
  above_first n (x ∷ xs) zero held lt = held.0
  above_first n (x ∷ xs) (suc j) held lt = let at : x < get_or xs j 0 = above_first x xs j held.3 (omega arith) in omega arith

  pub sorted_held : (n : ℕ) (xs : List ℕ) → IsHeldAbove mss n xs → (i j : ℕ) → i ≤ j → j < length xs → get_or xs i 0 ≤ get_or xs j 0
  sorted_held n [] held i j le lt = absurd (omega arith)
  sorted_held n (x ∷ xs) held zero zero le lt = omega arith
  sorted_held n (x ∷ xs) held zero (suc j) le lt = let at : x < get_or xs j 0 = above_first x xs j held.3 (omega arith) in omega arith
  sorted_held n (x ∷ xs) held (suc i) zero le lt = absurd (omega arith)
  sorted_held n (x ∷ xs) held (suc i) (suc j) le lt = sorted_held x xs held.3 i j (omega arith) (omega arith)

  -- a new number in its place
  pub insert_held : (n q : ℕ) (xs : List ℕ) (i : ℕ) → IsHeldAbove mss n xs → n < q → q % mss ≡ 0 → q ≤ 9000000000000 → i ≤ length xs → ((k : ℕ) → k < i → get_or xs k 0 < q) → ((k : ℕ) → i ≤ k → k < length xs → q < get_or xs k 0) → IsHeldAbove mss n (insert xs i q)
  insert_held n q [] zero held low whole high within before after = (low, whole, high, tt)
  insert_held n q [] (suc i) held low whole high within before after = absurd (omega arith)
  insert_held n q (x ∷ xs) zero held low whole high within before after = (low, whole, high, (after 0 (omega arith) (omega arith), held.1, held.2, held.3))
  insert_held n q (x ∷ xs) (suc i) held low whole high within before after =
      (held.0, held.1, held.2, insert_held x q xs i held.3 (before 0 (omega arith)) whole high (omega arith) (λ k lt. before (suc k) (omega arith)) (λ k le lt. after (suc k) (omega arith) (omega arith)))

  -- a number that would stand between two neighbours is not among them
  pub absent : (q : ℕ) (xs : List ℕ) (i : ℕ) → ((k : ℕ) → k < i → get_or xs k 0 < q) → ((k : ℕ) → i ≤ k → k < length xs → q < get_or xs k 0) → list_any (λ x. q == x) xs ≡ false
  absent q [] i before after = refl
  absent q (x ∷ xs) zero before after =
      let here : q < x = after 0 (omega arith) (omega arith) in
      or_from _ _ (ne_eqb q x (λ e. omega arith)) (absent q xs zero (λ k lt. absurd (omega arith)) (λ k le lt. after (suc k) (omega arith) (omega arith)))
  absent q (x ∷ xs) (suc i) before after =
      let here : x < q = before 0 (omega arith) in
      or_from _ _ (ne_eqb q x (λ e. omega arith)) (absent q xs i (λ k lt. before (suc k) (omega arith)) (λ k le lt. after (suc k) (omega arith) (omega arith)))

  -- what is left after the numbers that follow one another from first on
  pub drop_run : (n first : ℕ) (xs : List ℕ) (run : ℕ) → IsHeldAbove mss n xs → n % mss ≡ 0 → first ≡ n + mss → run ≤ length xs → ((k : ℕ) → k < run → get_or xs k 0 ≡ first + k * mss) → (run < length xs → get_or xs run 0 ≢ first + run * mss) → IsHeldAbove mss (first + run * mss) (drop run xs)
  drop_run n first [] zero held whole at within runs ended = tt
  drop_run n first [] (suc run) held whole at within runs ended = absurd (omega arith)
  drop_run n first (x ∷ xs) zero held whole at within runs ended =
      let far : n + mss ≤ x = segment_apart n x mss whole held.1 held.0 in
      let not : x ≢ first + 0 * mss = ended (omega arith) in
      (omega arith, held.1, held.2, held.3)
  drop_run n first (x ∷ xs) (suc run) held whole at within runs ended =
      let here : x ≡ first + 0 * mss = runs 0 (omega arith) in
      let rest : IsHeldAbove mss ((x + mss) + run * mss) (drop run xs) =
      drop_run x (x + mss) xs run held.3 held.1 refl (omega arith)
      (λ k lt. let e : get_or xs k 0 ≡ first + suc k * mss = runs (suc k) (omega arith) in omega arith)
      (λ lt e. ended (omega arith) (omega arith)) in
      let same : (x + mss) + run * mss ≡ first + suc run * mss = omega arith in
      rw (← same) rest

  -- the run itself, as multiples
  pub take_run : (a : ℕ) (xs : List ℕ) (run : ℕ) → run ≤ length xs → ((k : ℕ) → k < run → get_or xs k 0 ≡ (a + k) * mss) → take run xs ≡ from a run
  take_run a xs zero within runs = refl
  take_run a [] (suc run) within runs = absurd (omega arith)
  take_run a (x ∷ xs) (suc run) within runs =
      let here : x ≡ (a + 0) * mss = runs 0 (omega arith) in
      let e : a + 0 ≡ a = omega arith in
      let first : x ≡ a * mss = rw e at here in
      let rest : take run xs ≡ from (a + 1) run = take_run (a + 1) xs run (omega arith) (λ k lt. let e : get_or xs k 0 ≡ (a + suc k) * mss = runs (suc k) (omega arith) in omega arith) in
      cc

  -- where the run ends
  pub run_ends : (n first : ℕ) (xs : List ℕ) (run : ℕ) → IsHeldAbove mss n xs → first ≤ 9000000000000 + mss → run ≤ length xs → ((k : ℕ) → k < run → get_or xs k 0 ≡ first + k * mss) → first + run * mss ≤ 9000000000000 + mss
  run_ends n first xs zero held low within runs = omega arith
  run_ends n first xs (suc run) held low within runs =
      let last : get_or xs run 0 ≡ first + run * mss = runs run (omega arith) in
      let high : get_or xs run 0 ≤ 9000000000000 = all_held n xs held run 0 (omega arith) in
      omega arith
