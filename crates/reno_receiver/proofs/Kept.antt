-- What a receiver's fields stand for.
use Rattle.std.proofs.Common.{◌≡◌, ℕ, suc, ◌+◌, ◌*◌, ◌/◌, ◌%◌, ◌<◌, ◌≤◌, Bool, true, false, List, ◌∷◌, ◌++◌, length, take, drop, get_or, refl, sym, ap, ◌∙◌, subst, inl, inr, arith, append_assoc}
use Rattle.std.specs.Prelude.{◌==◌, ◌||◌, ◌&&◌, ◌≢◌, nat_lt, nat_le, filter, insert, is_none, None, Some, slice_get}
use Rattle.std.specs.List.{list_any, list_all}
use Rattle.std.specs.List.Sorted.{IsPermutation, IsNonDecreasing}
use Rattle.std.specs.FinMap as map
use Rattle.std.proofs.lemmas.Bool.{or_cases, or_left, or_right, or_from, eq-eqb, lt-ltb, cases_lt, false_from_ne_true}
use Rattle.std.proofs.lemmas.List.{take-append-drop}
use Rattle.std.proofs.lemmas.List.Folds.{list_any-append, list_all-append}
use Rattle.std.proofs.lemmas.List.Elements.{filter-append}
use Rattle.std.proofs.lemmas.List.Sorted.{IsPermutation-refl, IsPermutation-sym, IsPermutation-trans, IsPermutation-middle, IsPermutation-append_right, IsPermutation-insert, IsNonDecreasingBy-from_default}
use Rattle.std.proofs.Math.Nat.{mul-div_cancel, mul-le-mul_right, mul-mod_left}
use Rattle.reno_receiver.specs.declared.receiver.Receiver.TheInside.{Inside}
use Rattle.reno_receiver.specs.Received.{ReceiverState, next_of, held_of, gaining, may_wait, is_received, IsReceived, IsWellFormed}
use Rattle.reno_receiver.specs.LeastMissing.{IsLeastMissing}
use Rattle.reno_receiver.specs.Kept.{set_of, multiples_below, kept_state, IsKept}
use Rattle.reno_receiver.specs.Place.{IsPlaceOf}
use Rattle.reno_receiver.proofs.Next.{IsNextAt, next_of_at}
use Rattle.reno_receiver.proofs.Laws.{whole_multiple, least_missing}
use Rattle.reno_receiver.proofs.Sets.{contains_key-set_of, keys-set_of, insert_member, set_of-IsPermutation, RisesFrom-lower}
use Rattle.reno_receiver.proofs.Rising.{from, from-append, any_from, member_from, rises_from, filter_from, all_from, rises_held, member_held, none_held, filter_held, none_below, insert_held, drop_run, take_run, run_ends, sorted_held, found_any, absent}

-- a number that was received says nothing new
pub gaining_received : (st : ReceiverState) (q : ℕ) → IsReceived st q → gaining st q ≡ st
gaining_received st q is = ap (λ s. record st { received = s }) (insert_member st.received q is)

-- a number more, before or after those of the list
new_member : (xs ys zs : List ℕ) (q : ℕ) → IsPermutation (q ∷ ys) zs → set_of (xs ++ zs) ≡ map.insert (set_of (xs ++ ys)) q tt
new_member xs ys zs q p =
    sym (set_of-IsPermutation (q ∷ (xs ++ ys)) (xs ++ zs) (IsPermutation-trans _ (xs ++ q ∷ ys) _ (IsPermutation-sym _ _ (IsPermutation-middle xs q ys)) (IsPermutation-append_right xs _ _ p)))

-- so many numbers at the front follow one another, from the one after next on
pub record IsRun (r : Inside) (run : ℕ) : Type 0 where
  pub within : run ≤ length r.held
  pub runs : (k : ℕ) → k < run → get_or r.held k 0 ≡ (r.next + r.mss) + k * r.mss
  pub ended : run < length r.held → get_or r.held run 0 ≢ (r.next + r.mss) + run * r.mss

-- what `run_length` says of a list that is what is held
pub run_from : (r : Inside) (xs : List ℕ) (run : ℕ) → xs ≡ r.held → run ≤ length xs → ((k : ℕ) → k < run → get_or xs k 0 ≡ (r.next + r.mss) + k * r.mss) → (run < length xs → get_or xs run 0 ≢ (r.next + r.mss) + run * r.mss) → IsRun r run
run_from r xs run e within runs ended = record { within = rw (← e) within; runs = rw (← e) runs; ended = rw (← e) ended }

module _ (r : Inside) (kept : IsKept r) where
  next_is : r.next ≡ r.next / r.mss * r.mss
  next_is = whole_multiple r.next r.mss kept.next_multiple

  received_kept : (q : ℕ) → is_received (kept_state r) q ≡ (list_any (λ x. q == x) (multiples_below r.mss r.next) || list_any (λ x. q == x) r.held)
  received_kept q = contains_key-set_of (multiples_below r.mss r.next ++ r.held) q ∙ list_any-append (λ x. q == x) (multiples_below r.mss r.next) r.held

  -- what comes in order is a multiple of mss below next
  in_order_member : (q : ℕ) → list_any (λ x. q == x) (multiples_below r.mss r.next) ≡ true → (q + r.mss ≤ r.next) × (q % r.mss ≡ 0)
  in_order_member q is =
      let at = member_from r.mss 0 (r.next / r.mss) q is in
      let up : at.0 + 1 ≤ r.next / r.mss = omega arith in
      (omega (arith, next_is, mul-le-mul_right r.mss up), rw at.2 (mul-mod_left at.0 r.mss))

  pub received_is : (q : ℕ) → IsReceived (kept_state r) q → (q % r.mss ≡ 0) × (q ≤ 9000000000000)
  received_is q is =
      elim (or_cases _ _ (sym (received_kept q) ∙ is)) [
        | inl low ↦ let at = in_order_member q low in let high = kept.next_greatest in (at.1, omega arith)
        | inr high ↦ let at = member_held r.mss r.next q r.held kept.held_above high in (at.1, at.2)
      ]

  -- a multiple of mss below next is received
  pub below_received : (q : ℕ) → q % r.mss ≡ 0 → q < r.next → IsReceived (kept_state r) q
  below_received q whole lt =
      let is : q ≡ q / r.mss * r.mss = whole_multiple q r.mss whole in
      elim (cases_lt (q / r.mss) (r.next / r.mss)) [
        | inl below ↦ received_kept q ∙ or_left _ _ (ap (λ n. list_any (λ x. n == x) (multiples_below r.mss r.next)) is ∙ any_from r.mss (r.next / r.mss) (q / r.mss) below)
        | inr above ↦ absurd (omega (arith, next_is, is, mul-le-mul_right r.mss above))
      ]

  -- a number from next on that is not held is not received
  not_received : (q : ℕ) → r.next ≤ q → list_any (λ x. q == x) r.held ≡ false → is_received (kept_state r) q ≡ false
  not_received q le none =
      received_kept q
      ∙ or_from _ _ (false_from_ne_true _ (λ is. let at = in_order_member q is in let pos = kept.mss_least in omega arith)) none

  held_received : (q : ℕ) → list_any (λ x. q == x) r.held ≡ true → IsReceived (kept_state r) q
  held_received q is = received_kept q ∙ or_right _ _ is

  next_at_kept : IsNextAt (kept_state r).received r.mss (r.next / r.mss)
  next_at_kept = record {
    missing = rw (← next_is) (not_received r.next (omega arith) (none_held r.mss r.next r.next r.held kept.held_above (omega arith)));
    before = λ j lt. received_kept (j * r.mss) ∙ or_left _ _ (any_from r.mss (r.next / r.mss) j lt);
  }

  pub next_of_kept : next_of (kept_state r) ≡ r.next
  next_of_kept = next_of_at (kept_state r) (r.next / r.mss) kept.mss_least next_at_kept ∙ sym next_is

  pub least_kept : IsLeastMissing (kept_state r) r.next
  least_kept = subst (IsLeastMissing (kept_state r)) next_of_kept (least_missing (kept_state r) kept.mss_least)

  keys_kept : map.keys (kept_state r).received ≡ multiples_below r.mss r.next ++ r.held
  keys_kept =
      keys-set_of (0 * r.mss) (multiples_below r.mss r.next ++ r.held)
      (rises_from r.mss 0 (r.next / r.mss) r.held kept.mss_least (RisesFrom-lower ((0 + r.next / r.mss) * r.mss) (r.next + 1) r.held (omega (arith, next_is)) (rises_held r.mss r.next r.held kept.held_above)))

  low_enough : (0 + r.next / r.mss) * r.mss ≤ r.next + r.mss
  low_enough = omega (arith, next_is)

  pub held_of_kept : held_of (kept_state r) ≡ r.held
  held_of_kept =
      ap (λ n. filter (nat_lt n) (map.keys (kept_state r).received)) next_of_kept
      ∙ ap (filter (nat_lt r.next)) keys_kept
      ∙ filter-append (nat_lt r.next) (multiples_below r.mss r.next) r.held
      ∙ ap (λ l. l ++ filter (nat_lt r.next) r.held) (filter_from r.mss 0 (r.next / r.mss) r.next low_enough)
      ∙ filter_held r.mss r.next r.next r.held (omega arith) kept.held_above

  -- nothing above next is received where nothing is held
  pub none_above_kept : list_all (λ x. nat_le x r.next) (map.keys (kept_state r).received) ≡ (length r.held == 0)
  none_above_kept =
      ap (list_all (λ x. nat_le x r.next)) keys_kept
      ∙ list_all-append (λ x. nat_le x r.next) (multiples_below r.mss r.next) r.held
      ∙ ap (λ b. b && list_all (λ x. nat_le x r.next) r.held) (all_from r.mss 0 (r.next / r.mss) r.next low_enough)
      ∙ none_below r.mss r.next r.next r.held (omega arith) kept.held_above

  pub well_formed_kept : IsWellFormed (kept_state r)
  well_formed_kept = record {
    mss_least = kept.mss_least;
    mss_greatest = kept.mss_greatest;
    delack_greatest = kept.delack_greatest;
    multiple = λ q is. (received_is q is).0;
    greatest = λ q is. (received_is q is).1;
  }

  -- a number above next is held
  pub hold_kept : (q i : ℕ) → r.next < q → q % r.mss ≡ 0 → q ≤ 9000000000000 → IsPlaceOf q r.held i → IsKept record r { held = insert r.held i q }
  hold_kept q i low whole high place = record {
    mss_least = kept.mss_least;
    mss_greatest = kept.mss_greatest;
    delack_greatest = kept.delack_greatest;
    next_multiple = kept.next_multiple;
    next_greatest = kept.next_greatest;
    held_above = insert_held r.mss r.next q r.held i kept.held_above low whole high place.within place.before place.after;
  }

  pub rising_kept : IsNonDecreasing r.held
  rising_kept = IsNonDecreasingBy-from_default (λ x. x) r.held 0 (sorted_held r.mss r.next r.held kept.held_above)

  pub found_received : (i q : ℕ) → slice_get r.held i ≡ Some q → IsReceived (kept_state r) q
  found_received i q at = held_received q (found_any q r.held i at)

  pub unplaced : (q i : ℕ) → r.next < q → IsPlaceOf q r.held i → is_received (kept_state r) q ≡ false
  unplaced q i low place = not_received q (omega arith) (absent r.mss q r.held i place.before place.after)

  pub hold_gains : (q i : ℕ) → kept_state record r { held = insert r.held i q } ≡ gaining (kept_state r) q
  hold_gains q i = ap (λ s. record (kept_state r) { received = s }) (new_member (multiples_below r.mss r.next) r.held (insert r.held i q) q (IsPermutation-insert r.held i q))

  module _ (run : ℕ) (is : IsRun r run) where
    after_run : (r.next + r.mss) + run * r.mss ≡ (r.next / r.mss + suc run) * r.mss
    after_run = omega (arith, next_is)

    run_taken : take run r.held ≡ from r.mss (r.next / r.mss + 1) run
    run_taken = take_run r.mss (r.next / r.mss + 1) r.held run is.within (λ k lt. let e : get_or r.held k 0 ≡ (r.next + r.mss) + k * r.mss = is.runs k lt in omega (arith, next_is))

    run_listed : from r.mss (0 + r.next / r.mss) (suc run) ≡ r.next ∷ take run r.held
    run_listed =
        let none : 0 + r.next / r.mss ≡ r.next / r.mss = omega arith in
        ap (λ n. from r.mss n (suc run)) none ∙ ap (λ n. n ∷ from r.mss (r.next / r.mss + 1) run) (sym next_is) ∙ ap (λ l. r.next ∷ l) (sym run_taken)

    in_order_after : multiples_below r.mss ((r.next + r.mss) + run * r.mss) ≡ multiples_below r.mss r.next ++ r.next ∷ take run r.held
    in_order_after =
        ap (λ n. from r.mss 0 (n / r.mss)) after_run
        ∙ ap (from r.mss 0) (mul-div_cancel (r.next / r.mss + suc run) kept.mss_least)
        ∙ from-append r.mss 0 (r.next / r.mss) (suc run)
        ∙ ap (λ l. multiples_below r.mss r.next ++ l) run_listed

    pub advance_gains : kept_state record r { next = (r.next + r.mss) + run * r.mss; held = drop run r.held } ≡ gaining (kept_state r) (next_of (kept_state r))
    advance_gains =
        ap (λ l. record (kept_state r) { received = set_of l }) (ap (λ l. l ++ drop run r.held) in_order_after ∙ append_assoc (multiples_below r.mss r.next) (r.next ∷ take run r.held) (drop run r.held) ∙ ap (λ l. multiples_below r.mss r.next ++ r.next ∷ l) (take-append-drop run r.held))
        ∙ ap (λ s. record (kept_state r) { received = s }) (new_member (multiples_below r.mss r.next) r.held (r.next ∷ r.held) r.next (IsPermutation-refl _))
        ∙ ap (gaining (kept_state r)) (sym next_of_kept)

    pub next_fits : r.next ≤ 9000000000000 → (r.next + r.mss) + run * r.mss ≤ 9000000000000 + r.mss
    next_fits le = run_ends r.mss r.next (r.next + r.mss) r.held run kept.held_above (omega arith) is.within is.runs

    pub advance_kept : r.next ≤ 9000000000000 → IsKept record r { next = (r.next + r.mss) + run * r.mss; held = drop run r.held }
    advance_kept le = record {
      mss_least = kept.mss_least;
      mss_greatest = kept.mss_greatest;
      delack_greatest = kept.delack_greatest;
      next_multiple = rw after_run (mul-mod_left (r.next / r.mss + suc run) r.mss);
      next_greatest = next_fits le;
      held_above = drop_run r.mss r.next (r.next + r.mss) r.held run kept.held_above kept.next_multiple refl is.within is.runs is.ended;
    }

  -- whether the answer to the next number may wait
  pub may_wait_kept : may_wait (kept_state r) (next_of (kept_state r)) ≡ ((length r.held == 0) && (nat_lt 0 r.delack && is_none r.timer))
  may_wait_kept =
      ap (λ n. (n == next_of (kept_state r)) && (list_all (λ x. nat_le x n) (map.keys (kept_state r).received) && (nat_lt 0 r.delack && is_none r.timer))) next_of_kept
      ∙ ap (λ b. b && (list_all (λ x. nat_le x r.next) (map.keys (kept_state r).received) && (nat_lt 0 r.delack && is_none r.timer))) (eq-eqb _ _ (sym next_of_kept))
      ∙ ap (λ b. b && (nat_lt 0 r.delack && is_none r.timer)) none_above_kept

  and-true : (b : Bool) → (b && true) ≡ b
  and-true true = refl
  and-true false = refl

  -- with answers delayed and none due, all hangs on what is held
  pub waits_is : (xs : List ℕ) (empty : Bool) → xs ≡ r.held → empty ≡ (length xs == 0) → r.timer ≡ None → 0 < r.delack → empty ≡ may_wait (kept_state r) (next_of (kept_state r))
  waits_is xs empty same is none delayed = sym (may_wait_kept ∙ rw (lt-ltb 0 r.delack delayed, none, ← same, ← is) (and-true empty))
