-- What is pending at several nodes, sorted by key, is what is pending at all of them in the order of keys.
use Rattle.std.proofs.Common.{◌≡◌, append-nil, ℕ, suc, ◌+◌, ◌<◌, ◌≤◌, Bool, true, false, cond, not, ◌&&◌, T, List, [], ◌∷◌, ◌++◌, length, get_or, None, Some, refl, sym, ap, subst, ◌∙◌, arith}
use Rattle.std.proofs.lemmas.List.Elements.{filter-append}
use Rattle.std.specs.List.{filter, slice_get}
use Rattle.std.specs.List.Sorted.{IsSortedByKey, IsStableByKey}
use Rattle.std.specs.Option.{option_map}
use Rattle.std.specs.FinMap as map
use Rattle.std.specs.FinMap.{find, is_sorted, get-entries, entries_sorted, get-from_entries, get-from_sorted, entries-from_sorted}
use Rattle.std.specs.FinMap.Entries.{below_all}
use Rattle.std.specs.declared.cmp.Ordering.{Ordering}
use Rattle.std.specs.declared.cmp.Ordering.TheVariants.{Less, Equal, Greater}
use Rattle.std.specs.Ordering.{eq_by_cmp, is_eq, is_lt, ordering_reverse}
use Rattle.sim_time.specs.declared.key.Key.{Key}
use Rattle.sim_time.specs.Keys.{key_cmp}
use Rattle.sim_time.proofs.Order.{keys_total, exact_keys}
use Rattle.tournament.specs.Keyed.{Keyed, EachKey}
use Rattle.tournament.specs.Gathered.{all_entries, gathered, map_at}
use Rattle.tournament.proofs.Maps.{none_or, not_some, is_equal, is_less, both, both_of, same_at, tied}

-- neither key is less than the other
tied_is : (q k : Key) → (not (is_lt (key_cmp q k)) && not (is_lt (key_cmp k q))) ≡ eq_by_cmp key_cmp q k
tied_is q k = ap (λ r. not (is_lt r) && not (is_lt (key_cmp k q))) turned ∙ at (key_cmp k q) ∙ ap is_eq (sym turned)
  where
    turned : key_cmp q k ≡ ordering_reverse (key_cmp k q)
    turned = keys_total.antisymm q k

    at : (r : Ordering) → (not (is_lt (ordering_reverse r)) && not (is_lt r)) ≡ is_eq (ordering_reverse r)
    at Less = refl
    at Equal = refl
    at Greater = refl

-- of two keys that differ the one is less, where the other is not
less_of : (r : Ordering) → is_lt (ordering_reverse r) ≡ false → is_eq r ≡ false → r ≡ Less
less_of Less a b = refl
less_of Equal a b = absurd (subst T b tt)
less_of Greater a b = absurd (subst T a tt)

module _ {E : Type 0} where
  abbrev having : Key → Key × E → Bool
  having q e = eq_by_cmp key_cmp q e.0

  -- what is found under a key is the first of those that have it
  find_kept : (q : Key) (es : List (Key × E)) → find key_cmp q es ≡ option_map (λ (e : Key × E). e.1) (slice_get (filter (having q) es) 0)
  find_kept q [] = refl
  find_kept q (e ∷ es) =
      elim (eq_by_cmp key_cmp q e.0) as (λ b. cond b (Some e.1) (find key_cmp q es) ≡ option_map (λ (e : Key × E). e.1) (slice_get (cond b (e ∷ filter (having q) es) (filter (having q) es)) 0)) [
        | true ↦ refl
        | false ↦ find_kept q es
      ]

  none_kept : (q : Key) (es : List (Key × E)) → find key_cmp q es ≡ None → filter (having q) es ≡ []
  none_kept q [] none = refl
  none_kept q (e ∷ es) none =
      elim (eq_by_cmp key_cmp q e.0) as (λ b. cond b (Some e.1) (find key_cmp q es) ≡ None → cond b (e ∷ filter (having q) es) (filter (having q) es) ≡ []) [
        | true ↦ λ h. absurd (not_some (sym h))
        | false ↦ λ h. none_kept q es h
      ] none

  -- a key that comes before all others is none of theirs
  none_below : (q x : Key) (es : List (Key × E)) → eq_by_cmp key_cmp q x ≡ true → T (below_all key_cmp x es) → filter (having q) es ≡ []
  none_below q x [] same h = refl
  none_below q x (e ∷ es) same h =
      let less : key_cmp x e.0 ≡ Less = is_less _ (both_of _ _ h).0 in
      let other : eq_by_cmp key_cmp q e.0 ≡ false = ap is_eq (ap (λ k. key_cmp k e.0) (exact_keys q x (is_equal _ same)) ∙ less) in
      ap (λ b. cond b (e ∷ filter (having q) es) (filter (having q) es)) other ∙ none_below q x es same (both_of _ _ h).1

  -- in a sorted list each key stands once
  once_in_sorted : (q : Key) (es : List (Key × E)) → T (is_sorted key_cmp es) → length (filter (having q) es) ≤ 1
  once_in_sorted q [] h = omega arith
  once_in_sorted q (e ∷ es) h =
      elim (eq_by_cmp key_cmp q e.0) as (λ b. eq_by_cmp key_cmp q e.0 ≡ b → length (cond b (e ∷ filter (having q) es) (filter (having q) es)) ≤ 1) [
        | true ↦ λ same. let none = ap length (none_below q e.0 es same (both_of _ _ h).0) in omega (arith, none)
        | false ↦ λ _. once_in_sorted q es (both_of _ _ h).1
      ] refl

  -- maps whose keys are at home at their places, from a first place on
  abbrev AtHomeFrom : (Key → ℕ) → ℕ → List (Keyed E) → Type 0
  AtHomeFrom home from ms = (i : ℕ) → EachKey (λ k. home k ≡ from + i) (map_at ms i)

  further : (home : Key → ℕ) (from : ℕ) (m : Keyed E) (ms : List (Keyed E)) → AtHomeFrom home from (m ∷ ms) → AtHomeFrom home (from + 1) ms
  further home from m ms at i k v there = let here : home k ≡ from + suc i = at (suc i) k v there in omega (arith, here)

  -- a key that is at home before them is in none of them
  none_past : (home : Key → ℕ) (q : Key) (from : ℕ) (ms : List (Keyed E)) → AtHomeFrom home from ms → home q < from → filter (having q) (all_entries ms) ≡ []
  none_past home q from [] at past = refl
  none_past home q from (m ∷ ms) at past =
      let none : map.get m q ≡ None = none_or (map.get m q) (λ v there. let here : home q ≡ from + 0 = at 0 q v there in omega (arith, here, past)) in
      filter-append (having q) (map.entries m) (all_entries ms)
      ∙ ap (λ l. l ++ filter (having q) (all_entries ms)) (none_kept q (map.entries m) (sym (get-entries m q) ∙ none))
      ∙ none_past home q (from + 1) ms (further home from m ms at) (omega (arith, past))

  -- each key stands once in all of them
  once_in_all : (home : Key → ℕ) (q : Key) (from : ℕ) (ms : List (Keyed E)) → AtHomeFrom home from ms → length (filter (having q) (all_entries ms)) ≤ 1
  once_in_all home q from [] at = omega arith
  once_in_all home q from (m ∷ ms) at =
      let joined = filter-append (having q) (map.entries m) (all_entries ms) in
      elim (map.get m q) as (λ o. map.get m q ≡ o → length (filter (having q) (map.entries m ++ all_entries ms)) ≤ 1) [
        | None ↦ λ none.
            let first = none_kept q (map.entries m) (sym (get-entries m q) ∙ none) in
            subst (λ l. length l ≤ 1) (sym (joined ∙ ap (λ l. l ++ filter (having q) (all_entries ms)) first)) (once_in_all home q (from + 1) ms (further home from m ms at))
        | Some v ↦ λ there.
            let here : home q ≡ from + 0 = at 0 q v there in
            let others = none_past home q (from + 1) ms (further home from m ms at) (omega (arith, here)) in
            subst (λ l. length l ≤ 1) (sym (joined ∙ ap (λ l. filter (having q) (map.entries m) ++ l) others ∙ append-nil (filter (having q) (map.entries m)))) (once_in_sorted q (map.entries m) (entries_sorted m))
      ] refl

  below_less : (x y : Key) (es : List (Key × E)) → key_cmp x y ≡ Less → T (below_all key_cmp y es) → T (below_all key_cmp x es)
  below_less x y [] less h = tt
  below_less x y (e ∷ es) less h =
      both _ _ (subst (λ r. T (is_lt r)) (sym (keys_total.trans x y e.0 less (is_less _ (both_of _ _ h).0))) tt) (below_less x y es less (both_of _ _ h).1)

  -- sorted, with each key once, the keys strictly rise
  strictly : (es : List (Key × E)) → IsSortedByKey (λ (e : Key × E). e.0) key_cmp es → ((q : Key) → length (filter (having q) es) ≤ 1) → T (is_sorted key_cmp es)
  strictly [] sorted once = tt
  strictly (e ∷ es) sorted once =
      let rest = strictly es tail_sorted tail_once in
      both _ _ (first es sorted once rest) rest
    where
      tail_sorted : IsSortedByKey (λ (e : Key × E). e.0) key_cmp es
      tail_sorted k d from upto =
          let two : suc (k + 1) ≡ suc k + 1 = omega arith in
          ap (λ n. is_lt (key_cmp (get_or (e ∷ es) n d).0 (get_or es k d).0)) two ∙ sorted (suc k) d (omega arith) (omega (arith, upto))

      tail_once : (q : Key) → length (filter (having q) es) ≤ 1
      tail_once q = elim (eq_by_cmp key_cmp q e.0) as (λ b. length (cond b (e ∷ filter (having q) es) (filter (having q) es)) ≤ 1 → length (filter (having q) es) ≤ 1) [
        | true ↦ λ h. omega (arith, h)
        | false ↦ λ h. h
      ] (once q)

      first : (fs : List (Key × E)) → IsSortedByKey (λ (e : Key × E). e.0) key_cmp (e ∷ fs) → ((q : Key) → length (filter (having q) (e ∷ fs)) ≤ 1) → T (is_sorted key_cmp fs) → T (below_all key_cmp e.0 fs)
      first [] sorted once h = tt
      first (f ∷ fs) sorted once h =
          let not_less : is_lt (key_cmp f.0 e.0) ≡ false = sorted 0 e (omega arith) (omega arith) in
          let itself : eq_by_cmp key_cmp e.0 e.0 ≡ true = tied e.0 in
          let other : eq_by_cmp key_cmp e.0 f.0 ≡ false = apart (once e.0) itself in
          let less : key_cmp e.0 f.0 ≡ Less = less_of (key_cmp e.0 f.0) (ap is_lt (sym (keys_total.antisymm f.0 e.0)) ∙ not_less) other in
          both _ _ (subst (λ r. T (is_lt r)) (sym less) tt) (below_less e.0 f.0 fs less (both_of _ _ h).0)
        where
          apart : length (filter (having e.0) (e ∷ f ∷ fs)) ≤ 1 → eq_by_cmp key_cmp e.0 e.0 ≡ true → eq_by_cmp key_cmp e.0 f.0 ≡ false
          apart few itself =
              let both_in : length (e ∷ filter (having e.0) (f ∷ fs)) ≤ 1 = subst (λ b. length (cond b (e ∷ filter (having e.0) (f ∷ fs)) (filter (having e.0) (f ∷ fs))) ≤ 1) itself few in
              elim (eq_by_cmp key_cmp e.0 f.0) as (λ b. length (e ∷ cond b (f ∷ filter (having e.0) fs) (filter (having e.0) fs)) ≤ 1 → b ≡ false) [
                | true ↦ λ h. absurd (omega (arith, h))
                | false ↦ λ _. refl
              ] both_in

  -- a stable sort by key keeps those of each key
  same_kept : (q : Key) (v : E) (es fs : List (Key × E)) → IsStableByKey (λ (e : Key × E). e.0) key_cmp es fs → filter (having q) fs ≡ filter (having q) es
  same_kept q v es fs stable =
      let same : (λ (e : Key × E). (not (is_lt (key_cmp q e.0)) && not (is_lt (key_cmp e.0 q)))) ≡ having q = (λ i e. tied_is q e.0 i) in
      ap (λ p. filter p fs) (sym same) ∙ stable (q, v) ∙ ap (λ p. filter p es) same

  pub in_key_order : (home : Key → ℕ) (v : E) (ms : List (Keyed E)) (sorted : List (Key × E)) → ((i : ℕ) → EachKey (λ k. home k ≡ i) (map_at ms i))
      → IsSortedByKey (λ (e : Key × E). e.0) key_cmp sorted → IsStableByKey (λ (e : Key × E). e.0) key_cmp (all_entries ms) sorted → sorted ≡ map.entries (gathered ms)
  unfolding gathered
  in_key_order home v ms sorted at rises stable =
      let once : (q : Key) → length (filter (having q) sorted) ≤ 1 = λ q. subst (λ l. length l ≤ 1) (sym (same_kept q v (all_entries ms) sorted stable)) (once_in_all home q 0 ms (λ i k w there. let here : home k ≡ i = at i k w there in omega (arith, here))) in
      let strict = strictly sorted rises once in
      let same = same_at (map.from_sorted {R = key_cmp} sorted) (gathered ms) (λ q.
      get-from_sorted key_cmp sorted q strict ∙ find_kept q sorted ∙ ap (λ l. option_map (λ (e : Key × E). e.1) (slice_get l 0)) (same_kept q v (all_entries ms) sorted stable)
      ∙ sym (find_kept q (all_entries ms)) ∙ sym (get-from_entries keys_total (all_entries ms) q)) in
      sym (entries-from_sorted key_cmp sorted strict) ∙ ap map.entries same
