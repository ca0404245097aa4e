-- What lists of entries in order do as maps: the first is the least, and what leaves in front and joins behind.
use Rattle.std.proofs.Common.{◌≡◌, ℕ, ◌<◌, true, false, cond, T, ◌∷◌, [], List, ◌++◌, append_assoc, append-nil, arith, refl, sym, ap, subst, ◌∙◌, Some, None}
use Rattle.std.specs.List.{slice_get, AllByRecursion}
use Rattle.std.specs.FinMap as map
use Rattle.std.specs.FinMap.{get-from_sorted, get-from_entries, entries-from_sorted, from_entries_push, find}
use Rattle.std.specs.FinMap.Entries.{below_all}
use Rattle.std.specs.Ordering.{eq_by_cmp, is_eq, is_lt}
use Rattle.std.specs.declared.cmp.Ordering.{Ordering}
use Rattle.std.specs.declared.cmp.Ordering.TheVariants.{Less}
use Rattle.sim_time.specs.declared.key.Key.{Key}
use Rattle.sim_time.specs.Keys.{key_cmp}
use Rattle.sim_time.proofs.Order.{keys_total, exact_keys, earlier_less}
use Rattle.tournament.specs.Keyed.{least, apply, entering, EachKey, IsInOrder, map_of_keys}
use Rattle.tournament.proofs.Maps.{not_some, is_equal, same_at, is_less, both_of, both, untied, get_here, get-changed, remove_insert}

less_is : (r : Ordering) → r ≡ Less → T (is_lt r)
less_is r e = subst (λ (o : Ordering). T (is_lt o)) (sym e) tt

module _ {E : Type 0} where
  sorted_map : (es : List (Key × E)) → IsInOrder es → map_of_keys es ≡ map.from_sorted {R = key_cmp} es
  sorted_map es h = same_at _ _ (λ q. get-from_entries keys_total es q ∙ sym (get-from_sorted key_cmp es q h))

  -- the map's entries are the list
  pub entries_are : (es : List (Key × E)) → IsInOrder es → map.entries (map_of_keys es) ≡ es
  entries_are es h = ap map.entries (sorted_map es h) ∙ entries-from_sorted key_cmp es h

  -- the first is the least
  pub least_first : (es : List (Key × E)) → IsInOrder es → least (map_of_keys es) ≡ slice_get es 0
  least_first es h = ap (λ l. slice_get l 0) (entries_are es h)

  below_none : (x : Key) (es : List (Key × E)) → T (below_all key_cmp x es) → find key_cmp x es ≡ None
  below_none x [] h = refl
  below_none x (e ∷ es) h = ap (λ r. cond (is_eq r) (Some e.1) (find key_cmp x es)) (is_less _ (both_of _ _ h).0) ∙ below_none x es (both_of _ _ h).1

  -- the first leaves
  pub first_leaves : (e : Key × E) (es : List (Key × E)) → IsInOrder (e ∷ es) → map_of_keys es ≡ map.remove (map_of_keys (e ∷ es)) e.0
  first_leaves e es h = sym (remove_insert (map_of_keys es) e.0 e.1 (get-from_entries keys_total es e.0 ∙ below_none e.0 es (both_of _ _ h).0))

  -- what holds of each key of the map holds of each entry's
  pub each_entry : (P : Key → Type 0) (es : List (Key × E)) → EachKey P (map_of_keys es) → AllByRecursion (λ (e : Key × E). P e.0) es
  each_entry P [] each = tt
  each_entry P (e ∷ es) each = (
    each e.0 e.1 (get_here (map_of_keys es) e.0 (Some e.1)),
    each_entry P es (λ k v there. elim (eq_by_cmp key_cmp k e.0) as (λ b. eq_by_cmp key_cmp k e.0 ≡ b → P k) [
      | true ↦ λ t. each k e.1 (get-changed (map_of_keys es) e.0 (Some e.1) k ∙ ap (λ b. cond b (Some e.1) (map.get (map_of_keys es) k)) t)
      | false ↦ λ t. each k v (get-changed (map_of_keys es) e.0 (Some e.1) k ∙ ap (λ b. cond b (Some e.1) (map.get (map_of_keys es) k)) t ∙ there)
    ] refl),
  )

  -- and back
  pub each_due : (P : Key → Type 0) (es : List (Key × E)) → AllByRecursion (λ (e : Key × E). P e.0) es → EachKey P (map_of_keys es)
  each_due P es all k v there = found es all (sym (get-from_entries keys_total es k) ∙ there)
    where
      found : (fs : List (Key × E)) → AllByRecursion (λ (e : Key × E). P e.0) fs → find key_cmp k fs ≡ Some v → P k
      found [] all e = absurd (not_some e)
      found (f ∷ fs) all e = elim (eq_by_cmp key_cmp k f.0) as (λ b. eq_by_cmp key_cmp k f.0 ≡ b → cond b (Some f.1) (find key_cmp k fs) ≡ Some v → P k) [
        | true ↦ λ t _. subst P (sym (exact_keys k f.0 (is_equal _ t))) all.0
        | false ↦ λ _ rest. found fs all.1 rest
      ] refl e

  below_push : (x k : Key) (v : E) (es : List (Key × E)) → key_cmp x k ≡ Less → T (below_all key_cmp x es) → T (below_all key_cmp x (es ++ (k, v) ∷ []))
  below_push x k v [] less h = both _ _ (less_is _ less) tt
  below_push x k v (e ∷ es) less h = both _ _ (both_of _ _ h).0 (below_push x k v es less (both_of _ _ h).1)

  -- a later entry joins behind
  pub in_order_push : (k : Key) (v : E) (es : List (Key × E)) → IsInOrder es → AllByRecursion (λ (e : Key × E). e.0.time < k.time) es → IsInOrder (es ++ (k, v) ∷ [])
  in_order_push k v [] h all = tt
  in_order_push k v (e ∷ es) h all = both _ _ (below_push e.0 k v es (earlier_less e.0 k all.0) (both_of _ _ h).0) (in_order_push k v es (both_of _ _ h).1 all.1)

  later_none : (k : Key) (es : List (Key × E)) → AllByRecursion (λ (e : Key × E). e.0.time < k.time) es → find key_cmp k es ≡ None
  later_none k [] all = refl
  later_none k (e ∷ es) all =
      ap (λ b. cond b (Some e.1) (find key_cmp k es)) (untied k e.0 (λ (same : k ≡ e.0). not_below k.time (subst (λ (x : Key). x.time < k.time) (sym same) all.0))) ∙ later_none k es all.1
    where
      not_below : (n : ℕ) → n < n → ⊥
      not_below n h = omega (arith, h)

  -- each entry of the second list is later than all before it
  abbrev pub Follows : List (Key × E) → List (Key × E) → Type 0
  Follows es [] = Unit {0}
  Follows es (f ∷ fs) = AllByRecursion (λ (e : Key × E). e.0.time < f.0.time) es × Follows (es ++ f ∷ []) fs

  -- several join behind
  pub record Joined (es fs : List (Key × E)) : Type 0 where
    pub in_order : IsInOrder (es ++ fs)
    pub entered : map_of_keys (es ++ fs) ≡ apply (entering fs) (map_of_keys es)

  pub joined : (fs es : List (Key × E)) → IsInOrder es → Follows es fs → Joined es fs
  joined [] es h follows = record { in_order = subst IsInOrder (sym (append-nil es)) h; entered = ap map_of_keys (append-nil es) }
  joined (f ∷ fs) es h follows =
      let one : IsInOrder (es ++ f ∷ []) = in_order_push f.0 f.1 es h follows.0 in
      let rest = joined fs (es ++ f ∷ []) one follows.1 in
      let same : (es ++ f ∷ []) ++ fs ≡ es ++ f ∷ fs = append_assoc es (f ∷ []) fs in
      record {
        in_order = subst IsInOrder same rest.in_order;
        entered = ap map_of_keys (sym same) ∙ rest.entered ∙ ap (apply (entering fs)) (from_entries_push keys_total exact_keys es f.0 f.1 (later_none f.0 es follows.0));
      }
