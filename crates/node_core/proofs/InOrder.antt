-- What is left of what is pending, once the least has left.
use Rattle.std.proofs.Common.{◌≡◌, ◌<◌, Bool, true, false, cond, T, List, [], ◌∷◌, ◌++◌, length, Some, None, refl, sym, ap, subst, ◌∙◌, append_assoc, append-nil, arith}
use Rattle.std.specs.List.{slice_get}
use Rattle.std.specs.Ordering.{is_eq, eq_by_cmp}
use Rattle.std.specs.FinMap as map
use Rattle.std.specs.FinMap.{find, is_sorted, entries_sorted, get-entries, entries-from_sorted, get-from_sorted}
use Rattle.std.specs.FinMap.Entries.{below_all}
use Rattle.sim_time.specs.declared.key.Key.{Key}
use Rattle.sim_time.specs.Keys.{key_cmp}
use Rattle.sim_time.proofs.Order.{exact_keys}
use Rattle.tournament.specs.Keyed.{Keyed, least}
use Rattle.tournament.proofs.Maps.{both_of, is_less, is_equal, same_at, get-changed, not_some, same_some}

module _ {E : Type 0} where
  -- a key that all others are behind is not among them
  not_again : (k : Key) (es : List (Key × E)) → T (below_all key_cmp k es) → find key_cmp k es ≡ None
  not_again k [] behind = refl
  not_again k (e ∷ es) behind =
      let parts = both_of _ _ behind in
      ap (λ r. cond (is_eq r) (Some e.1) (find key_cmp k es)) (is_less _ parts.0) ∙ not_again k es parts.1

  -- once the least entry is taken out, the others are left
  rest_entries : (m : Keyed E) (k : Key) (v : E) (es : List (Key × E)) → map.entries m ≡ (k, v) ∷ es → map.entries (map.remove m k) ≡ es
  rest_entries m k v es is = ap map.entries (same_at (map.remove m k) (map.from_sorted {R = key_cmp} es) same) ∙ entries-from_sorted key_cmp es sorted.1
    where
      sorted : T (below_all key_cmp k es) × T (is_sorted key_cmp es)
      sorted = both_of _ _ (subst (λ (xs : List (Key × E)). T (is_sorted key_cmp xs)) is (entries_sorted m))

      cases : (q : Key) (b : Bool) → eq_by_cmp key_cmp q k ≡ b → cond b None (cond b (Some v) (find key_cmp q es)) ≡ find key_cmp q es
      cases q true tie = sym (ap (λ x. find key_cmp x es) (exact_keys q k (is_equal _ tie)) ∙ not_again k es sorted.0)
      cases q false tie = refl

      same : (q : Key) → map.get (map.remove m k) q ≡ map.get (map.from_sorted {R = key_cmp} es) q
      same q =
          get-changed m k None q ∙ ap (cond (eq_by_cmp key_cmp q k) None) (get-entries m q ∙ ap (find key_cmp q) is) ∙ cases q (eq_by_cmp key_cmp q k) refl
          ∙ sym (get-from_sorted key_cmp es q sorted.1)

  first_of : (es : List (Key × E)) (x : Key × E) → slice_get es 0 ≡ Some x → (rest : List (Key × E)) × (es ≡ x ∷ rest)
  first_of [] x e = absurd (not_some e)
  first_of (y ∷ es) x e = (es, ap (λ z. z ∷ es) (same_some y x e))

  -- what was taken so far and what is left is all, after one more
  pub taken_more : (so_far all : List (Key × E)) (m : Keyed E) (k : Key) (v : E) → least m ≡ Some (k, v) → so_far ++ map.entries m ≡ all → (so_far ++ (k, v) ∷ []) ++ map.entries (map.remove m k) ≡ all
  taken_more so_far all m k v first whole =
      let entries = first_of (map.entries m) (k, v) first in
      append_assoc so_far ((k, v) ∷ []) (map.entries (map.remove m k)) ∙ ap (λ es. so_far ++ (k, v) ∷ es) (rest_entries m k v entries.0 entries.1) ∙ ap (λ es. so_far ++ es) (sym entries.1) ∙ whole

  pub fewer : (m : Keyed E) (k : Key) (v : E) → least m ≡ Some (k, v) → length (map.entries (map.remove m k)) < length (map.entries m)
  fewer m k v first =
      let entries = first_of (map.entries m) (k, v) first in
      let before = ap length entries.1 in
      let after = ap length (rest_entries m k v entries.0 entries.1) in
      omega (arith, before, after)

  pub taken_all : (so_far all : List (Key × E)) (m : Keyed E) → least m ≡ None → so_far ++ map.entries m ≡ all → so_far ≡ all
  taken_all so_far all m none whole = sym (append-nil so_far) ∙ ap (λ es. so_far ++ es) (sym (empty (map.entries m) none)) ∙ whole
    where
      empty : (es : List (Key × E)) → slice_get es 0 ≡ None → es ≡ []
      empty [] e = refl
      empty (x ∷ es) e = absurd (not_some (sym e))
