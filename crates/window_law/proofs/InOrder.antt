-- How a merge makes the lines in order: the least line of all comes first, and then the others in order.
use Rattle.std.proofs.Common.{◌≡◌, List, [], ◌∷◌, ◌++◌, length, map, Bool, true, false, cond, ◌&&◌, T, Some, refl, sym, ap, subst, Less, Equal, Greater, ◌∙◌}
use Rattle.std.specs.List.{AllByRecursion}
use Rattle.std.specs.Ordering.{is_lt, is_eq}
use Rattle.std.specs.FinMap.{find, put, entries, entries_sorted, entries-insert, entries-from_sorted, get-entries, from_entries, from_sorted, get-from_entries, empty, empty_of_len, len-entries, is_sorted}
use Rattle.std.specs.FinMap.Entries.{below_all, by_order}
use Rattle.sim_time.specs.declared.key.Key.{Key}
use Rattle.sim_time.specs.Keys.{key_cmp}
use Rattle.sim_time.proofs.Order.{keys_total, exact_keys}
use Rattle.node_core.specs.TraceLine.{TraceLine}
use Rattle.window_law.specs.Windows.{keyed, in_order}
use Rattle.window_law.proofs.Changes.{same, same_is}
use Rattle.window_law.proofs.Turn.{ordered}

all_put : (P : Key × TraceLine → Type 0) (k : Key) (v : TraceLine) (es : List (Key × TraceLine)) → P (k, v) → AllByRecursion P es → AllByRecursion P (put key_cmp k v es)
all_put P k v [] one all = (one, tt)
all_put P k v (e ∷ es) one all =
    elim (key_cmp k e.0) as (λ o. key_cmp k e.0 ≡ o → AllByRecursion P (by_order o ((k, v) ∷ e ∷ es) ((e.0, v) ∷ es) (e ∷ put key_cmp k v es))) [
      | Less ↦ λ o. (one, all)
      | Equal ↦ λ o. (subst (λ (j : Key). P (j, v)) (exact_keys k e.0 o) one, all.1)
      | Greater ↦ λ o. (all.0, all_put P k v es one all.1)
    ] refl

pub no_entries : entries {X = TraceLine} {R = key_cmp} empty ≡ []
no_entries =
    let none : List (Key × TraceLine) = [] in
    let are : entries {R = key_cmp} (from_sorted none) ≡ none = entries-from_sorted key_cmp none tt in
    ap entries (sym (empty_of_len (from_sorted {R = key_cmp} none) (len-entries _ ∙ ap length are))) ∙ are

-- what holds of all entries holds of those of the map
pub all_entries : (P : Key × TraceLine → Type 0) (es : List (Key × TraceLine)) → AllByRecursion P es → AllByRecursion P (entries (from_entries {R = key_cmp} es))
all_entries P [] all = subst (AllByRecursion P) (sym no_entries) tt
all_entries P (e ∷ es) all = subst (AllByRecursion P) (sym (entries-insert keys_total (from_entries es) e.0 e.1)) (all_put P e.0 e.1 _ all.0 (all_entries P es all.1))

abbrev IsKeyed : Key × TraceLine → Type 0
IsKeyed e = e.1.key ≡ e.0

all_keyed : (ls : List TraceLine) → AllByRecursion IsKeyed (map keyed ls)
all_keyed [] = tt
all_keyed (l ∷ ls) = (refl, all_keyed ls)

keyed_again : (es : List (Key × TraceLine)) → AllByRecursion IsKeyed es → map keyed (map (λ (e : Key × TraceLine). e.1) es) ≡ es
keyed_again [] all = refl
keyed_again (e ∷ es) all = λ i. (all.0 i, e.1) ∷ keyed_again es all.1 i

-- the lines in order, under their keys, are the entries
pub entries_are : (ls : List TraceLine) → map keyed (in_order ls) ≡ entries (from_entries {R = key_cmp} (map keyed ls))
entries_are ls = keyed_again _ (all_entries IsKeyed (map keyed ls) (all_keyed ls))

pub both : (a b : Bool) → T a → T b → T (a && b)
both true b p q = q
both false b p q = p

pub below_of_all : (k : Key) (es : List (Key × TraceLine)) → AllByRecursion (λ (e : Key × TraceLine). key_cmp k e.0 ≡ Less) es → T (below_all key_cmp k es)
below_of_all k [] all = tt
below_of_all k (e ∷ es) all = both _ _ (subst (λ r. T (is_lt r)) (sym all.0) tt) (below_of_all k es all.1)

after_keyed : (k : Key) (ls : List TraceLine) → AllByRecursion (λ (l : TraceLine). key_cmp k l.key ≡ Less) ls → AllByRecursion (λ (e : Key × TraceLine). key_cmp k e.0 ≡ Less) (map keyed ls)
after_keyed k [] all = tt
after_keyed k (l ∷ ls) all = (all.0, after_keyed k ls all.1)

-- a line that is found alone at its key, before all others
pub in_order_first : (l : TraceLine) (ls rest : List TraceLine) → ((k : Key) → find key_cmp k (map keyed ls) ≡ cond (same k l.key) (Some l) (find key_cmp k (map keyed rest)))
    → AllByRecursion (λ (m : TraceLine). key_cmp l.key m.key ≡ Less) rest → in_order ls ≡ l ∷ in_order rest
in_order_first l ls rest alike least =
    ordered ls (l ∷ in_order rest) (subst (λ es. T (is_sorted key_cmp (keyed l ∷ es))) (sym (entries_are rest)) (both _ _ (below_of_all l.key _ (all_entries (λ e. key_cmp l.key e.0 ≡ Less) (map keyed rest) (after_keyed l.key rest least))) (entries_sorted (from_entries (map keyed rest)))))
    (λ k. alike k ∙ ap (λ o. cond (same k l.key) (Some l) o) (sym (get-from_entries keys_total (map keyed rest) k) ∙ get-entries (from_entries {R = key_cmp} (map keyed rest)) k ∙ ap (find key_cmp k) (sym (entries_are rest))))

-- a later key isn't the same
not_same : (a b : Key) → key_cmp a b ≡ Less → (k : Key) → same k a ≡ true → same k b ≡ false
not_same a b e k t = ap is_eq (ap (λ (z : Key). key_cmp z b) (same_is k a t) ∙ e)

found_past : (xs : List TraceLine) (l : TraceLine) (ys : List TraceLine) → AllByRecursion (λ (m : TraceLine). key_cmp l.key m.key ≡ Less) xs → (k : Key)
    → find key_cmp k (map keyed (xs ++ l ∷ ys)) ≡ cond (same k l.key) (Some l) (find key_cmp k (map keyed (xs ++ ys)))
found_past [] l ys all k = refl
found_past (x ∷ xs) l ys all k =
    ap (λ o. cond (same k x.key) (Some x) o) (found_past xs l ys all.1 k)
    ∙ elim (same k l.key) as (λ b. same k l.key ≡ b → cond (same k x.key) (Some x) (cond b (Some l) (find key_cmp k (map keyed (xs ++ ys)))) ≡ cond b (Some l) (cond (same k x.key) (Some x) (find key_cmp k (map keyed (xs ++ ys))))) [
      | true ↦ λ t. ap (λ b. cond b (Some x) (Some l)) (not_same l.key x.key all.0 k t)
      | false ↦ λ t. refl
    ] refl

all_of_both : (P : TraceLine → Type 0) (xs ys : List TraceLine) → AllByRecursion P xs → AllByRecursion P ys → AllByRecursion P (xs ++ ys)
all_of_both P [] ys a b = b
all_of_both P (x ∷ xs) ys a b = (a.0, all_of_both P xs ys a.1 b)

-- a step of a merge: the line that is less than all others goes first
pub merge_step : (xs : List TraceLine) (l : TraceLine) (ys : List TraceLine) → AllByRecursion (λ (m : TraceLine). key_cmp l.key m.key ≡ Less) xs → AllByRecursion (λ (m : TraceLine). key_cmp l.key m.key ≡ Less) ys
    → in_order (xs ++ l ∷ ys) ≡ l ∷ in_order (xs ++ ys)
merge_step xs l ys a b = in_order_first l (xs ++ l ∷ ys) (xs ++ ys) (found_past xs l ys a) (all_of_both _ xs ys a b)

-- lines that rise are in order
pub in_order_already : (ls : List TraceLine) → T (is_sorted key_cmp (map keyed ls)) → in_order ls ≡ ls
in_order_already ls sorted = ordered ls ls sorted (λ k. refl)
