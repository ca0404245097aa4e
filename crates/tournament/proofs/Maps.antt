-- What a map has at each key, and which entry is its least.
use Rattle.std.proofs.Common.{◌≡◌, ◌≢◌, ◌<◌, Bool, true, false, cond, ◌&&◌, T, ◌∷◌, [], List, refl, sym, ap, subst, ◌∙◌, Some, None, Option, is_some}
use mathlib.Core.Bool.{false≢true}
use Rattle.std.specs.List.{slice_get, AllByRecursion}
use Rattle.std.specs.Option.{option_map, unwrap_or}
use Rattle.std.specs.FinMap as map
use Rattle.std.specs.FinMap.{FinMap, get-empty, get-insert, get-remove, get-entries, entries_sorted, is_sorted, find, same_map, len-empty, len-entries, same_entries_map, entries-from_sorted, get-from_sorted, get-from_entries}
use Rattle.std.specs.FinMap.Entries.{below_all}
use Rattle.std.specs.Ordering.{eq_by_cmp, is_eq, is_lt, is_gt}
use Rattle.std.specs.declared.cmp.Ordering.{Ordering}
use Rattle.std.specs.declared.cmp.Ordering.TheVariants.{Less, Equal, Greater}
use Rattle.std.proofs.lemmas.Cmp.{tied_itself}
use Rattle.sim_time.specs.declared.key.Key.{Key}
use Rattle.sim_time.specs.Keys.{key_cmp}
use Rattle.sim_time.proofs.Order.{keys_total, exact_keys, earlier_less}
use Rattle.tournament.specs.Keyed.{Keyed, nothing_due, KeyChange, apply, changed, least, next_key, EachKey}

pub not_some : {A : Type 0} {x : A} → None ≡ Some x → ⊥
not_some e = false≢true (ap is_some e)

pub same_some : {A : Type 0} (x y : A) → Some x ≡ Some y → x ≡ y
same_some x y e = ap (λ o. unwrap_or o x) e

pub none_or : {A : Type 0} (o : Option A) → ((x : A) → o ≡ Some x → ⊥) → o ≡ None
none_or None h = refl
none_or (Some x) h = absurd (h x refl)

pub is_equal : (r : Ordering) → is_eq r ≡ true → r ≡ Equal
is_equal Less e = absurd (false≢true e)
is_equal Equal e = refl
is_equal Greater e = absurd (false≢true e)

pub is_less : (r : Ordering) → T (is_lt r) → r ≡ Less
is_less Less h = refl
is_less Equal h = absurd h
is_less Greater h = absurd h

pub both_of : (a b : Bool) → T (a && b) → T a × T b
both_of true true h = (tt, tt)
both_of true false h = absurd h
both_of false b h = absurd h

pub both : (a b : Bool) → T a → T b → T (a && b)
both true b p q = q
both false b p q = p

-- keys that differ do not tie
pub untied : (q k : Key) → q ≢ k → eq_by_cmp key_cmp q k ≡ false
untied q k apart = elim (eq_by_cmp key_cmp q k) as (λ b. eq_by_cmp key_cmp q k ≡ b → b ≡ false) [ true ↦ λ e. absurd (apart (exact_keys q k (is_equal _ e))) | false ↦ λ _. refl ] refl

pub tied : (k : Key) → eq_by_cmp key_cmp k k ≡ true
tied k = ap is_eq (tied_itself keys_total k)

-- neither comes after the other
both_upto : (a b : Key) → is_gt (key_cmp a b) ≡ false → is_gt (key_cmp b a) ≡ false → a ≡ b
both_upto a b p q = exact_keys a b (tie (key_cmp a b) (key_cmp b a) (keys_total.antisymm a b) p q)
  where
    tie : (r s : Ordering) → r ≡ Rattle.std.specs.Ordering.ordering_reverse s → is_gt r ≡ false → is_gt s ≡ false → r ≡ Equal
    tie r Less e p q = absurd (false≢true (sym p ∙ ap is_gt e))
    tie r Equal e p q = e
    tie r Greater e p q = absurd (false≢true (sym q))

module _ {E : Type 0} where
  pub same_at : (m n : Keyed E) → ((q : Key) → map.get m q ≡ map.get n q) → m ≡ n
  same_at m n h = same_map keys_total exact_keys m n h

  -- one key changes
  pub get-changed : (m : Keyed E) (k : Key) (c : Option E) (q : Key) → map.get (changed m k c) q ≡ cond (eq_by_cmp key_cmp q k) c (map.get m q)
  get-changed m k None q = get-remove keys_total m k q
  get-changed m k (Some v) q = get-insert keys_total m k v q

  pub get_here : (m : Keyed E) (k : Key) (c : Option E) → map.get (changed m k c) k ≡ c
  get_here m k c = get-changed m k c k ∙ ap (λ b. cond b c (map.get m k)) (tied k)

  pub get_other : (m : Keyed E) (k : Key) (c : Option E) (q : Key) → q ≢ k → map.get (changed m k c) q ≡ map.get m q
  get_other m k c q apart = get-changed m k c q ∙ ap (λ b. cond b c (map.get m q)) (untied q k apart)

  -- a key that is pending after a change was, or is the one that was put
  pub each_changed : (P : Key → Type 0) (m : Keyed E) (k : Key) (c : Option E) → P k → EachKey P m → EachKey P (changed m k c)
  each_changed P m k c here each q v e =
      elim (eq_by_cmp key_cmp q k) as (λ b. eq_by_cmp key_cmp q k ≡ b → P q) [
        | true ↦ λ t. subst P (sym (exact_keys q k (is_equal _ t))) here
        | false ↦ λ t. each q v (sym (ap (λ b. cond b c (map.get m q)) t) ∙ sym (get-changed m k c q) ∙ e)
      ] refl

  pub each_apply : (P : Key → Type 0) (cs : List (KeyChange E)) (m : Keyed E) → AllByRecursion (λ (c : KeyChange E). P c.0) cs → EachKey P m → EachKey P (apply cs m)
  each_apply P [] m here each = each
  each_apply P (c ∷ cs) m here each = each_apply P cs (changed m c.0 c.1) here.1 (each_changed P m c.0 c.1 here.0 each)

  pub each_empty : (P : Key → Type 0) → EachKey P (nothing_due E)
  each_empty P k v e = absurd (not_some (sym (get-empty key_cmp k) ∙ e))

  -- a key that was put in and is taken out again, where it was not before
  pub remove_insert : (m : Keyed E) (k : Key) (v : E) → map.get m k ≡ None → map.remove (map.insert m k v) k ≡ m
  remove_insert m k v none = same_at _ m (λ q.
      get-changed (map.insert m k v) k None q
      ∙ elim (eq_by_cmp key_cmp q k) as (λ b. eq_by_cmp key_cmp q k ≡ b → cond b None (map.get (map.insert m k v) q) ≡ map.get m q) [
        | true ↦ λ t. sym (ap (map.get m) (exact_keys q k (is_equal _ t)) ∙ none)
        | false ↦ λ t. get-changed m k (Some v) q ∙ ap (λ b. cond b (Some v) (map.get m q)) t
      ] refl)

  -- it is pending, and no pending key is less
  pub record IsLeast (m : Keyed E) (k : Key) (v : E) : Type 0 where
    pub pending : map.get m k ≡ Some v
    pub none_less : (q : Key) (w : E) → map.get m q ≡ Some w → is_gt (key_cmp k q) ≡ false

  below_not_found : (q x : Key) (es : List (Key × E)) → is_gt (key_cmp x q) ≡ true → T (below_all key_cmp x es) → find key_cmp q es ≡ None
  below_not_found q x [] g h = refl
  below_not_found q x (e ∷ es) g h =
      ap (λ b. cond b (Some e.1) (find key_cmp q es)) (untied q e.0 (λ same. false≢true (sym (ap is_gt (ap (key_cmp x) same ∙ is_less _ (both_of _ _ h).0)) ∙ g)))
      ∙ below_not_found q x es g (both_of _ _ h).1

  least_in : (es : List (Key × E)) (k : Key) (v : E) → T (is_sorted key_cmp es) → slice_get es 0 ≡ Some (k, v)
      → (find key_cmp k es ≡ Some v) × ((q : Key) (w : E) → find key_cmp q es ≡ Some w → is_gt (key_cmp k q) ≡ false)
  least_in [] k v h e = absurd (not_some e)
  least_in (f ∷ es) k v h e =
      let is : f ≡ (k, v) = same_some f (k, v) e in
      let key : f.0 ≡ k = ap (λ (g : Key × E). g.0) is in (
        ap (λ (g : Key × E). cond (eq_by_cmp key_cmp k g.0) (Some g.1) (find key_cmp k es)) is ∙ ap (λ b. cond b (Some v) (find key_cmp k es)) (tied k),
        λ q w found. elim (is_gt (key_cmp k q)) as (λ b. is_gt (key_cmp k q) ≡ b → b ≡ false) [
          | true ↦ λ g. absurd (not_some
              (sym (ap (λ b. cond b (Some f.1) (find key_cmp q es)) (untied q f.0 (λ same. false≢true (sym (ap is_gt (ap (key_cmp k) (same ∙ key) ∙ tied_itself keys_total k)) ∙ g)))
              ∙ below_not_found q f.0 es (ap (λ x. is_gt (key_cmp x q)) key ∙ g) (both_of _ _ h).0)
              ∙ found))
          | false ↦ λ _. refl
        ] refl,
      )

  pub least_is : (m : Keyed E) (k : Key) (v : E) → least m ≡ Some (k, v) → IsLeast m k v
  least_is m k v e =
      let facts = least_in (map.entries m) k v (entries_sorted m) e in
      record { pending = get-entries m k ∙ facts.0; none_less = λ q w found. facts.1 q w (sym (get-entries m q) ∙ found) }

  least_or : (o : Option (Key × E)) (m : Keyed E) (k : Key) (v : E) → least m ≡ o → IsLeast m k v → o ≡ Some (k, v)
  least_or None m k v e is = absurd (not_some (sym (no_entries (map.entries m) e) ∙ sym (get-entries m k) ∙ is.pending))
    where
      no_entries : (es : List (Key × E)) → slice_get es 0 ≡ None → find key_cmp k es ≡ None
      no_entries [] e = refl
      no_entries (f ∷ es) e = absurd (not_some (sym e))
  least_or (Some f) m k v e is =
      let first = least_is m f.0 f.1 e in
      let key : f.0 ≡ k = both_upto f.0 k (first.none_less k v is.pending) (is.none_less f.0 f.1 first.pending) in
      let value : f.1 ≡ v = same_some f.1 v (sym first.pending ∙ ap (map.get m) key ∙ is.pending) in
      λ i. Some (key i, value i)

  pub is_least : (m : Keyed E) (k : Key) (v : E) → IsLeast m k v → least m ≡ Some (k, v)
  is_least m k v is = least_or (least m) m k v refl is

  -- nothing pending has no least
  pub least_none : (m : Keyed E) → ((q : Key) → map.get m q ≡ None) → least m ≡ None
  least_none m none = none_or (least m) (λ e is. not_some (sym (none e.0) ∙ (least_is m e.0 e.1 is).pending))

  pub none_least : (m : Keyed E) → least m ≡ None → (q : Key) → map.get m q ≡ None
  none_least m none q = get-entries m q ∙ no_entries (map.entries m) none
    where
      no_entries : (es : List (Key × E)) → slice_get es 0 ≡ None → find key_cmp q es ≡ None
      no_entries [] e = refl
      no_entries (f ∷ es) e = absurd (not_some (sym e))

  pub next_none : (o : Option (Key × E)) → option_map (λ (entry : Key × E). entry.0) o ≡ None → o ≡ None
  next_none None e = refl
  next_none (Some f) e = absurd (not_some (sym e))

  pub next_some : (o : Option (Key × E)) (k : Key) → option_map (λ (entry : Key × E). entry.0) o ≡ Some k → (v : E) × (o ≡ Some (k, v))
  next_some None k e = absurd (not_some e)
  next_some (Some f) k e = let key : f.0 ≡ k = same_some f.0 k e in (f.1, λ i. Some (key i, f.1))

  -- a key that is put behind all others leaves the next one
  pub next_stays : (m : Keyed E) (k : Key) (v : E) → EachKey (λ q. q.time < k.time) m → is_some (next_key m) ≡ true → next_key (map.insert m k v) ≡ next_key m
  next_stays m k v later some = with_first (next_key m) refl some
    where
      with_first : (o : Option Key) → next_key m ≡ o → is_some o ≡ true → next_key (map.insert m k v) ≡ next_key m
      with_first None e some = absurd (false≢true some)
      with_first (Some first) e some =
          let found = next_some (least m) first e in
          let is = least_is m first found.0 found.1 in
          let less : key_cmp first k ≡ Less = earlier_less first k (later first found.0 is.pending) in
          ap (option_map (λ (entry : Key × E). entry.0))
          (is_least (map.insert m k v) first found.0 (record {
            pending = get_other m k (Some v) first (λ same. false≢true (sym (ap is_eq less) ∙ ap is_eq (ap (key_cmp first) (sym same) ∙ tied_itself keys_total first))) ∙ is.pending;
            none_less = λ q w there. elim (eq_by_cmp key_cmp q k) as (λ b. eq_by_cmp key_cmp q k ≡ b → is_gt (key_cmp first q) ≡ false) [
              | true ↦ λ t. ap is_gt (ap (key_cmp first) (exact_keys q k (is_equal _ t)) ∙ less)
              | false ↦ λ t. is.none_less q w (sym (ap (λ b. cond b (Some v) (map.get m q)) t) ∙ sym (get-changed m k (Some v) q) ∙ there)
            ] refl;
          }) ∙ sym found.1)
