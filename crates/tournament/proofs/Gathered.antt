-- What maps gathered into one have at each key, and their least.
use Rattle.std.proofs.Common.{◌≡◌, ◌≢◌, ℕ, zero, suc, ◌<◌, ◌≤◌, ◌==◌, filter, eq-eqb, true, false, cond, ◌∷◌, [], List, ◌++◌, length, get_or, set, map, refl, sym, ap, subst, ◌∙◌, Some, None, Option, ⊎_elim, arith}
use Rattle.std.proofs.lemmas.Bool.{cases_eq, cases_lt}
use Rattle.std.proofs.lemmas.List.{get_or-set_same, get_or-set_other, length-set, set-get_or, set-set, map-set}
use Rattle.std.proofs.Math.ListN.{get_or-map, get_or-eq_default}
use Rattle.std.specs.FinMap as fin
use Rattle.std.specs.FinMap.{get-empty, get-entries, get-from_entries, find}
use Rattle.std.specs.List.{AllByRecursion}
use mathlib.Core.Bool.{false≢true}
use Rattle.std.specs.Option.{option_map}
use Rattle.std.specs.declared.cmp.Ordering.{Ordering}
use Rattle.std.specs.declared.cmp.Ordering.TheVariants.{Less, Equal, Greater}
use Rattle.std.specs.Ordering.{eq_by_cmp, is_gt}
use Rattle.std.proofs.lemmas.Cmp.{upto}
use Rattle.sim_time.specs.declared.key.Key.{Key}
use Rattle.sim_time.specs.Keys.{key_cmp}
use Rattle.sim_time.proofs.Order.{keys_total}
use Rattle.tournament.specs.Leading.{rank_at, Leads}
use Rattle.tournament.specs.Keyed.{Keyed, nothing_due, KeyChange, changed, apply, least, next_key, EachKey}
use Rattle.tournament.specs.Gathered.{all_entries, gathered, map_at, AtHome}
use Rattle.tournament.proofs.Maps.{not_some, none_or, same_at, untied, get-changed, get_other, each_changed, least_is, is_least, least_none, none_least, next_none, next_some}

not_gt : (r : Ordering) → r ≢ Greater → is_gt r ≡ false
not_gt Less h = refl
not_gt Equal h = refl
not_gt Greater h = absurd (h refl)

pub next_empty : (E : Type 0) → next_key (nothing_due E) ≡ None
next_empty E = ap (option_map (λ (entry : Key × E). entry.0)) (least_none (nothing_due E) (λ q. get-empty key_cmp q))

module _ {E : Type 0} where
  find_second : (q : Key) (es fs : List (Key × E)) → find key_cmp q es ≡ None → find key_cmp q (es ++ fs) ≡ find key_cmp q fs
  find_second q [] fs none = refl
  find_second q (e ∷ es) fs none = elim (eq_by_cmp key_cmp q e.0) as (λ b. cond b (Some e.1) (find key_cmp q es) ≡ None → cond b (Some e.1) (find key_cmp q (es ++ fs)) ≡ find key_cmp q fs) [
    | true ↦ λ none. absurd (not_some (sym none))
    | false ↦ λ none. find_second q es fs none
  ] none

  find_first : (q : Key) (es fs : List (Key × E)) → find key_cmp q fs ≡ None → find key_cmp q (es ++ fs) ≡ find key_cmp q es
  find_first q [] fs none = none
  find_first q (e ∷ es) fs none = ap (cond (eq_by_cmp key_cmp q e.0) (Some e.1)) (find_first q es fs none)

  -- a key that no map has
  find_none : (q : Key) (ms : List (Keyed E)) → ((i : ℕ) → fin.get (map_at ms i) q ≡ None) → find key_cmp q (all_entries ms) ≡ None
  find_none q [] none = refl
  find_none q (m ∷ ms) none = find_second q (fin.entries m) (all_entries ms) (sym (get-entries m q) ∙ none 0) ∙ find_none q ms (λ i. none (suc i))

  -- a key that no other map has
  find_one : (q : Key) (ms : List (Keyed E)) (at : ℕ) → ((i : ℕ) → i ≢ at → fin.get (map_at ms i) q ≡ None) → find key_cmp q (all_entries ms) ≡ fin.get (map_at ms at) q
  find_one q [] at none = sym (get-empty key_cmp q)
  find_one q (m ∷ ms) zero none = find_first q (fin.entries m) (all_entries ms) (find_none q ms (λ i. none (suc i) (omega arith))) ∙ sym (get-entries m q)
  find_one q (m ∷ ms) (suc at) none = find_second q (fin.entries m) (all_entries ms) (sym (get-entries m q) ∙ none 0 (omega arith)) ∙ find_one q ms at (λ i apart. none (suc i) (omega (arith, apart)))

  -- the next key of each map, by its place
  pub rank-next : (ms : List (Keyed E)) (i : ℕ) → rank_at (map next_key ms) i ≡ next_key (map_at ms i)
  rank-next ms i = ap (get_or (map next_key ms) i) (sym (next_empty E)) ∙ get_or-map next_key ms i (nothing_due E)

  -- a map is replaced: its place has the new one's next key
  pub ranks_replaced : (ms : List (Keyed E)) (i : ℕ) (m : Keyed E) → map next_key (set ms i m) ≡ set (map next_key ms) i (next_key m)
  ranks_replaced ms i m = map-set next_key ms i m

  -- where that is the old one's, the tournament stands
  pub ranks_stay : (ms : List (Keyed E)) (i : ℕ) (m : Keyed E) → next_key m ≡ next_key (map_at ms i) → map next_key (set ms i m) ≡ map next_key ms
  ranks_stay ms i m same =
      ranks_replaced ms i m ∙ ap (set (map next_key ms) i) (same ∙ sym (rank-next ms i)) ∙ set-get_or (map next_key ms) i None

  -- a map that has a key has a next one, which is not greater
  head_upto : (m : Keyed E) (q : Key) (w : E) → fin.get m q ≡ Some w → (k : Key) × (next_key m ≡ Some k) × (is_gt (key_cmp k q) ≡ false)
  head_upto m q w there = elim (least m) as (λ o. least m ≡ o → (k : Key) × (option_map (λ (entry : Key × E). entry.0) o ≡ Some k) × (is_gt (key_cmp k q) ≡ false)) [
    | None ↦ λ none. absurd (not_some (sym (none_least m none q) ∙ there))
    | Some f ↦ λ is. (f.0, refl, (least_is m f.0 f.1 is).none_less q w there)
  ] refl

  -- where no map has anything
  pub none-gathered : (ms : List (Keyed E)) → ((i : ℕ) → map_at ms i ≡ (nothing_due E)) → gathered ms ≡ (nothing_due E)
  unfolding gathered
  none-gathered ms none = same_at _ _ (λ q.
      get-from_entries keys_total (all_entries ms) q ∙ find_none q ms (λ i. ap (λ (m : Keyed E). fin.get m q) (none i) ∙ get-empty key_cmp q) ∙ sym (get-empty key_cmp q))

module _ {E : Type 0} (home : Key → ℕ) where
  -- the whole has at a key what the map where the key is at home has
  pub get-gathered : (ms : List (Keyed E)) → AtHome home ms → (q : Key) → fin.get (gathered ms) q ≡ fin.get (map_at ms (home q)) q
  unfolding gathered
  get-gathered ms at q =
      get-from_entries keys_total (all_entries ms) q
      ∙ find_one q ms (home q) (λ i apart. none_or (fin.get (map_at ms i) q) (λ v there. apart (sym (at i q v there))))

  -- a map is replaced by one whose keys are at home there
  pub home_set : (ms : List (Keyed E)) → AtHome home ms → (i : ℕ) → i < length ms → (m : Keyed E) → EachKey (λ k. home k ≡ i) m → AtHome home (set ms i m)
  home_set ms at i within m here j =
      ⊎_elim
      (λ (same : j ≡ i). subst (EachKey (λ q. home q ≡ j)) (sym (ap (map_at (set ms i m)) same ∙ get_or-set_same ms i m (nothing_due E) within)) (subst (λ n. EachKey (λ q. home q ≡ n) m) (sym same) here))
      (λ (apart : j ≢ i). subst (EachKey (λ q. home q ≡ j)) (sym (get_or-set_other ms i j m (nothing_due E) apart)) (at j))
      (cases_eq j i)

  -- a map changes at a key that is at home there
  pub home_changed : (ms : List (Keyed E)) → AtHome home ms → (i : ℕ) → i < length ms → (k : Key) (c : Option E) → home k ≡ i → AtHome home (set ms i (changed (map_at ms i) k c))
  home_changed ms at i within k c here = home_set ms at i within (changed (map_at ms i) k c) (each_changed (λ q. home q ≡ i) (map_at ms i) k c here (at i))

  -- then the whole changes so
  pub gathered-changed : (ms : List (Keyed E)) → AtHome home ms → (i : ℕ) → i < length ms → (k : Key) (c : Option E) → home k ≡ i → gathered (set ms i (changed (map_at ms i) k c)) ≡ changed (gathered ms) k c
  gathered-changed ms at i within k c here = same_at _ _ (λ q.
      let new = changed (map_at ms i) k c in
      get-gathered (set ms i new) (home_changed ms at i within k c here) q
      ∙ ⊎_elim
      (λ (same : home q ≡ i).
      ap (λ (m : Keyed E). fin.get m q) (ap (map_at (set ms i new)) same ∙ get_or-set_same ms i new (nothing_due E) within)
      ∙ get-changed (map_at ms i) k c q
      ∙ ap (cond (eq_by_cmp key_cmp q k) c) (ap (λ n. fin.get (map_at ms n) q) (sym same) ∙ sym (get-gathered ms at q)))
      (λ (apart : home q ≢ i).
      ap (λ (m : Keyed E). fin.get m q) (get_or-set_other ms i (home q) new (nothing_due E) apart)
      ∙ sym (get-gathered ms at q)
      ∙ ap (λ b. cond b c (fin.get (gathered ms) q)) (sym (untied q k (λ e. apart (ap home e ∙ here)))))
      (cases_eq (home q) i)
      ∙ sym (get-changed (gathered ms) k c q))

  -- and so by several
  pub gathered-apply : (cs : List (KeyChange E)) (ms : List (Keyed E)) → AtHome home ms → (i : ℕ) → i < length ms → AllByRecursion (λ (c : KeyChange E). home c.0 ≡ i) cs
      → gathered (set ms i (apply cs (map_at ms i))) ≡ apply cs (gathered ms)
  gathered-apply [] ms at i within here = ap gathered (set-get_or ms i (nothing_due E))
  gathered-apply (c ∷ cs) ms at i within here =
      let new = changed (map_at ms i) c.0 c.1 in
      ap gathered (sym (set-set ms i new (apply cs new)) ∙ ap (λ (m : Keyed E). set (set ms i new) i (apply cs m)) (sym (get_or-set_same ms i new (nothing_due E) within)))
      ∙ gathered-apply cs (set ms i new) (home_changed ms at i within c.0 c.1 here.0) i (subst (λ n. i < n) (sym (length-set ms i new)) within) here.1
      ∙ ap (apply cs) (gathered-changed ms at i within c.0 c.1 here.0)

  -- the changes that are at home at a number
  abbrev pub own : ℕ → List (KeyChange E) → List (KeyChange E)
  own i = filter (λ (c : KeyChange E). home c.0 == i)

  -- at a key only the changes count that are at home where it is
  pub get-apply_own : (cs : List (KeyChange E)) (m n : Keyed E) (q : Key) → fin.get m q ≡ fin.get n q → fin.get (apply cs m) q ≡ fin.get (apply (own (home q) cs) n) q
  get-apply_own [] m n q same = same
  get-apply_own (c ∷ cs) m n q same =
      elim (home c.0 == home q) as (λ b. (home c.0 == home q) ≡ b → fin.get (apply cs (changed m c.0 c.1)) q ≡ fin.get (apply (cond b (c ∷ own (home q) cs) (own (home q) cs)) n) q) [
        | true ↦ λ _. get-apply_own cs (changed m c.0 c.1) (changed n c.0 c.1) q (get-changed m c.0 c.1 q ∙ ap (cond (eq_by_cmp key_cmp q c.0) c.1) same ∙ sym (get-changed n c.0 c.1 q))
        | false ↦ λ differ. get-apply_own cs (changed m c.0 c.1) n q (get_other m c.0 c.1 q (λ (e : q ≡ c.0). false≢true (sym differ ∙ eq-eqb (home c.0) (home q) (ap home (sym e)))) ∙ same)
      ] refl

  -- so where each map changes by its own, the whole changes by all
  pub gathered-apply_own : (cs : List (KeyChange E)) (ms ns : List (Keyed E)) → AtHome home ms → AtHome home ns → ((i : ℕ) → map_at ns i ≡ apply (own i cs) (map_at ms i)) → gathered ns ≡ apply cs (gathered ms)
  gathered-apply_own cs ms ns at to each = same_at _ _ (λ q.
      get-gathered ns to q ∙ ap (λ (m : Keyed E). fin.get m q) (each (home q)) ∙ sym (get-apply_own cs (gathered ms) (map_at ms (home q)) q (get-gathered ms at q)))

  -- the place whose next key leads has the least of all
  pub least_gathered : (ms : List (Keyed E)) → AtHome home ms → (place : ℕ) (key : Key) → Leads (map next_key ms) place key → least (gathered ms) ≡ least (map_at ms place)
  least_gathered ms at place key leads =
      let found = next_some (least (map_at ms place)) key (sym (rank-next ms place) ∙ leads.held) in
      let first = least_is (map_at ms place) key found.0 found.1 in
      let here : home key ≡ place = at place key found.0 first.pending in
      is_least (gathered ms) key found.0 (record {
        pending = get-gathered ms at key ∙ ap (λ n. fin.get (map_at ms n) key) here ∙ first.pending;
        none_less = λ q w there.
            let head = head_upto (map_at ms (home q)) q w (sym (get-gathered ms at q) ∙ there) in
            upto keys_total key head.0 q (not_gt (key_cmp key head.0) (leads.none_less (home q) head.0 (rank-next ms (home q) ∙ head.1))) head.2;
      })
      ∙ sym found.1

  pub none_gathered : (ms : List (Keyed E)) → AtHome home ms → ((place : ℕ) → rank_at (map next_key ms) place ≡ None) → least (gathered ms) ≡ None
  none_gathered ms at none = least_none (gathered ms) (λ q. get-gathered ms at q ∙ none_least (map_at ms (home q)) (next_none _ (sym (rank-next ms (home q)) ∙ none (home q))) q)

  -- what a map has the whole has
  pub gathered_has : (ms : List (Keyed E)) → AtHome home ms → (i : ℕ) (k : Key) (v : E) → fin.get (map_at ms i) k ≡ Some v → fin.get (gathered ms) k ≡ Some v
  gathered_has ms at i k v there = get-gathered ms at k ∙ ap (λ n. fin.get (map_at ms n) k) (at i k v there) ∙ there

  -- the map whose next key leads
  pub record IsFirst (ms : List (Keyed E)) (place : ℕ) (key : Key) : Type 0 where
    pub within : place < length ms
    pub next : next_key (map_at ms place) ≡ Some key
    pub at_home : home key ≡ place
    pub same : least (gathered ms) ≡ least (map_at ms place)

  pub is_first : (ms : List (Keyed E)) → AtHome home ms → (place : ℕ) (key : Key) → Leads (map next_key ms) place key → IsFirst ms place key
  is_first ms at place key leads =
      let next : next_key (map_at ms place) ≡ Some key = sym (rank-next ms place) ∙ leads.held in
      let found = next_some (least (map_at ms place)) key next in
      record {
        within = ⊎_elim
            (λ (within : place < length ms). within)
            (λ (past : length ms ≤ place). absurd (not_some (sym (next_empty E) ∙ ap next_key (sym (get_or-eq_default ms (nothing_due E) past)) ∙ next)))
            (cases_lt place (length ms));
        next = next;
        at_home = at place key found.0 (least_is (map_at ms place) key found.0 found.1).pending;
        same = least_gathered ms at place key leads;
      }
