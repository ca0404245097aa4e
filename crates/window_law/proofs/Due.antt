-- The least event of a set below a moment, said by what the set answers at each key.
use Rattle.std.proofs.Common.{◌≡◌, ◌≢◌, ◌<◌, ◌≤◌, ℕ, List, [], ◌∷◌, true, false, cond, nat_lt, T, Option, Some, None, refl, sym, ap, subst, Less, ◌∙◌, ◌⊎◌, inl, inr, ⊎_elim, ltb-true, ltb-false, lt-ltb, arith}
use Rattle.std.proofs.lemmas.Bool.{cases_lt}
use Rattle.std.specs.List.{slice_get}
use Rattle.std.specs.FinMap.{get, entries, entries_sorted, get-entries, find, is_sorted}
use Rattle.std.specs.FinMap.Entries.{below_all}
use Rattle.sim_time.specs.declared.key.Key.{Key}
use Rattle.sim_time.specs.Keys.{key_cmp}
use Rattle.sim_time.proofs.Order.{keys_total, earlier_less}
use Rattle.node_core.specs.declared.event.Event.{Event}
use Rattle.tournament.specs.Keyed.{least}
use Rattle.node_core.specs.Pending.{Events}
use Rattle.table_run.specs.State.{below}
use Rattle.tournament.proofs.Maps.{both_of, is_less}
use Rattle.window_law.proofs.Changes.{same, same_is, same_itself}

pub never_below : (a b : Key) → key_cmp a b ≡ Less → key_cmp b a ≡ Less → ⊥
never_below a b p q = let e = keys_total.antisymm a b in let l = ap (λ o. o) p in absurd (cc (e, p, q))

-- a lesser key has no later time
pub key_time : (a b : Key) → key_cmp a b ≡ Less → a.time ≤ b.time
key_time a b e = ⊎_elim (λ (l : b.time < a.time). absurd (never_below a b e (earlier_less b a l))) (λ (m : a.time ≤ b.time). m) (cases_lt b.time a.time)

-- it is there, below the moment, and none that is there is less
pub record IsFirst (g : Key → Option Event) (moment : ℕ) (k : Key) (v : Event) : Type 0 where
  pub there : g k ≡ Some v
  pub below : k.time < moment
  pub least : (q : Key) → g q ≢ None → key_cmp q k ≡ Less → ⊥

abbrev pub IsLate : (g : Key → Option Event) (moment : ℕ) → Type 0
IsLate g moment = (q : Key) → g q ≢ None → moment ≤ q.time

found_below : {X : Type 0} (x q : Key) (es : List (Key × X)) → T (below_all key_cmp x es) → find key_cmp q es ≢ None → key_cmp x q ≡ Less
found_below x q [] h = λ some. absurd (some refl)
found_below x q (e ∷ es) h =
    elim (same q e.0) as (λ b. same q e.0 ≡ b → cond b (Some e.1) (find key_cmp q es) ≢ None → key_cmp x q ≡ Less) [
      | true ↦ λ t _. ap (key_cmp x) (same_is q e.0 t) ∙ is_less _ (both_of _ _ h).0
      | false ↦ λ t some. found_below x q es (both_of _ _ h).1 some
    ] refl

-- a key of a list is its first or later
pub at_or_after : {X : Type 0} (x : Key × X) (es : List (Key × X)) (q : Key) → T (is_sorted key_cmp (x ∷ es)) → find key_cmp q (x ∷ es) ≢ None → (q ≡ x.0) ⊎ (key_cmp x.0 q ≡ Less)
at_or_after x es q h =
    elim (same q x.0) as (λ b. same q x.0 ≡ b → cond b (Some x.1) (find key_cmp q es) ≢ None → (q ≡ x.0) ⊎ (key_cmp x.0 q ≡ Less)) [
      | true ↦ λ t _. inl (same_is q x.0 t)
      | false ↦ λ t some. inr (found_below x.0 q es (both_of _ _ h).0 some)
    ] refl

pub at_first : {X : Type 0} (x : Key × X) (es : List (Key × X)) → find key_cmp x.0 (x ∷ es) ≡ Some x.1
at_first x es = ap (λ b. cond b (Some x.1) (find key_cmp x.0 es)) (same_itself x.0)

pub some_not : {A : Type 0} (o : Option A) (x : A) → o ≡ Some x → o ≢ None
some_not o x e h = absurd (cc)

abbrev due_of : ℕ → List (Key × Event) → Option (Key × Event)
due_of moment es = below moment (slice_get es 0)

due_in : (moment : ℕ) (es : List (Key × Event)) (k : Key) (v : Event) → T (is_sorted key_cmp es) → due_of moment es ≡ Some (k, v) → IsFirst (λ q. find key_cmp q es) moment k v
due_in moment [] k v h = λ e. absurd (cc)
due_in moment (x ∷ es) k v h =
    elim (nat_lt x.0.time moment) as (λ b. nat_lt x.0.time moment ≡ b → cond b (Some x) None ≡ Some (k, v) → IsFirst (λ q. find key_cmp q (x ∷ es)) moment k v) [
      | true ↦ λ t e.
          let same_x : x ≡ (k, v) = cc in
          subst (λ (y : Key × Event). IsFirst (λ q. find key_cmp q (x ∷ es)) moment y.0 y.1) same_x record {
            there = at_first x es;
            below = ltb-true _ _ t;
            least = λ q some l. ⊎_elim (λ (e : q ≡ x.0). let p = subst (λ z. key_cmp z x.0 ≡ Less) e l in never_below x.0 x.0 p p) (λ m. never_below x.0 q m l) (at_or_after x es q h some);
          }
      | false ↦ λ t e. absurd (cc)
    ] refl

in_due : (moment : ℕ) (es : List (Key × Event)) (k : Key) (v : Event) → T (is_sorted key_cmp es) → IsFirst (λ q. find key_cmp q es) moment k v → due_of moment es ≡ Some (k, v)
in_due moment [] k v h d = absurd (some_not _ v d.there refl)
in_due moment (x ∷ es) k v h d =
    ⊎_elim
    (λ (e : k ≡ x.0).
    let value : Some x.1 ≡ Some v = sym (at_first x es) ∙ subst (λ z. find key_cmp z (x ∷ es) ≡ Some v) e d.there in
    let val : x.1 ≡ v = cc in
    let pair : x ≡ (k, v) = λ i. (sym e i, val i) in
    let below : nat_lt x.0.time moment ≡ true = lt-ltb _ _ (subst (λ (z : Key). z.time < moment) e d.below) in
    ap (λ b. cond b (Some x) None) below ∙ ap Some pair)
    (λ l. absurd (d.least x.0 (some_not _ x.1 (at_first x es)) l))
    (at_or_after x es k h (some_not _ v d.there))

late_in : (moment : ℕ) (es : List (Key × Event)) → T (is_sorted key_cmp es) → due_of moment es ≡ None → IsLate (λ q. find key_cmp q es) moment
late_in moment [] h e q some = absurd (some refl)
late_in moment (x ∷ es) h e q some =
    let late : moment ≤ x.0.time = elim (nat_lt x.0.time moment) as (λ b. nat_lt x.0.time moment ≡ b → cond b (Some x) None ≡ None → moment ≤ x.0.time) [
      | true ↦ λ t f. absurd (cc)
      | false ↦ λ t f. ltb-false _ _ t
    ] refl e in
    ⊎_elim
    (λ (f : q ≡ x.0). subst (λ (z : Key). moment ≤ z.time) (sym f) late)
    (λ l. let m = key_time x.0 q l in omega (arith, m))
    (at_or_after x es q h some)

answers : (m : Events) → (λ q. find key_cmp q (entries m)) ≡ get m
answers m i q = sym (get-entries m q) i

pub due_is : (moment : ℕ) (m : Events) (k : Key) (v : Event) → below moment (least m) ≡ Some (k, v) → IsFirst (get m) moment k v
due_is moment m k v e = subst (λ g. IsFirst g moment k v) (answers m) (due_in moment (entries m) k v (entries_sorted m) e)

pub is_due : (moment : ℕ) (m : Events) (k : Key) (v : Event) → IsFirst (get m) moment k v → below moment (least m) ≡ Some (k, v)
is_due moment m k v d = in_due moment (entries m) k v (entries_sorted m) (subst (λ g. IsFirst g moment k v) (sym (answers m)) d)

pub none_due : (moment : ℕ) (m : Events) → below moment (least m) ≡ None → IsLate (get m) moment
none_due moment m e = subst (λ g. IsLate g moment) (answers m) (late_in moment (entries m) (entries_sorted m) e)

pub late_none : (moment : ℕ) (m : Events) → IsLate (get m) moment → below moment (least m) ≡ None
late_none moment m late =
    elim (below moment (least m)) as (λ o. below moment (least m) ≡ o → o ≡ None) [
      | Some x ↦ λ e. let d = due_is moment m x.0 x.1 e in let l = late x.0 (some_not _ x.1 d.there) in let b = d.below in absurd (omega (arith, l, b))
      | None ↦ λ e. refl
    ] refl
