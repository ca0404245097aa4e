-- Lists of which one element passes a test, and the entries of what is pending.
use Rattle.std.proofs.Common.{◌≡◌, ◌≢◌, ℕ, zero, suc, ◌<◌, Bool, true, false, cond, T, ◌||◌, List, [], ◌∷◌, ◌++◌, map as each, length, get_or, refl, sym, ap, ◌∙◌, Some, None, arith, inl, inr, ◌⊎◌, true≢false}
use Rattle.std.proofs.lemmas.Bool.{or_right}
use Rattle.std.proofs.lemmas.List.Folds.{list_any-append}
use Rattle.std.specs.List.{list_any}
use Rattle.std.specs.FinMap as map
use Rattle.std.specs.FinMap.{get-entries, entries_sorted, find}
use Rattle.std.specs.FinMap.Entries.{below_all}
use Rattle.std.specs.Ordering.{eq_by_cmp, is_eq}
use Rattle.sim_time.specs.declared.key.Key.{Key}
use Rattle.sim_time.specs.Keys.{key_cmp}
use Rattle.tournament.specs.Keyed.{IsInOrder}
use Rattle.tournament.proofs.Maps.{not_some, same_some, is_less, both_of, untied, tied}
use Rattle.node_core.specs.declared.event.Event.{Event}
use Rattle.node_core.specs.Pending.{Events}

pub or_cases : (a b : Bool) → (a || b) ≡ true → (a ≡ true) ⊎ (b ≡ true)
or_cases true b e = inl refl
or_cases false b e = inr e

pub or_first : (a b : Bool) → a ≡ true → (a || b) ≡ true
or_first true b e = refl
or_first false b e = absurd (true≢false (sym e))

module _ {A : Type 0} (f : A → Bool) where
  -- an element that passes
  pub record Place (xs : List A) (d : A) : Type 0 where
    pub index : ℕ
    pub within : index < length xs
    pub passes : f (get_or xs index d) ≡ true

  further : (x : A) (xs : List A) (d : A) → Place xs d → Place (x ∷ xs) d
  further x xs d at = record { index = suc at.index; within = (let a = at.within in omega (arith, a)); passes = at.passes }

  pub any_place : (xs : List A) (d : A) → list_any f xs ≡ true → Place xs d
  any_place [] d e = absurd (true≢false (sym e))
  any_place (x ∷ xs) d e = elim (or_cases (f x) (list_any f xs) e) [
    | inl here ↦ record { index = 0; within = omega arith; passes = here }
    | inr there ↦ further x xs d (any_place xs d there)
  ]

  pub any_at : (xs : List A) (d : A) (i : ℕ) → i < length xs → f (get_or xs i d) ≡ true → list_any f xs ≡ true
  any_at [] d i within e = absurd (omega (arith, within))
  any_at (x ∷ xs) d zero within e = or_first (f x) (list_any f xs) e
  any_at (x ∷ xs) d (suc i) within e = or_right (f x) (list_any f xs) (any_at xs d i (omega (arith, within)) e)

  pub any_append : (xs ys : List A) → list_any f (xs ++ ys) ≡ true → (list_any f xs ≡ true) ⊎ (list_any f ys ≡ true)
  any_append xs ys e = or_cases _ _ (sym (list_any-append f xs ys) ∙ e)

  pub any_left : (xs ys : List A) → list_any f xs ≡ true → list_any f (xs ++ ys) ≡ true
  any_left xs ys e = list_any-append f xs ys ∙ or_first _ _ e

  pub any_right : (xs ys : List A) → list_any f ys ≡ true → list_any f (xs ++ ys) ≡ true
  any_right xs ys e = list_any-append f xs ys ∙ or_right _ _ e

pub any_each : {A B : Type 0} (f : B → Bool) (g : A → B) (xs : List A) → list_any f (each g xs) ≡ list_any (λ x. f (g x)) xs
any_each f g [] = refl
any_each f g (x ∷ xs) = ap (λ b. f (g x) || b) (any_each f g xs)

-- a pending event that passes a test
pub record Pends (f : Event → Bool) (m : Events) : Type 0 where
  pub key : Key
  pub event : Event
  pub there : map.get m key ≡ Some event
  pub passes : f event ≡ true

module _ (f : Event → Bool) where
  abbrev pub on_entry : Key × Event → Bool
  on_entry entry = f entry.1

  below_none : (x : Key) (es : List (Key × Event)) → T (below_all key_cmp x es) → find key_cmp x es ≡ None
  below_none x [] h = refl
  below_none x (e ∷ es) h = ap (λ r. cond (is_eq r) (Some e.1) (find key_cmp x es)) (is_less _ (both_of _ _ h).0) ∙ below_none x es (both_of _ _ h).1

  record Found (es : List (Key × Event)) : Type 0 where
    key : Key
    event : Event
    there : find key_cmp key es ≡ Some event
    passes : f event ≡ true

  behind : (e : Key × Event) (es : List (Key × Event)) → IsInOrder (e ∷ es) → Found es → Found (e ∷ es)
  behind e es h at =
      let apart : at.key ≢ e.0 = λ same. not_some (sym (below_none e.0 es (both_of _ _ h).0) ∙ ap (λ (q : Key). find key_cmp q es) (sym same) ∙ at.there) in
      record { key = at.key; event = at.event; there = ap (λ b. cond b (Some e.1) (find key_cmp at.key es)) (untied at.key e.0 apart) ∙ at.there; passes = at.passes }

  in_list : (es : List (Key × Event)) → IsInOrder es → list_any on_entry es ≡ true → Found es
  in_list [] h e = absurd (true≢false (sym e))
  in_list (x ∷ es) h e = elim (or_cases (f x.1) (list_any on_entry es) e) [
    | inl here ↦ record { key = x.0; event = x.1; there = ap (λ b. cond b (Some x.1) (find key_cmp x.0 es)) (tied x.0); passes = here }
    | inr later ↦ behind x es h (in_list es (both_of _ _ h).1 later)
  ]

  -- an entry that passes is pending under its key
  pub any_pends : (m : Events) → list_any on_entry (map.entries m) ≡ true → Pends f m
  any_pends m e =
      let at = in_list (map.entries m) (entries_sorted m) e in
      record { key = at.key; event = at.event; there = get-entries m at.key ∙ at.there; passes = at.passes }

  of_find : (k : Key) (v : Event) (es : List (Key × Event)) → find key_cmp k es ≡ Some v → f v ≡ true → list_any on_entry es ≡ true
  of_find k v [] e passes = absurd (not_some e)
  of_find k v (x ∷ es) e passes =
      elim (eq_by_cmp key_cmp k x.0) as (λ b. cond b (Some x.1) (find key_cmp k es) ≡ Some v → list_any on_entry (x ∷ es) ≡ true) [
        | true ↦ λ h. or_first (f x.1) (list_any on_entry es) (ap f (same_some x.1 v h) ∙ passes)
        | false ↦ λ h. or_right (f x.1) (list_any on_entry es) (of_find k v es h passes)
      ] e

  -- and what is pending is an entry
  pub pends_any : (m : Events) (k : Key) (v : Event) → map.get m k ≡ Some v → f v ≡ true → list_any on_entry (map.entries m) ≡ true
  pends_any m k v there passes = of_find k v (map.entries m) (sym (get-entries m k) ∙ there) passes
