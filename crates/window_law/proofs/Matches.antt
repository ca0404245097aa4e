-- In a window the net's state and the groups match, event by event.
use Rattle.std.proofs.Common.{◌≡◌, ◌≢◌, ◌<◌, ◌≤◌, ◌+◌, ℕ, List, [], ◌∷◌, ◌++◌, length, append-nil, filter, Bool, true, false, cond, not, ◌==◌, get_or, set, Option, Some, None, refl, sym, ap, subst, Less, ◌∙◌, ⊎_elim, true≢false, arith, eq-eqb, ne_eqb, eqb-true, get_or-set_same, get_or-set_other, length-set}
use Rattle.std.proofs.lemmas.Bool.{cases_eq, cases_lt}
use Rattle.std.proofs.lemmas.List.{get_or_past}
use Rattle.std.specs.Option.{option_or}
use Rattle.std.specs.FinMap.{get}
use Rattle.sim_time.specs.declared.key.Key.{Key}
use Rattle.node_core.specs.declared.event.Event.{Event}
use Rattle.tournament.specs.Keyed.{EachKey}
use Rattle.tournament.proofs.Maps.{none_or, not_some}
use Rattle.table_run.specs.Sound.{EachEvent}
use Rattle.table_run.specs.State.{State, no_part, part_at}
use Rattle.node_core.specs.TraceLine.{TraceLine}
use Rattle.window_law.specs.Groups.{GroupState, group_at, is_own}
use Rattle.window_law.specs.Calls.{IsWithin}
use Rattle.window_law.proofs.Premises.{IsAhead}
use Rattle.window_law.proofs.Due.{IsFirst, IsLate, key_time}

pub filter_push : {A : Type 0} (p : A → Bool) (xs : List A) (x : A) → filter p (xs ++ x ∷ []) ≡ filter p xs ++ cond (p x) (x ∷ []) []
filter_push p [] x = elim (p x) as (λ b. cond b (x ∷ []) [] ≡ cond b (x ∷ []) []) [ true ↦ refl | false ↦ refl ]
filter_push p (y ∷ ys) x = elim (p y) as (λ b. cond b (y ∷ filter p (ys ++ x ∷ [])) (filter p (ys ++ x ∷ [])) ≡ cond b (y ∷ filter p ys) (filter p ys) ++ cond (p x) (x ∷ []) []) [ true ↦ ap (λ l. y ∷ l) (filter_push p ys x) | false ↦ filter_push p ys x ]

-- which value there is
pub the_value : {A : Type 0} (o : Option A) → o ≢ None → (v : A) × (o ≡ Some v)
the_value None h = absurd (h refl)
the_value (Some v) h = (v, refl)

-- lists that are alike at a place stay so where both get the same element
pub same_after_set : {A : Type 0} (xs ys : List A) (i n : ℕ) (x d : A) → length xs ≡ length ys → get_or xs n d ≡ get_or ys n d → get_or (set xs i x) n d ≡ get_or (set ys i x) n d
same_after_set xs ys i n x d sizes alike =
    ⊎_elim
    (λ (e : n ≡ i). subst (λ j. get_or (set xs i x) j d ≡ get_or (set ys i x) j d) (sym e) (at_it (cases_lt i (length xs))))
    (λ (off : n ≢ i). get_or-set_other xs i n x d off ∙ alike ∙ sym (get_or-set_other ys i n x d off))
    (cases_eq n i)
  where
    at_it : (Rattle.std.proofs.Common.◌⊎◌ (i < length xs) (length xs ≤ i)) → get_or (set xs i x) i d ≡ get_or (set ys i x) i d
    at_it = ⊎_elim
        (λ (l : i < length xs). get_or-set_same xs i x d l ∙ sym (get_or-set_same ys i x d (omega (arith, l, sizes))))
        (λ (m : length xs ≤ i). get_or_past (set xs i x) i d (omega (arith, m, length-set xs i x)) ∙ sym (get_or_past (set ys i x) i d (omega (arith, m, sizes, length-set ys i x))))

-- a change of a group's own is at its nodes
pub own_node : (group : ℕ → ℕ) (h : ℕ) (k : Key) → is_own group h k ≡ true → group k.node ≡ h
unfolding is_own
own_node group h k e = eqb-true _ _ e

pub not_true : (b : Bool) → not b ≡ true → b ≡ false
not_true true e = absurd (true≢false (sym e))
not_true false e = refl

pub within_later : (ahead : Option ℕ) (until a b : ℕ) → IsWithin ahead until a → a ≤ b → IsWithin ahead until b
within_later None until a b h l = tt
within_later (Some delay) until a b h l = omega (arith, h, l)

pub within_less : (ahead : Option ℕ) (until lower a : ℕ) → IsWithin ahead until a → lower ≤ until → IsWithin ahead lower a
within_less None until lower a h l = tt
within_less (Some delay) until lower a h l = omega (arith, h, l)

pub ahead_late : (ahead : Option ℕ) (until now time : ℕ) → IsWithin ahead until now → IsAhead ahead now time → until ≤ time
ahead_late None until now time h far = absurd far
ahead_late (Some delay) until now time h far = omega (arith, h, far)

-- one of two is there
or_first : {A : Type 0} (o p : Option A) (v : A) → o ≡ Some v → option_or o p ≡ None → ⊥
or_first None p v e none = absurd (not_some e)
or_first (Some x) p v e none = not_some (sym none)

or_second : {A : Type 0} (o p : Option A) (v : A) → p ≡ Some v → option_or o p ≡ None → ⊥
or_second None p v e none = not_some (sym none ∙ e)
or_second (Some x) p v e none = not_some (sym none)

-- a held change: made in the group, for another, and no sooner than the window's end
pub record IsHeld (group : ℕ → ℕ) (maker : Key → ℕ) (until h : ℕ) (k : Key) : Type 0 where
  pub by : group (maker k) ≡ h
  pub other : is_own group h k ≡ false
  pub late : until ≤ k.time

pub record Matches (group : ℕ → ℕ) (maker : Key → ℕ) (ahead : Option ℕ) (until : ℕ) (s : State) (lines : List TraceLine) (groups : List GroupState) : Type 0 where
  pub few : (n : ℕ) → group n < length groups
  pub sizes : (n : ℕ) → length (group_at groups (group n)).parts ≡ length s.parts
  pub parts : (n : ℕ) → part_at s n ≡ get_or (group_at groups (group n)).parts n no_part
  pub pending : (k : Key) → get s.pending k ≡ option_or (get (group_at groups (group (maker k))).held k) (get (group_at groups (group k.node)).pending k)
  pub own : (h : ℕ) → EachEvent (λ k v. group k.node ≡ h) (group_at groups h).pending
  pub held : (h : ℕ) → EachKey (IsHeld group maker until h) (group_at groups h).held
  pub soon : EachEvent (λ k v. IsWithin ahead until k.time) s.pending
  pub lines_are : (h : ℕ) → (group_at groups h).lines ≡ filter (λ (l : TraceLine). group l.key.node == h) lines

module _ (group : ℕ → ℕ) (maker : Key → ℕ) (ahead : Option ℕ) (until : ℕ) where
  module _ (s : State) (lines : List TraceLine) (groups : List GroupState) (m : Matches group maker ahead until s lines groups) where
    -- no held change stands at a key below the window's end
    pub near : (k : Key) → k.time < until → get s.pending k ≡ get (group_at groups (group k.node)).pending k
    near k b =
        m.pending k
        ∙ ap (λ o. option_or o (get (group_at groups (group k.node)).pending k))
        (none_or (get (group_at groups (group (maker k))).held k) (λ v e. let l = (m.held (group (maker k)) k v e).late in absurd (omega (arith, l, b))))

    not_none : {A : Type 0} (o p : Option A) → o ≡ p → p ≢ None → o ≢ None
    not_none o p e n f = n (sym e ∙ f)

    owned : (h : ℕ) (q : Key) → get (group_at groups h).pending q ≢ None → group q.node ≡ h
    owned h q some = let v = the_value _ some in m.own h q v.0 v.1

    pub due_there : (k : Key) (v : Event) → IsFirst (get s.pending) until k v → IsFirst (get (group_at groups (group k.node)).pending) until k v
    due_there k v d = record {
      there = sym (near k d.below) ∙ d.there;
      below = d.below;
      least = λ q some l.
          let t = key_time q k l in
          let b = d.below in
          let b' : q.time < until = omega (arith, t, b) in
          d.least q (not_none _ _ (near q b' ∙ ap (λ h. get (group_at groups h).pending q) (owned (group k.node) q some)) some) l;
    }

    pub none_there : IsLate (get s.pending) until → (h : ℕ) → IsLate (get (group_at groups h).pending) until
    none_there late h q some =
        ⊎_elim
        (λ b. late q (not_none _ _ (near q b ∙ ap (λ j. get (group_at groups j).pending q) (owned h q some)) some))
        (λ l. l)
        (cases_lt q.time until)

    -- what a group has is pending
    pub pending_under : (h : ℕ) (q : Key) (v : Event) → get (group_at groups h).pending q ≡ Some v → get s.pending q ≢ None
    pending_under h q v there none =
        let at : get (group_at groups (group q.node)).pending q ≡ Some v = ap (λ i. get (group_at groups i).pending q) (m.own h q v there) ∙ there in
        or_second (get (group_at groups (group (maker q))).held q) (get (group_at groups (group q.node)).pending q) v at (sym (m.pending q) ∙ none)

    -- and what it holds back
    pub held_under : (h : ℕ) (q : Key) (v : Event) → get (group_at groups h).held q ≡ Some v → get s.pending q ≢ None
    held_under h q v there none =
        let at : get (group_at groups (group (maker q))).held q ≡ Some v = ap (λ i. get (group_at groups i).held q) ((m.held h q v there).by) ∙ there in
        or_first (get (group_at groups (group (maker q))).held q) (get (group_at groups (group q.node)).pending q) v at (sym (m.pending q) ∙ none)
