-- One step of the run is one firing: state and groups match again.
use Rattle.std.proofs.Common.{◌≡◌, ◌≢◌, ◌<◌, ℕ, List, [], ◌∷◌, ◌++◌, length, append-nil, filter, Bool, true, false, cond, not, ◌==◌, get_or, set, Option, Some, None, refl, sym, ap, subst, Less, ◌∙◌, ⊎_elim, true≢false, arith, eq-eqb, ne_eqb, get_or-set_same, get_or-set_other, length-set}
use Rattle.std.proofs.lemmas.Bool.{cases_Bool, cases_eq}
use Rattle.std.specs.Option.{option_map, option_or, unwrap_or, IfSome}
use Rattle.std.specs.FinMap.{get, remove, get-remove}
use Rattle.std.specs.List.{AllByRecursion}
use Rattle.sim_time.specs.declared.key.Key.{Key}
use Rattle.sim_time.specs.Keys.{key_cmp}
use Rattle.sim_time.proofs.Order.{keys_total}
use Rattle.node_core.specs.declared.event.Event.{Event}
use Rattle.tournament.specs.Keyed.{apply, EachKey}
use Rattle.tournament.proofs.Maps.{none_or, each_apply}
use Rattle.node_core.specs.Pending.{Events, EventChange}
use Rattle.node_core.specs.Part.{PartState}
use Rattle.node_core.specs.Row.{Effect, row}
use Rattle.table_run.specs.Sound.{EachEvent}
use Rattle.table_run.specs.State.{State, no_part, effect_of, stepped, line_of}
use Rattle.node_core.specs.TraceLine.{TraceLine}
use Rattle.table_run.specs.Laws.{made_by}
use Rattle.table_run.proofs.Initial.{each_applied}
use Rattle.table_run.proofs.Lists.{all_map}
use Rattle.window_law.specs.Groups.{GroupState, no_group, group_at, is_own, own_of, others_of, group_fired, fire_on, fire_at}
use Rattle.window_law.specs.Calls.{IsWithin}
use Rattle.window_law.proofs.Premises.{IsAhead, IsFair}
use Rattle.window_law.proofs.Changes.{same, same_is, over, get-apply, over-or, over-keep, over-absent, all_filter, all_passed, all_both, each_left}
use Rattle.window_law.proofs.Due.{IsFirst, is_due, key_time}
use Rattle.window_law.proofs.Matches.{filter_push, same_after_set, own_node, not_true, within_later, ahead_late, IsHeld, Matches, due_there}

module _ (group : ℕ → ℕ) (maker : Key → ℕ) (ahead : Option ℕ) (until : ℕ) where
  module _ (s : State) (lines : List TraceLine) (groups : List GroupState) (m : Matches group maker ahead until s lines groups) (k : Key) (v : Event) (d : IsFirst (get s.pending) until k v) (fair : IsFair group maker ahead k (made_by s k v)) where
    abbrev g : ℕ
    g = group k.node

    abbrev eff : Effect
    eff = effect_of s (k, v)

    abbrev made : List EventChange
    made = made_by s k v

    abbrev groups' : List GroupState
    groups' = set groups g (group_fired group g (group_at groups g) (k, v) eff)

    pub fires_it : fire_at group until g groups ≡ groups'
    fires_it =
        ap (λ (o : Option (Key × Event)). set groups g (unwrap_or (option_map (fire_on group g until (group_at groups g)) o) (group_at groups g))) (is_due until (group_at groups g).pending k v (due_there group maker ahead until s lines groups m k v d))
        ∙ ap (λ (p : PartState). set groups g (group_fired group g (group_at groups g) (k, v) (row p k v))) (sym (m.parts k.node))

    here : (h : ℕ) → h ≡ g → group_at groups' h ≡ group_fired group g (group_at groups g) (k, v) eff
    here h e = ap (group_at groups') e ∙ get_or-set_same groups g _ no_group (m.few k.node)

    elsewhere : (h : ℕ) → h ≢ g → group_at groups' h ≡ group_at groups h
    elsewhere h e = get_or-set_other groups g h _ no_group e

    new_few : (n : ℕ) → group n < length groups'
    new_few n = omega (arith, m.few n, length-set groups g (group_fired group g (group_at groups g) (k, v) eff))

    new_sizes : (n : ℕ) → length (group_at groups' (group n)).parts ≡ length (set s.parts k.node eff.part)
    new_sizes n =
        ⊎_elim
        (λ (e : group n ≡ g). ap (λ (x : GroupState). length x.parts) (here (group n) e) ∙ length-set (group_at groups g).parts k.node eff.part ∙ m.sizes k.node ∙ sym (length-set s.parts k.node eff.part))
        (λ (e : group n ≢ g). ap (λ (x : GroupState). length x.parts) (elsewhere (group n) e) ∙ m.sizes n ∙ sym (length-set s.parts k.node eff.part))
        (cases_eq (group n) g)

    new_parts : (n : ℕ) → get_or (set s.parts k.node eff.part) n no_part ≡ get_or (group_at groups' (group n)).parts n no_part
    new_parts n =
        ⊎_elim
        (λ (e : group n ≡ g).
        same_after_set s.parts (group_at groups g).parts k.node n eff.part no_part (sym (m.sizes k.node)) (m.parts n ∙ ap (λ h. get_or (group_at groups h).parts n no_part) e)
        ∙ ap (λ (x : GroupState). get_or x.parts n no_part) (sym (here (group n) e)))
        (λ (e : group n ≢ g). get_or-set_other s.parts k.node n eff.part no_part (λ f. e (ap group f)) ∙ m.parts n ∙ ap (λ (x : GroupState). get_or x.parts n no_part) (sym (elsewhere (group n) e)))
        (cases_eq (group n) g)

    -- a key of another group is not the one that fires
    other_key : (q : Key) → group q.node ≢ g → same q k ≡ false
    other_key q e = ⊎_elim (λ t. absurd (e (ap (λ (z : Key). group z.node) (same_is q k t)))) (λ f. f) (cases_Bool (same q k))

    quiet : (h : ℕ) (q : Key) → (IsHeld group maker until h q → ⊥) → get (group_at groups h).held q ≡ None
    quiet h q off = none_or (get (group_at groups h).held q) (λ v e. off (m.held h q v e))

    -- the row's changes are at keys that the node makes
    not_made : (q : Key) (x : Option Event) → group (maker q) ≢ g → over made q x ≡ x
    not_made q x e = over-absent (λ q. maker q ≡ k.node) made q x (fair.made) (λ f. e (ap group f))

    after : (q : Key) → get (apply made (remove s.pending k)) q ≡ over made q (cond (same q k) None (option_or (get (group_at groups (group (maker q))).held q) (get (group_at groups (group q.node)).pending q)))
    after q = get-apply made (remove s.pending k) q ∙ ap (over made q) (get-remove keys_total s.pending k q ∙ ap (cond (same q k) None) (m.pending q))

    -- what the firing group has at a key of its own
    get_own : (q : Key) → is_own group g q ≡ true → get (group_at groups' g).pending q ≡ over made q (cond (same q k) None (get (group_at groups g).pending q))
    get_own q e =
        ap (λ (x : GroupState). get x.pending q) (here g refl)
        ∙ get-apply (own_of group g made) (remove (group_at groups g).pending k) q
        ∙ over-keep (is_own group g) made q _ e
        ∙ ap (over made q) (get-remove keys_total (group_at groups g).pending k q)

    -- and what any group has at a key that none of the firing group's own changes is at
    get_left : (q : Key) → ((y : Option Event) → over (own_of group g made) q y ≡ y) → cond (same q k) None (get (group_at groups (group q.node)).pending q) ≡ get (group_at groups' (group q.node)).pending q
    get_left q absent =
        ⊎_elim
        (λ (e : group q.node ≡ g).
        ap (λ h. cond (same q k) None (get (group_at groups h).pending q)) e
        ∙ sym (get-remove keys_total (group_at groups g).pending k q)
        ∙ sym (absent _)
        ∙ sym (get-apply (own_of group g made) (remove (group_at groups g).pending k) q)
        ∙ ap (λ (x : GroupState). get x.pending q) (sym (here (group q.node) e)))
        (λ (e : group q.node ≢ g).
        ap (λ t. cond t None (get (group_at groups (group q.node)).pending q)) (other_key q e)
        ∙ ap (λ (y : GroupState). get y.pending q) (sym (elsewhere _ e)))
        (cases_eq (group q.node) g)

    -- what the firing group holds at a key of another
    held_here : (q : Key) → group (maker q) ≡ g → is_own group g q ≡ false → get (group_at groups' (group (maker q))).held q ≡ over made q (get (group_at groups (group (maker q))).held q)
    held_here q e off =
        ap (λ (y : GroupState). get y.held q) (here _ e)
        ∙ get-apply (others_of group g made) (group_at groups g).held q
        ∙ over-keep (λ z. not (is_own group g z)) made q _ (ap not off)
        ∙ ap (λ h. over made q (get (group_at groups h).held q)) (sym e)

    -- what is made for others is put in
    put_in : (q : Key) → is_own group g q ≡ false → AllByRecursion (λ (c : EventChange). same q c.0 ≡ true → c.1 ≢ None) made
    put_in q off = all_map (λ (c : EventChange). is_own group g c.0 ≡ false → c.1 ≢ None) (λ (c : EventChange). same q c.0 ≡ true → c.1 ≢ None) (λ c h t. h (ap (is_own group g) (sym (same_is q c.0 t)) ∙ off)) made fair.sent

    new_held : (h : ℕ) → EachKey (IsHeld group maker until h) (group_at groups' h).held
    new_held h =
        ⊎_elim
        (λ (e : h ≡ g). subst (λ j. EachKey (IsHeld group maker until j) (group_at groups' j).held) (sym e) (subst (λ (x : GroupState). EachKey (IsHeld group maker until g) x.held) (sym (here g refl)) mine))
        (λ (e : h ≢ g). subst (λ (x : GroupState). EachKey (IsHeld group maker until h) x.held) (sym (elsewhere h e)) (m.held h))
        (cases_eq h g)
      where
        kept : (c : EventChange) → (((maker c.0 ≡ k.node) × (is_own group (group k.node) c.0 ≡ false → IsAhead ahead k.time c.0.time)) × (not (is_own group g c.0) ≡ true)) → IsHeld group maker until g c.0
        kept c x = let off = not_true _ x.1 in record { by = ap group x.0.0; other = off; late = ahead_late ahead until k.time c.0.time (m.soon k v d.there) (x.0.1 off) }

        mine : EachKey (IsHeld group maker until g) (apply (others_of group g made) (group_at groups g).held)
        mine =
            each_apply (IsHeld group maker until g) (others_of group g made) (group_at groups g).held
            (all_map _ _ kept _ (all_filter _ (λ (c : EventChange). not (is_own group g c.0)) made (all_both _ _ made fair.made fair.far))) (m.held g)

    quiet' : (h : ℕ) (q : Key) → (IsHeld group maker until h q → ⊥) → get (group_at groups' h).held q ≡ None
    quiet' h q off = none_or (get (group_at groups' h).held q) (λ v e. off (new_held h q v e))

    -- what is held stands at none of the window's keys
    own_event : (t : Bool) (q : Key) (a : Option Event) → same q k ≡ t → cond t None (option_or (get (group_at groups (group (maker q))).held q) a) ≡ option_or (get (group_at groups (group (maker q))).held q) (cond t None a)
    own_event true q a e = sym (ap (λ o. option_or o None) (quiet _ q (λ x. let l = x.late in let b = d.below in let i : q.time ≡ k.time = ap (λ (z : Key). z.time) (same_is q k e) in omega (arith, l, b, i))))
    own_event false q a e = refl

    pub new_pending : (q : Key) → get (apply made (remove s.pending k)) q ≡ option_or (get (group_at groups' (group (maker q))).held q) (get (group_at groups' (group q.node)).pending q)
    new_pending q =
        ⊎_elim
        (λ (f : group (maker q) ≡ g). ⊎_elim
        (λ (t : is_own group g q ≡ true).
        let e = own_node group g q t in
        let mine : is_own group (group (maker q)) q ≡ true = ap (λ h. is_own group h q) f ∙ t in
        after q
        ∙ ap (λ o. over made q (cond (same q k) None (option_or o (get (group_at groups (group q.node)).pending q)))) (quiet _ q (λ x. true≢false (sym mine ∙ x.other)))
        ∙ ap (λ h. over made q (cond (same q k) None (get (group_at groups h).pending q))) e
        ∙ sym (get_own q t)
        ∙ ap (λ h. get (group_at groups' h).pending q) (sym e)
        ∙ sym (ap (λ o. option_or o (get (group_at groups' (group q.node)).pending q)) (quiet' _ q (λ x. true≢false (sym mine ∙ x.other)))))
        (λ (t : is_own group g q ≡ false).
        after q
        ∙ ap (over made q) (own_event (same q k) q _ refl)
        ∙ over-or made q _ _ (put_in q t)
        ∙ ap (option_or (over made q (get (group_at groups (group (maker q))).held q)))
        (get_left q (λ y. over-absent (λ z. is_own group g z ≡ true) (own_of group g made) q y (all_passed (λ (c : EventChange). is_own group g c.0) made) (λ z. true≢false (sym z ∙ t))))
        ∙ ap (λ o. option_or o (get (group_at groups' (group q.node)).pending q)) (sym (held_here q f t)))
        (cases_Bool (is_own group g q)))
        (λ (f : group (maker q) ≢ g).
        after q
        ∙ not_made q _ f
        ∙ own_event (same q k) q _ refl
        ∙ ap (option_or (get (group_at groups (group (maker q))).held q))
        (get_left q (λ y. over-absent (λ z. (maker z ≡ k.node) × (is_own group g z ≡ true)) (own_of group g made) q y (all_filter (λ (c : EventChange). maker c.0 ≡ k.node) (λ (c : EventChange). is_own group g c.0) made fair.made) (λ z. f (ap group z.0))))
        ∙ ap (λ (y : GroupState). option_or (get y.held q) (get (group_at groups' (group q.node)).pending q)) (sym (elsewhere _ f)))
        (cases_eq (group (maker q)) g)

    new_own : (h : ℕ) → EachEvent (λ q u. group q.node ≡ h) (group_at groups' h).pending
    new_own h =
        ⊎_elim
        (λ (e : h ≡ g). subst (λ j. EachEvent (λ q u. group q.node ≡ j) (group_at groups' j).pending) (sym e) (subst (λ (x : GroupState). EachEvent (λ q u. group q.node ≡ g) x.pending) (sym (here g refl)) (kept_own (group_at groups g).pending (m.own g))))
        (λ (e : h ≢ g). subst (λ (x : GroupState). EachEvent (λ q u. group q.node ≡ h) x.pending) (sym (elsewhere h e)) (m.own h))
        (cases_eq h g)
      where
        if_some : (q : Key) (o : Option Event) → group q.node ≡ g → IfSome o (λ _. group q.node ≡ g)
        if_some q None e = tt
        if_some q (Some u) e = e

        kept_own : (p : Events) → EachEvent (λ q u. group q.node ≡ g) p → EachEvent (λ q u. group q.node ≡ g) (apply (own_of group g made) (remove p k))
        kept_own p own =
            each_applied (λ q u. group q.node ≡ g) (own_of group g made) (remove p k)
            (all_map _ _ (λ c h. if_some c.0 c.1 (own_node group g c.0 h)) _ (all_passed (λ (c : EventChange). is_own group g c.0) made))
            (each_left (λ q u. group q.node ≡ g) (λ q u. group q.node ≡ g) p k (λ q u h _. h) own)

    new_soon : EachEvent (λ q u. IsWithin ahead until q.time) (apply made (remove s.pending k))
    new_soon =
        each_applied (λ q u. IsWithin ahead until q.time) made (remove s.pending k)
        (all_map _ _ (λ c h. if_some c.0 c.1 h) made fair.later)
        (each_left (λ q u. IsWithin ahead until q.time) (λ q u. IsWithin ahead until q.time) s.pending k (λ q u h _. h) m.soon)
      where
        if_some : (q : Key) (o : Option Event) → IfSome o (λ _. key_cmp k q ≡ Less) → IfSome o (λ _. IsWithin ahead until q.time)
        if_some q None h = tt
        if_some q (Some u) h = within_later ahead until k.time q.time (m.soon k v d.there) (key_time k q h)

    new_lines : (h : ℕ) → (group_at groups' h).lines ≡ filter (λ (l : TraceLine). group l.key.node == h) (lines ++ line_of (k, v) eff ∷ [])
    new_lines h =
        ⊎_elim
        (λ (e : h ≡ g).
        ap (λ (x : GroupState). x.lines) (here h e)
        ∙ ap (λ ls. ls ++ line_of (k, v) eff ∷ []) (ap (λ j. (group_at groups j).lines) (sym e) ∙ m.lines_are h)
        ∙ sym (filter_push (λ (l : TraceLine). group l.key.node == h) lines (line_of (k, v) eff) ∙ ap (λ b. filter (λ (l : TraceLine). group l.key.node == h) lines ++ cond b (line_of (k, v) eff ∷ []) []) (eq-eqb _ _ (sym e))))
        (λ (e : h ≢ g).
        ap (λ (x : GroupState). x.lines) (elsewhere h e)
        ∙ m.lines_are h
        ∙ sym (filter_push (λ (l : TraceLine). group l.key.node == h) lines (line_of (k, v) eff) ∙ ap (λ b. filter (λ (l : TraceLine). group l.key.node == h) lines ++ cond b (line_of (k, v) eff ∷ []) []) (ne_eqb _ _ (λ f. e (sym f))) ∙ rw append-nil refl))
        (cases_eq h g)

    -- one event: a step of the net is a firing of one group
    pub matches_on : Matches group maker ahead until (stepped s k eff) (lines ++ line_of (k, v) eff ∷ []) (fire_at group until g groups)
    matches_on = subst (Matches group maker ahead until (stepped s k eff) (lines ++ line_of (k, v) eff ∷ [])) (sym fires_it) record {
      few = new_few;
      sizes = new_sizes;
      parts = new_parts;
      pending = new_pending;
      own = new_own;
      held = new_held;
      soon = new_soon;
      lines_are = new_lines;
    }
