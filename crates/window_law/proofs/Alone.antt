-- What a group becomes depends on the number of its own firings alone.
use Rattle.std.proofs.Common.{◌≡◌, ◌≢◌, ◌≤◌, ◌<◌, ℕ, zero, suc, List, [], ◌∷◌, ◌++◌, length, cond, ◌==◌, Option, Some, None, refl, sym, ap, subst, ◌∙◌, ◌⊎◌, inl, inr, ⊎_elim, arith, eq-eqb, ne_eqb, get_or-set_same, get_or-set_other, length-set, ext_get_or}
use Rattle.std.proofs.lemmas.Bool.{cases_eq}
use Rattle.std.specs.Option.{option_map, unwrap_or}
use Rattle.sim_time.specs.declared.key.Key.{Key}
use Rattle.node_core.specs.declared.event.Event.{Event}
use Rattle.table_run.specs.State.{due}
use Rattle.window_law.specs.Groups.{GroupState, no_group, group_at, up_to, fire_on, fire_or_stay, fire_at, fires, fire_times}

pub length_fires : (group : ℕ → ℕ) (until : ℕ) (hs : List ℕ) (groups : List GroupState) → length (fires group until hs groups) ≡ length groups
length_fires group until [] groups = refl
length_fires group until (h ∷ hs) groups = length_fires group until hs (fire_at group until h groups) ∙ length-set groups h (fire_or_stay group h until (group_at groups h))

pub fires_push : (group : ℕ → ℕ) (until : ℕ) (hs : List ℕ) (h : ℕ) (groups : List GroupState) → fires group until (hs ++ h ∷ []) groups ≡ fire_at group until h (fires group until hs groups)
fires_push group until [] h groups = refl
fires_push group until (j ∷ hs) h groups = fires_push group until hs h (fire_at group until j groups)

length_push : {A : Type 0} (ls : List A) (l : A) → length (ls ++ l ∷ []) ≡ suc (length ls)
length_push [] l = refl
length_push (y ∷ ls) l = ap suc (length_push ls l)

module _ (group : ℕ → ℕ) (until h : ℕ) where
  abbrev pub one : GroupState → GroupState
  one g = fire_or_stay group h until g

  abbrev pub alone : ℕ → GroupState → GroupState
  alone n g = fire_times group h until n g

  abbrev pub times : List ℕ → ℕ
  times [] = zero
  times (j ∷ js) = cond (j == h) (suc (times js)) (times js)

  pub fires_alone : (hs : List ℕ) (groups : List GroupState) → h < length groups → group_at (fires group until hs groups) h ≡ alone (times hs) (group_at groups h)
  fires_alone [] groups l = refl
  fires_alone (j ∷ hs) groups l =
      fires_alone hs (fire_at group until j groups) (omega (arith, l, length-set groups j (fire_or_stay group j until (group_at groups j))))
      ∙ ⊎_elim
      (λ (e : j ≡ h).
      ap (alone (times hs)) (ap (λ i. group_at (fire_at group until i groups) h) e ∙ get_or-set_same groups h (one (group_at groups h)) no_group l)
      ∙ ap (λ b. alone (cond b (suc (times hs)) (times hs)) (group_at groups h)) (sym (eq-eqb j h e)))
      (λ (off : j ≢ h).
      ap (alone (times hs)) (get_or-set_other groups j h (fire_or_stay group j until (group_at groups j)) no_group (λ e. off (sym e)))
      ∙ ap (λ b. alone (cond b (suc (times hs)) (times hs)) (group_at groups h)) (sym (ne_eqb j h off)))
      (cases_eq j h)

  -- it stays, or has one line more
  moves : (g : GroupState) → (one g ≡ g) ⊎ (length (one g).lines ≡ suc (length g.lines))
  moves g = by (due (up_to until g))
    where
      by : (o : Option (Key × Event)) → (unwrap_or (option_map (fire_on group h until g) o) g ≡ g) ⊎ (length (unwrap_or (option_map (fire_on group h until g) o) g).lines ≡ suc (length g.lines))
      by None = inl refl
      by (Some x) = inr (length_push g.lines _)

  grows : (a : ℕ) (g : GroupState) → length g.lines ≤ length (alone a g).lines
  grows zero g = omega arith
  grows (suc a) g = ⊎_elim (λ e. subst (λ x. length g.lines ≤ length (alone a x).lines) (sym e) (grows a g)) (λ e. let m = grows a (one g) in omega (arith, e, m)) (moves g)

  pub stays : (a : ℕ) (g : GroupState) → one g ≡ g → alone a g ≡ g
  stays zero g e = refl
  stays (suc a) g e = ap (alone a) e ∙ stays a g e

  as_many : (a b : ℕ) (g : GroupState) → length (alone a g).lines ≡ length (alone b g).lines → alone a g ≡ alone b g
  as_many zero zero g e = refl
  as_many zero (suc b) g e = ⊎_elim (λ s. sym (stays (suc b) g s)) (λ l. let m = grows b (one g) in absurd (omega (arith, e, l, m))) (moves g)
  as_many (suc a) zero g e = ⊎_elim (λ s. stays (suc a) g s) (λ l. let m = grows a (one g) in absurd (omega (arith, e, l, m))) (moves g)
  as_many (suc a) (suc b) g e = as_many a b (one g) e

  -- as many lines, so the same group
  pub same_group : (hs js : List ℕ) (groups : List GroupState) → h < length groups → length (group_at (fires group until hs groups) h).lines ≡ length (group_at (fires group until js groups) h).lines
      → group_at (fires group until hs groups) h ≡ group_at (fires group until js groups) h
  same_group hs js groups l e =
      fires_alone hs groups l
      ∙ as_many (times hs) (times js) (group_at groups h) (ap (λ (x : GroupState). length x.lines) (sym (fires_alone hs groups l)) ∙ e ∙ ap (λ (x : GroupState). length x.lines) (fires_alone js groups l))
      ∙ sym (fires_alone js groups l)

-- GROUPS THAT FIRED APART

pub fires_append : (group : ℕ → ℕ) (until : ℕ) (hs js : List ℕ) (groups : List GroupState) → fires group until (hs ++ js) groups ≡ fires group until js (fires group until hs groups)
fires_append group until [] js groups = refl
fires_append group until (h ∷ hs) js groups = fires_append group until hs js (fire_at group until h groups)

again : ℕ → ℕ → List ℕ
again zero h = []
again (suc times) h = h ∷ again times h

times_same : (group : ℕ → ℕ) (until h n : ℕ) → times group until h (again n h) ≡ n
unfolding again
times_same group until h zero = refl
times_same group until h (suc n) = ap (λ b. cond b (suc (times group until h (again n h))) (times group until h (again n h))) (eq-eqb h h refl) ∙ ap suc (times_same group until h n)

times_other : (group : ℕ → ℕ) (until h j n : ℕ) → j ≢ h → times group until h (again n j) ≡ 0
unfolding again
times_other group until h j zero off = refl
times_other group until h j (suc n) off = ap (λ b. cond b (suc (times group until h (again n j))) (times group until h (again n j))) (ne_eqb j h off) ∙ times_other group until h j n off

module _ (group : ℕ → ℕ) (until : ℕ) (groups back : List GroupState) (size : length back ≡ length groups) (each : (h : ℕ) → h < length back → (n : ℕ) × (group_at back h ≡ fire_times group h until n (group_at groups h))) where
  -- the first n groups have fired
  record FirstFired (n : ℕ) : Type 0 where
    pub hs : List ℕ
    pub those : (h : ℕ) → h < n → h < length groups → group_at (fires group until hs groups) h ≡ group_at back h
    pub others : (h : ℕ) → n ≤ h → h < length groups → group_at (fires group until hs groups) h ≡ group_at groups h

  first_fired : (n : ℕ) → n ≤ length groups → FirstFired n
  first_fired zero l = record { hs = []; those = λ h below inside. absurd (omega (arith, below)); others = λ h above inside. refl }
  first_fired (suc n) l =
      let was = first_fired n (omega (arith, l)) in
      let e = each n (omega (arith, l, size)) in
      let mid = fires group until was.hs groups in
      let long : length mid ≡ length groups = length_fires group until was.hs groups in
      let joined : (h : ℕ) → group_at (fires group until (was.hs ++ again e.0 n) groups) h ≡ group_at (fires group until (again e.0 n) mid) h = λ h. ap (λ (g : List GroupState). group_at g h) (fires_append group until was.hs (again e.0 n) groups) in
      let other : (h : ℕ) → n ≢ h → h < length groups → group_at (fires group until (was.hs ++ again e.0 n) groups) h ≡ group_at mid h =
      λ h off inside. joined h ∙ fires_alone group until h (again e.0 n) mid (omega (arith, inside, long)) ∙ ap (λ m. fire_times group h until m (group_at mid h)) (times_other group until h n e.0 off) in
      record {
        hs = was.hs ++ again e.0 n;
        those = λ h below inside. ⊎_elim
            (λ (same : n ≡ h).
            subst (λ i. group_at (fires group until (was.hs ++ again e.0 n) groups) i ≡ group_at back i) same
            (joined n ∙ fires_alone group until n (again e.0 n) mid (omega (arith, l, long)) ∙ ap (λ m. fire_times group n until m (group_at mid n)) (times_same group until n e.0)
            ∙ ap (fire_times group n until e.0) (was.others n (omega arith) (omega (arith, l))) ∙ sym e.1))
            (λ (off : n ≢ h). other h off inside ∙ was.those h (omega (arith, below, off)) inside)
            (cases_eq n h);
        others = λ h above inside. other h (λ e. absurd (omega (arith, e, above))) inside ∙ was.others h (omega (arith, above)) inside;
      }

  pub fired_apart : (hs : List ℕ) × (fires group until hs groups ≡ back)
  fired_apart =
      let all = first_fired (length groups) (omega arith) in
      let long = length_fires group until all.hs groups in
      (all.hs, ext_get_or no_group _ back (long ∙ sym size) (λ h l. all.those h (omega (arith, l, long)) (omega (arith, l, long))))
