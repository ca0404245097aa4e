-- Whatever the order of the firings, a window that is done matches a run.
use Rattle.std.proofs.Common.{◌≡◌, ◌≢◌, ◌≤◌, ℕ, zero, suc, List, [], ◌∷◌, ◌++◌, length, append-nil, append_assoc, set, get_or-set_other, Option, Some, None, refl, sym, ap, subst, ◌∙◌, ⊎_elim, arith}
use Rattle.std.proofs.lemmas.Bool.{cases_eq}
use Rattle.std.proofs.lemmas.List.{set-get_or, set_comm}
use Rattle.std.specs.Option.{option_map, unwrap_or}
use Rattle.std.specs.FinMap.{get}
use Rattle.sim_time.specs.declared.key.Key.{Key}
use Rattle.node_core.specs.declared.event.Event.{Event}
use Rattle.tournament.specs.Keyed.{least}
use Rattle.table_run.specs.State.{State, below, due, effect_of, stepped, line_of, step, run}
use Rattle.node_core.specs.TraceLine.{TraceLine}
use Rattle.window_law.specs.Groups.{GroupState, no_group, group_at, up_to, fire_on, fire_or_stay, fire_at, fires}
use Rattle.window_law.specs.Windows.{AreBelow}
use Rattle.window_law.proofs.Premises.{FairStep}
use Rattle.window_law.proofs.Due.{IsFirst, IsLate, due_is, is_due, none_due, late_none}
use Rattle.window_law.proofs.Matches.{Matches, none_there, due_there}
use Rattle.window_law.proofs.OneStep.{matches_on}
use Rattle.table_run.proofs.Runs.{Along, due_steps, run_cons, along_step, along_here}

module _ (group : ℕ → ℕ) (until : ℕ) where
  abbrev pub Done : GroupState → Type 0
  Done g = due (up_to until g) ≡ None

  abbrev at : ℕ → List GroupState → List GroupState
  at h groups = fire_at group until h groups

  pub fire_done : (h : ℕ) (groups : List GroupState) → Done (group_at groups h) → at h groups ≡ groups
  fire_done h groups e =
      ap (λ (o : Option (Key × Event)). set groups h (unwrap_or (option_map (fire_on group h until (group_at groups h)) o) (group_at groups h))) e
      ∙ set-get_or groups h no_group

  pub fires_done : (hs : List ℕ) (groups : List GroupState) → ((h : ℕ) → Done (group_at groups h)) → fires group until hs groups ≡ groups
  fires_done [] groups d = refl
  fires_done (h ∷ hs) groups d = ap (fires group until hs) (fire_done h groups (d h)) ∙ fires_done hs groups d

  swap : (g h : ℕ) (groups : List GroupState) → g ≢ h → at g (at h groups) ≡ at h (at g groups)
  swap g h groups off =
      let one = λ (i : ℕ). fire_or_stay group i until (group_at groups i) in
      ap (λ x. set (at h groups) g (fire_or_stay group g until x)) (get_or-set_other groups h g (one h) no_group off)
      ∙ set_comm groups h g (one h) (one g) (λ e. off (sym e))
      ∙ sym (ap (λ x. set (at g groups) h (fire_or_stay group h until x)) (get_or-set_other groups g h (one g) no_group (λ e. off (sym e))))

  -- a group that has an event, and has none after the firings, is among them: it may as well be the first
  pub bring : (g : ℕ) (hs : List ℕ) (groups : List GroupState) → (Done (group_at groups g) → ⊥) → Done (group_at (fires group until hs groups) g)
      → (rest : List ℕ) × (length hs ≡ suc (length rest)) × (fires group until hs groups ≡ fires group until rest (at g groups))
  bring g [] groups busy d = absurd (busy d)
  bring g (h ∷ hs) groups busy d =
      ⊎_elim
      (λ (e : g ≡ h). (hs, refl, ap (λ x. fires group until hs (at x groups)) (sym e)))
      (λ (off : g ≢ h).
      let r = bring g hs (at h groups) (λ x. busy (subst Done (get_or-set_other groups h g (fire_or_stay group h until (group_at groups h)) no_group off) x)) d in
      (h ∷ r.0, ap suc r.1, r.2 ∙ ap (fires group until r.0) (swap g h groups off)))
      (cases_eq g h)

module _ (group : ℕ → ℕ) (maker : Key → ℕ) (ahead : Option ℕ) (until : ℕ) where
  pub due_by_end : (s : State) (k : Key) (v : Event) → until ≤ s.end → IsFirst (get s.pending) until k v → due s ≡ Some (k, v)
  due_by_end s k v le d = is_due s.end s.pending k v record { there = d.there; below = (let b = d.below in omega (arith, b, le)); least = d.least }

  busy : (s : State) (lines : List TraceLine) (groups : List GroupState) → Matches group maker ahead until s lines groups → (k : Key) (v : Event) → IsFirst (get s.pending) until k v → Done group until (group_at groups (group k.node)) → ⊥
  busy s lines groups m k v is none = let some = is_due until (group_at groups (group k.node)).pending k v (due_there group maker ahead until s lines groups m k v is) in absurd (cc)

  -- what a run comes to, from a state to which lines were made in the window
  pub record Comes (s : State) (before : List TraceLine) (groups : List GroupState) : Type 0 where
    pub n : ℕ
    pub more : List TraceLine
    pub state : State
    pub is_run : run s n ≡ Some (more, state)
    pub matches : Matches group maker ahead until state (before ++ more) groups
    pub late : IsLate (get state.pending) until
    pub early : AreBelow until more

  by_due : (hs : List ℕ) (s : State) (lines : List TraceLine) (groups : List GroupState) → Matches group maker ahead until s lines groups → ((k : Key) (v : Event) → IsFirst (get s.pending) until k v → Comes s lines (fires group until hs groups)) → Comes s lines (fires group until hs groups)
  by_due hs s lines groups m more =
      elim (below until (least s.pending)) as (λ o. below until (least s.pending) ≡ o → Comes s lines (fires group until hs groups)) [
        | None ↦ λ none.
            let late = none_due until s.pending none in
            let same = fires_done group until hs groups (λ h. late_none until (group_at groups h).pending (none_there group maker ahead until s lines groups m late h)) in
            record {
              n = 0;
              more = [];
              state = s;
              is_run = refl;
              matches = subst (Matches group maker ahead until s (lines ++ [])) (sym same) (rw append-nil m);
              late = late;
              early = tt;
            }
        | Some x ↦ λ some. more x.0 x.1 (due_is until s.pending x.0 x.1 some)
      ] refl

  -- whatever the order in which the groups fired
  pub window : (size : ℕ) (hs : List ℕ) (s : State) (lines : List TraceLine) (groups : List GroupState) → length hs ≡ size → until ≤ s.end → Along (FairStep group maker ahead) s → Matches group maker ahead until s lines groups
      → ((h : ℕ) → Done group until (group_at (fires group until hs groups) h)) → Comes s lines (fires group until hs groups)
  window zero hs s lines groups e le fair m d = by_due hs s lines groups m (λ k v is.
      let b = bring group until (group k.node) hs groups (busy s lines groups m k v is) (d (group k.node)) in
      let l = b.1 in
      absurd (omega (arith, e, l)))
  window (suc size) hs s lines groups e le fair m d = by_due hs s lines groups m (λ k v is.
      let g = group k.node in
      let b = bring group until g hs groups (busy s lines groups m k v is) (d g) in
      let l = b.1 in
      let less : length b.0 ≡ size = omega (arith, e, l) in
      let is_due : due s ≡ Some (k, v) = due_by_end s k v le is in
      let effect = effect_of s (k, v) in
      let line = line_of (k, v) effect in
      let next = stepped s k effect in
      let step_is : step s ≡ Some (line, next) = due_steps s k v is_due in
      let r = window size b.0 next (lines ++ line ∷ []) (fire_at group until g groups) less le (along_step (FairStep group maker ahead) s next line step_is fair)
      (matches_on group maker ahead until s lines groups m k v is (along_here (FairStep group maker ahead) s fair k v is_due))
      (λ h. subst (λ (x : List GroupState). Done group until (group_at x h)) b.2 (d h)) in
      record {
        n = suc r.n;
        more = line ∷ r.more;
        state = r.state;
        is_run = run_cons s next r.state line r.n r.more step_is r.is_run;
        matches = subst (Matches group maker ahead until r.state (lines ++ line ∷ r.more)) (sym b.2) (subst (λ ls. Matches group maker ahead until r.state ls (fires group until b.0 (fire_at group until g groups))) (push lines line r.more) r.matches);
        late = r.late;
        early = (is.below, r.early);
      })
    where
      push : (a : List TraceLine) (l : TraceLine) (c : List TraceLine) → (a ++ l ∷ []) ++ c ≡ a ++ l ∷ c
      push a l c = rw append_assoc refl
