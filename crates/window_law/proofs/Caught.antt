-- The run catches up with a group: it comes to a step at which its lines are the group's, and the next event of the window that it has is the group's.
use Rattle.std.proofs.Common.{◌≡◌, ◌≢◌, ◌≤◌, ◌<◌, ◌+◌, ◌-◌, ℕ, zero, suc, List, [], ◌∷◌, ◌++◌, append-nil, append_assoc, Option, Some, None, refl, sym, ap, subst, ◌∙◌, ⊎_elim, arith, get_or-set_same, get_or-set_other, length-set, length}
use Rattle.std.proofs.lemmas.Bool.{cases_eq, cases_lt}
use Rattle.std.specs.List.{AllByRecursion}
use Rattle.std.specs.Option.{option_map, unwrap_or}
use Rattle.std.specs.FinMap.{get}
use Rattle.sim_time.specs.declared.key.Key.{Key}
use Rattle.tournament.specs.Keyed.{least}
use Rattle.tournament.proofs.Maps.{not_some, same_some}
use Rattle.node_core.specs.declared.event.Event.{Event}
use Rattle.node_core.specs.TraceLine.{TraceLine}
use Rattle.table_run.specs.State.{State, below, due, effect_of, line_of, stepped, step_at, step, run}
use Rattle.table_run.proofs.Runs.{Along, due_steps, run_cons, run_parts, of_run, along_step, along_here}
use Rattle.window_law.specs.Groups.{GroupState, no_group, group_at, up_to, fire_on, fire_or_stay, fire_at}
use Rattle.window_law.proofs.Premises.{FairStep}
use Rattle.window_law.proofs.Due.{IsFirst, due_is, is_due, none_due, late_none}
use Rattle.window_law.proofs.Matches.{Matches, due_there, none_there}
use Rattle.window_law.proofs.OneStep.{matches_on}
use Rattle.window_law.proofs.Brought.{due_by_end}
use Rattle.window_law.proofs.Alone.{one, alone, stays}

-- where nothing is due a run goes no further
pub no_further : (n : ℕ) (s u : State) (lines : List TraceLine) → due s ≡ None → run s (suc n) ≡ Some (lines, u) → ⊥
no_further n s u lines none e = of_run {G = ⊥} s u n lines e (λ line t rest first _ _. not_some (sym (ap (option_map {U = TraceLine × State} (step_at s)) none) ∙ first))

-- a run to its end, from a state on its way
pub record GoesOn (s last : State) : Type 0 where
  pub n : ℕ
  pub lines : List TraceLine
  pub is_run : run s n ≡ Some (lines, last)

pub goes_on : (s t last : State) (m n : ℕ) (before lines : List TraceLine) → run s m ≡ Some (before, t) → run s n ≡ Some (lines, last) → due last ≡ None → GoesOn t last
goes_on s t last m n before lines e f none =
    ⊎_elim
    (λ (past : n < m).
    let parted = run_parts s t n (suc (m - suc n)) before (ap (run s) {x = n + suc (m - suc n)} {y = m} (omega (arith, past)) ∙ e) in
    let same = same_some (parted.first, parted.between) (lines, last) (sym parted.begins ∙ f) in
    absurd (no_further (m - suc n) parted.between t parted.rest (ap (λ (p : List TraceLine × State). due p.1) same ∙ none) parted.goes_on))
    (λ (upto : m ≤ n).
    let parted = run_parts s last m (n - m) lines (ap (run s) {x = m + (n - m)} {y = n} (omega (arith, upto)) ∙ f) in
    let same = same_some (parted.first, parted.between) (before, t) (sym parted.begins ∙ e) in
    record { n = n - m; lines = parted.rest; is_run = ap (λ (p : List TraceLine × State). run p.1 (n - m)) (sym same) ∙ parted.goes_on })
    (cases_lt n m)

module _ (group : ℕ → ℕ) (maker : Key → ℕ) (ahead : Option ℕ) (until h : ℕ) (g : GroupState) where
  -- the run from a state has made more lines in the window, and then has the group, and its next event if there is one
  pub record Caught (s : State) (before : List TraceLine) : Type 0 where
    pub n : ℕ
    pub more : List TraceLine
    pub state : State
    pub groups : List GroupState
    pub is_run : run s n ≡ Some (more, state)
    pub early : AllByRecursion (λ (l : TraceLine). l.key.time < until) more
    pub matches : Matches group maker ahead until state (before ++ more) groups
    pub same : g ≡ group_at groups h
    pub next : (k : Key) (v : Event) → due (up_to until g) ≡ Some (k, v) → due state ≡ Some (k, v)

  -- with no step
  here : (s : State) (before : List TraceLine) (groups : List GroupState) → Matches group maker ahead until s before groups → g ≡ group_at groups h → ((k : Key) (v : Event) → due (up_to until g) ≡ Some (k, v) → due s ≡ Some (k, v)) → Caught s before
  here s before groups m same next = record { n = 0; more = []; state = s; groups = groups; is_run = refl; early = tt; matches = rw append-nil m; same = same; next = next }

  -- and with one step in front
  further : (s t : State) (before : List TraceLine) (line : TraceLine) → step s ≡ Some (line, t) → line.key.time < until → Caught t (before ++ line ∷ []) → Caught s before
  further s t before line e early c = record {
    n = suc c.n;
    more = line ∷ c.more;
    state = c.state;
    groups = c.groups;
    is_run = run_cons s t c.state line c.n c.more e c.is_run;
    early = (early, c.early);
    matches = subst (λ ls. Matches group maker ahead until c.state ls c.groups) (push before line c.more) c.matches;
    same = c.same;
    next = c.next;
  }
    where
      push : (a : List TraceLine) (l : TraceLine) (b : List TraceLine) → (a ++ l ∷ []) ++ b ≡ a ++ l ∷ b
      push a l b = rw append_assoc refl

  -- the group after its own firings, once a group has fired
  data Left (b : ℕ) (groups : List GroupState) (fired : ℕ) : Type 0 where
    now : fired ≡ h → g ≡ group_at groups h → Left b groups fired
    later : (c : ℕ) → g ≡ alone group until h c (group_at (fire_at group until fired groups) h) → Left b groups fired

  left : (b : ℕ) (groups : List GroupState) (fired : ℕ) → h < length groups → g ≡ alone group until h b (group_at groups h) → Left b groups fired
  left b groups fired l e = ⊎_elim (λ (own : fired ≡ h). mine b own e) (λ (other : fired ≢ h). later b (e ∙ ap (alone group until h b) (sym (get_or-set_other groups fired h (fire_or_stay group fired until (group_at groups fired)) no_group (λ same. other (sym same)))))) (cases_eq fired h)
    where
      mine : (b : ℕ) → fired ≡ h → g ≡ alone group until h b (group_at groups h) → Left b groups fired
      mine zero own e = now own e
      mine (suc c) own e = later c (e ∙ ap (alone group until h c) (sym (ap (λ i. group_at (fire_at group until i groups) h) own ∙ get_or-set_same groups h (one group until h (group_at groups h)) no_group l)))

  -- of a group that is done nothing is left to fire
  done_stays : (b : ℕ) (groups : List GroupState) → due (up_to until (group_at groups h)) ≡ None → g ≡ alone group until h b (group_at groups h) → g ≡ group_at groups h
  done_stays b groups done e = e ∙ stays group until h b (group_at groups h) (ap (λ (o : Option (Key × Event)). unwrap_or (option_map (fire_on group h until (group_at groups h)) o) (group_at groups h)) done)

  module _ (s : State) (before : List TraceLine) (groups : List GroupState) (m : Matches group maker ahead until s before groups) (b : ℕ) (e : g ≡ alone group until h b (group_at groups h)) where
    -- nothing of the window is left
    all_done : below until (least s.pending) ≡ None → Caught s before
    all_done none =
        let done : due (up_to until (group_at groups h)) ≡ None = late_none until (group_at groups h).pending (none_there group maker ahead until s before groups m (none_due until s.pending none) h) in
        let same = done_stays b groups done e in
        here s before groups m same (λ k v is. absurd (not_some (sym (ap (λ (y : GroupState). due (up_to until y)) same ∙ done) ∙ is)))

    -- the next event is the group's
    its_next : (k : Key) (v : Event) → IsFirst (get s.pending) until k v → due s ≡ Some (k, v) → group k.node ≡ h → g ≡ group_at groups h → Caught s before
    its_next k v is due_is own same =
        let there : due (up_to until g) ≡ Some (k, v) = ap (λ (y : GroupState). due (up_to until y)) (same ∙ ap (group_at groups) (sym own)) ∙ is_due until (group_at groups (group k.node)).pending k v (due_there group maker ahead until s before groups m k v is) in
        here s before groups m same (λ q u is. due_is ∙ sym there ∙ is)

    -- the group is caught up with, or the run has one step more in the window
    by_next : until ≤ s.end → h < length groups → ((k : Key) (v : Event) → IsFirst (get s.pending) until k v → due s ≡ Some (k, v) → (c : ℕ) → g ≡ alone group until h c (group_at (fire_at group until (group k.node) groups) h) → Caught s before) → Caught s before
    by_next le l more = go (below until (least s.pending)) refl
      where
        of_left : (k : Key) (v : Event) → IsFirst (get s.pending) until k v → due s ≡ Some (k, v) → Left b groups (group k.node) → Caught s before
        of_left k v first is (now own same) = its_next k v first is own same
        of_left k v first is (later c left_is) = more k v first is c left_is

        go : (o : Option (Key × Event)) → below until (least s.pending) ≡ o → Caught s before
        go None o_is = all_done o_is
        go (Some x) o_is =
            let first = due_is until s.pending x.0 x.1 o_is in
            of_left x.0 x.1 first (due_by_end group maker ahead until s x.0 x.1 le first) (left b groups (group x.0.node) l e)

  -- along the run to its end
  pub catch : (n : ℕ) (s last : State) (before lines : List TraceLine) (groups : List GroupState) → run s n ≡ Some (lines, last) → due last ≡ None → until ≤ s.end → Along (FairStep group maker ahead) s
      → Matches group maker ahead until s before groups → h < length groups → (b : ℕ) → g ≡ alone group until h b (group_at groups h) → Caught s before
  catch zero s last before lines groups e none le fair m l b is = by_next s before groups m b is le l (λ k v first due_there c left_is.
      absurd (not_some (sym (ap (λ (p : List TraceLine × State). due p.1) (same_some ([], s) (lines, last) e) ∙ none) ∙ due_there)))
  catch (suc n) s last before lines groups e none le fair m l b is = by_next s before groups m b is le l (λ k v first due_there c left_is.
      let effect = effect_of s (k, v) in
      let line = line_of (k, v) effect in
      let t = stepped s k effect in
      let at = group k.node in
      let early = first.below in
      let step_is : step s ≡ Some (line, t) = due_steps s k v due_there in
      of_run s last n lines e (λ other u rest taken others _.
      let same = same_some (other, u) (line, t) (sym taken ∙ step_is) in
      let on : run t n ≡ Some (rest, last) = ap (λ (p : TraceLine × State). run p.1 n) (sym same) ∙ others in
      further s t before line step_is early
      (catch n t last (before ++ line ∷ []) rest (fire_at group until at groups) on none le (along_step (FairStep group maker ahead) s t line step_is fair)
      (matches_on group maker ahead until s before groups m k v first (along_here (FairStep group maker ahead) s fair k v due_there))
      (let size = length-set groups at (fire_or_stay group at until (group_at groups at)) in omega (arith, l, size)) c left_is)))
