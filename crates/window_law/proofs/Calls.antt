-- A window call by call: what each call keeps, and what a turn gives.
use Rattle.std.proofs.Common.{◌≡◌, ◌≢◌, ◌≤◌, ◌<◌, ◌+◌, ℕ, zero, suc, min, List, [], ◌∷◌, ◌++◌, map, filter, take, length, get_or, set, Bool, true, false, cond, ◌==◌, ◌&&◌, is_none, Option, Some, None, refl, sym, ap, ap₂, subst, ◌∙◌, ⊎_elim, arith, append-nil, length-append, ext_get_or}
use Rattle.std.proofs.lemmas.Bool.{and_parts}
use Rattle.std.specs.List.{AllByRecursion}
use Rattle.std.specs.Option.{option_map, unwrap_or}
use Rattle.std.specs.FinMap.{get, get-empty}
use Rattle.sim_time.specs.declared.key.Key.{Key}
use Rattle.node_core.specs.declared.event.Event.{Event}
use Rattle.table_run.specs.State.{State, no_part, part_at, due, effect_of, stepped, line_of, run}
use Rattle.node_core.specs.TraceLine.{TraceLine}
use Rattle.tournament.proofs.Maps.{same_some}
use Rattle.window_law.specs.Groups.{GroupState, no_group, group_at, up_to, fire_on, fire_at, fires}
use Rattle.window_law.specs.Windows.{Setting, WindowState, AreBelow, in_order, all_lines, groups_delivered, all_done, is_empty, none_fired, opened}
use Rattle.window_law.specs.Standing.{Stands}
use Rattle.window_law.specs.Calls.{IsOpenFrom, IsTurned, HaveFired}
use Rattle.window_law.proofs.Premises.{FairStep}
use Rattle.window_law.proofs.Due.{IsFirst, due_is, late_none}
use Rattle.window_law.proofs.Matches.{Matches, within_less, near}
use Rattle.window_law.proofs.OneStep.{matches_on}
use Rattle.table_run.proofs.Runs.{Along, of_step, due_steps, run_length, of_run, along_step, along_here}
use Rattle.window_law.proofs.Brought.{Done, window}
use Rattle.window_law.proofs.Tidy.{Tidy, run_tidy}
use Rattle.window_law.proofs.Turn.{lines_of_all, stands_after, end_le, end_soon, matches_from}
use Rattle.window_law.proofs.Alone.{length_fires, fires_push, same_group, fires_append, fired_apart}

none_is : {A : Type 0} (o : Option A) → is_none o ≡ true → o ≡ None
none_is None e = refl
none_is (Some x) e = absurd (cc)

pub nothing_due : (until : ℕ) → due (up_to until no_group) ≡ None
nothing_due until = late_none until no_group.pending (λ q some. absurd (some (get-empty _ q)))

pub done_at : (until : ℕ) (groups : List GroupState) → all_done until groups ≡ true → (h : ℕ) → due (up_to until (group_at groups h)) ≡ None
done_at until [] e h = nothing_due until
done_at until (g ∷ groups) e zero = none_is _ (and_parts _ _ e).0
done_at until (g ∷ groups) e (suc h) = done_at until groups (and_parts _ _ e).1 h

empty_is : (ls : List TraceLine) → is_empty ls ≡ true → ls ≡ []
empty_is [] e = refl
empty_is (l ∷ ls) e = absurd (cc)

empty_at : (groups : List GroupState) → none_fired groups ≡ true → (h : ℕ) → (group_at groups h).lines ≡ []
empty_at [] e h = refl
empty_at (g ∷ groups) e zero = empty_is _ (and_parts _ _ e).0
empty_at (g ∷ groups) e (suc h) = empty_at groups (and_parts _ _ e).1 h

module _ (x : Setting) (edge : State) where
  pub opens : (groups : List GroupState) → Stands x.group edge groups → IsOpenFrom x edge (opened x groups)
  opens groups st = record { start = groups; stands = st; firings = []; groups_are = refl; within = end_le x groups; soon = end_soon x.group edge groups st x }

  module _ (w : WindowState) (m : IsOpenFrom x edge w) where
    pub fire_keeps : (h : ℕ) (entry : Key × Event) → due (up_to w.until (group_at w.groups h)) ≡ Some entry → IsOpenFrom x edge record { groups = set w.groups h (fire_on x.group h w.until (group_at w.groups h) entry); until = w.until }
    fire_keeps h entry e = record {
      start = m.start;
      stands = m.stands;
      firings = m.firings ++ h ∷ [];
      groups_are =
          sym (ap (λ (p : Option (Key × Event)). set w.groups h (unwrap_or (option_map (fire_on x.group h w.until (group_at w.groups h)) p) (group_at w.groups h))) e)
          ∙ ap (fire_at x.group w.until h) m.groups_are
          ∙ sym (fires_push x.group w.until m.firings h m.start);
      within = m.within;
      soon = m.soon;
    }

    pub many : length w.groups ≡ length m.start
    many = ap length m.groups_are ∙ length_fires x.group w.until m.firings m.start

    -- groups that made no line are as they were when the window opened
    pub unfired : none_fired w.groups ≡ true → w.groups ≡ m.start
    unfired none =
        ext_get_or no_group w.groups m.start many (λ i l.
        ap (λ (g : List GroupState). group_at g i) m.groups_are
        ∙ same_group x.group w.until i m.firings [] m.start (omega (arith, l, many))
        (ap (λ (g : List GroupState). length (group_at g i).lines) (sym m.groups_are) ∙ ap length (empty_at w.groups none i) ∙ ap length (sym (m.stands.lines i))))

    pub unfired_stand : none_fired w.groups ≡ true → Stands x.group edge w.groups
    unfired_stand none = subst (Stands x.group edge) (sym (unfired none)) m.stands

    pub limit_keeps : none_fired w.groups ≡ true → (moment : ℕ) → IsOpenFrom x edge record { groups = w.groups; until = min w.until moment }
    limit_keeps none moment = record {
      start = m.start;
      stands = m.stands;
      firings = [];
      groups_are = unfired none;
      within = (let below = m.within in omega (arith, below));
      soon = λ k v e. within_less x.ahead w.until (min w.until moment) k.time (m.soon k v e) (omega arith);
    }

    pub apart_keeps : (back : List GroupState) → length back ≡ length w.groups → HaveFired x w back → IsOpenFrom x edge record { groups = back; until = w.until }
    apart_keeps back size each =
        let a = fired_apart x.group w.until w.groups back size each in
        record {
          start = m.start;
          stands = m.stands;
          firings = m.firings ++ a.0;
          groups_are = sym a.1 ∙ ap (fires x.group w.until a.0) m.groups_are ∙ sym (fires_append x.group w.until m.firings a.0 m.start);
          within = m.within;
          soon = m.soon;
        }

    pub initial_matches : (maker : Key → ℕ) → Matches x.group maker x.ahead w.until edge [] m.start
    initial_matches maker = matches_from x.group edge m.start m.stands maker x.ahead w.until m.soon

    module _ (maker : Key → ℕ) (ends : edge.end ≡ x.end) (fair : Along (FairStep x.group maker x.ahead) edge) where
      pub below_end : w.until ≤ edge.end
      below_end = let b = m.within in omega (arith, b, ends)

      pub turn_gives : all_done w.until w.groups ≡ true → IsTurned x edge w.until (in_order (all_lines w.groups)) (opened x (groups_delivered x.group w.groups))
      turn_gives all =
          let until = w.until in
          let done : (h : ℕ) → Done x.group until (group_at (fires x.group until m.firings m.start) h) = λ h. subst (λ (g : List GroupState). Done x.group until (group_at g h)) m.groups_are (done_at until w.groups all h) in
          let r = window x.group maker x.ahead until (length m.firings) m.firings edge [] m.start refl below_end fair (initial_matches maker) done in
          let matched : Matches x.group maker x.ahead until r.state r.more w.groups = subst (Matches x.group maker x.ahead until r.state r.more) (sym m.groups_are) r.matches in
          let tidy : Tidy r.state r.more = run_tidy x.group maker x.ahead r.n edge r.state [] r.more r.is_run fair record { sorted = tt; before = λ q v e. tt } in
          let lines : in_order (all_lines w.groups) ≡ r.more = lines_of_all x.group maker x.ahead until r.state r.more w.groups matched tidy.sorted in
          let exact : run edge (length r.more) ≡ Some (r.more, r.state) = ap (run edge) (run_length r.n edge r.state r.more r.is_run) ∙ r.is_run in
          let stands : Stands x.group r.state (groups_delivered x.group w.groups) = stands_after x.group maker x.ahead until r.state r.more w.groups matched in
          record {
            state = r.state;
            is_run = subst (λ ls. run edge (length ls) ≡ Some (ls, r.state)) (sym lines) exact;
            early = subst (AreBelow until) (sym lines) r.early;
            stands = stands;
            is_open = record { start = groups_delivered x.group w.groups; stands = stands; firings = []; groups_are = refl; within = end_le x (groups_delivered x.group w.groups); soon = end_soon x.group r.state (groups_delivered x.group w.groups) stands x };
          }

-- BETWEEN TURNS

module _ (group : ℕ → ℕ) (maker : Key → ℕ) (ahead : Option ℕ) (until : ℕ) where
  -- the firings that a run within the window makes
  follow : (n : ℕ) (s t : State) (before more : List TraceLine) (groups : List GroupState) → until ≤ s.end → Matches group maker ahead until s before groups → Along (FairStep group maker ahead) s → run s n ≡ Some (more, t)
      → AllByRecursion (λ (l : TraceLine). l.key.time < until) more → (js : List ℕ) × Matches group maker ahead until t (before ++ more) (fires group until js groups)
  follow zero s t before more groups le m fair e on =
      let both_are = same_some ([], s) (more, t) e in
      ([], subst (λ (p : List TraceLine × State). Matches group maker ahead until p.1 (before ++ p.0) groups) both_are (rw append-nil m))
  follow (suc n) s t before more groups le m fair e on =
      of_run s t n more e (λ line u rest first others is.
      of_step s line u first (λ k v is_due _ _.
      let effect = effect_of s (k, v) in
      let both_are = same_some (line_of (k, v) effect, stepped s k effect) (line, u) (sym (due_steps s k v is_due) ∙ first) in
      let all : AllByRecursion (λ (l : TraceLine). l.key.time < until) (line ∷ rest) = subst (AllByRecursion (λ (l : TraceLine). l.key.time < until)) is on in
      let early : k.time < until = subst (λ (p : TraceLine × State). p.0.key.time < until) (sym both_are) all.0 in
      let d = due_is s.end s.pending k v is_due in
      let first_is : IsFirst (get s.pending) until k v = record { there = d.there; below = early; least = d.least } in
      let m' : Matches group maker ahead until u (before ++ line ∷ []) (fire_at group until (group k.node) groups) =
      subst (λ (p : TraceLine × State). Matches group maker ahead until p.1 (before ++ p.0 ∷ []) (fire_at group until (group k.node) groups)) both_are
      (matches_on group maker ahead until s before groups m k v first_is (along_here (FairStep group maker ahead) s fair k v is_due)) in
      let le' : until ≤ u.end = subst (λ (p : TraceLine × State). until ≤ p.1.end) both_are le in
      let r = follow n u t (before ++ line ∷ []) rest (fire_at group until (group k.node) groups) le' m' (along_step (FairStep group maker ahead) s u line first fair) others all.1 in
      (group k.node ∷ r.0, subst (λ ls. Matches group maker ahead until t ls (fires group until r.0 (fire_at group until (group k.node) groups))) (push line rest ∙ ap (λ ls. before ++ ls) (sym is)) r.1)))
    where
      push : (l : TraceLine) (c : List TraceLine) → (before ++ l ∷ []) ++ c ≡ before ++ l ∷ c
      push l c = rw Rattle.std.proofs.Common.append_assoc refl

module _ (x : Setting) (edge : State) (w : WindowState) (m : IsOpenFrom x edge w) (maker : Key → ℕ) (ends : edge.end ≡ x.end) (fair : Along (FairStep x.group maker x.ahead) edge) where
  pub inside : (j : ℕ) (lines : List TraceLine) (t : State) → run edge j ≡ Some (lines, t) → AllByRecursion (λ (l : TraceLine). l.key.time < w.until) lines
      → (h : ℕ) → (group_at w.groups h).lines ≡ filter (λ (l : TraceLine). x.group l.key.node == h) lines
      → ((n : ℕ) → x.group n ≡ h → part_at t n ≡ get_or (group_at w.groups h).parts n no_part) × ((k : Key) → x.group k.node ≡ h → k.time < w.until → get t.pending k ≡ get (group_at w.groups h).pending k)
  inside j lines t e on h mine =
      let until = w.until in
      let r = follow x.group maker x.ahead until j edge t [] lines m.start (below_end x edge w m maker ends fair) (initial_matches x edge w m maker) fair e on in
      let at : group_at w.groups h ≡ group_at (fires x.group until m.firings m.start) h = ap (λ (g : List GroupState). group_at g h) m.groups_are in
      let same : h < length m.start → group_at w.groups h ≡ group_at (fires x.group until r.0 m.start) h =
      λ l. at ∙ same_group x.group until h m.firings r.0 m.start l (ap (λ (g : GroupState). length g.lines) (sym at) ∙ ap length (mine ∙ sym (r.1.lines_are h))) in
      let within : (n : ℕ) → x.group n ≡ h → h < length m.start = λ n e. let f = m.stands.few n in omega (arith, e, f) in (
        λ n e. r.1.parts n ∙ ap (λ a. get_or (group_at (fires x.group until r.0 m.start) a).parts n no_part) e ∙ ap (λ (g : GroupState). get_or g.parts n no_part) (sym (same (within n e))),
        λ k e l. near x.group maker x.ahead until t lines (fires x.group until r.0 m.start) r.1 k l
            ∙ ap (λ a. get (group_at (fires x.group until r.0 m.start) a).pending k) e ∙ ap (λ (g : GroupState). get g.pending k) (sym (same (within k.node e))),
      )
