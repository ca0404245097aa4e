-- What is left below a window's end after a turn.
use Rattle.std.proofs.Common.{◌≡◌, ◌+◌, min, ℕ, zero, suc, List, [], ◌∷◌, length, true, is_none, Option, Some, None, refl, sym, ap, subst, ◌∙◌, map, cond, false, Bool}
use Rattle.std.proofs.lemmas.Bool.{and_parts}
use Rattle.std.specs.List.{enumerate_from}
use Rattle.std.specs.FinMap.{get}
use Rattle.scenario_image.specs.declared.parts.ScenarioParts.{ScenarioParts}
use Rattle.tournament.proofs.Maps.{same_some, not_some}
use Rattle.node_core.specs.Pending.{Events}
use Rattle.node_core.specs.TraceLine.{TraceLine}
use Rattle.table_run.specs.State.{State, due, run}
use Rattle.table_run.proofs.Runs.{run_length}
use Rattle.window_core.specs.Groups.{GroupState, group_at, up_to as group_up_to, fires}
use Rattle.window_core.specs.Partition.{group_in}
use Rattle.window_core.specs.Batches.{BatchValue}
use Rattle.window_core.specs.Window.{WindowValue, IsFrom, IsWindow, HasGoneOn, HasTurned, states_of, machine_of, setting_in}
use Rattle.window_core.specs.Windows.{Setting, WindowState, AreBelow, Turn, all_done, none_fired, in_order, all_lines, all_held, groups_delivered, delivered_to, opened, moved, window_end, setting_of}
use Rattle.window_core.specs.Calls.{IsInRun}
use Rattle.window_law.proofs.Due.{IsLate, late_none}
use Rattle.window_law.proofs.Matches.{Matches}
use Rattle.window_law.proofs.Brought.{Done, Comes, window}
use Rattle.window_law.proofs.Tidy.{Tidy, run_tidy}
use Rattle.window_law.proofs.Turn.{lines_of_all}
use Rattle.window_law.proofs.Fair.{maker_of, every_run_is_fair}
use Rattle.window_law.proofs.Calls.{nothing_due, below_end, initial_matches}
use Rattle.window_law.proofs.EveryRun.{same_end}
use Rattle.window_core.specs.Lookahead.{lookahead}
use Rattle.window_workers.specs.Edges.{IsAtEdge, StaysNet, edge_of, reached_in}
use Rattle.window_workers.specs.Laid.{IsDoneBy}
use Rattle.window_engine.specs.Engines.{GoesOn, NoneBelow}
use Rattle.window_workers.proofs.Edge.{edge_is}

none_is : {A : Type 0} (o : Option A) → is_none o ≡ true → o ≡ None
none_is None e = refl
none_is (Some x) e = absurd (cc)

done_at : (until : ℕ) (groups : List GroupState) → all_done until groups ≡ true → (h : ℕ) → due (group_up_to until (group_at groups h)) ≡ None
done_at until [] e h = nothing_due until
done_at until (g ∷ groups) e zero = none_is _ (and_parts _ _ e).0
done_at until (g ∷ groups) e (suc h) = done_at until groups (and_parts _ _ e).1 h

-- where no group has an event below the window's end, nor has the state after the window's lines
pub none_left : (p : ScenarioParts) (group : ℕ → ℕ) (m : ℕ) (before : List TraceLine) (edge : State) (w : WindowState) → IsInRun p group m before edge w → all_done w.until w.groups ≡ true
    → (after : State) → run edge (length (in_order (all_lines w.groups))) ≡ Some (in_order (all_lines w.groups), after) → NoneBelow w.until after
none_left p group m before edge w is all after is_run =
    let x = setting_of group p in
    let maker = maker_of p.links in
    let ahead = lookahead group p.links in
    let until = w.until in
    let is_open = is.is_open in
    let ends = same_end p m before edge is.comes in
    let fair = every_run_is_fair p m before edge is.is_scenario is.comes group in
    let done : (h : ℕ) → Done group until (group_at (fires group until is_open.firings is_open.start) h) =
    λ h. subst (λ (g : List GroupState). Done group until (group_at g h)) is_open.groups_are (done_at until w.groups all h) in
    let r : Comes group maker ahead until edge [] (fires group until is_open.firings is_open.start) =
    window group maker ahead until (length is_open.firings) is_open.firings edge [] is_open.start refl (below_end x edge w is_open maker ends fair) fair (initial_matches x edge w is_open maker) done in
    let matched : Matches group maker ahead until r.state r.more w.groups = subst (Matches group maker ahead until r.state r.more) (sym is_open.groups_are) r.matches in
    let tidy : Tidy r.state r.more = run_tidy group maker ahead r.n edge r.state [] r.more r.is_run fair record { sorted = tt; before = λ q v e. tt } in
    let lines : in_order (all_lines w.groups) ≡ r.more = lines_of_all group maker ahead until r.state r.more w.groups matched tidy.sorted in
    let many : length (in_order (all_lines w.groups)) ≡ r.n = ap length lines ∙ run_length r.n edge r.state r.more r.is_run in
    let both : (r.more, r.state) ≡ (in_order (all_lines w.groups), after) = same_some (r.more, r.state) (in_order (all_lines w.groups), after) (sym r.is_run ∙ sym (ap (run edge) many) ∙ is_run) in
    let late : IsLate (get after.pending) until = subst (λ (t : State). IsLate (get t.pending) until) (ap (λ (q : List TraceLine × State). q.1) both) r.late in
    late_none until after.pending late

no_lines : (group : ℕ → ℕ) (held : Events) (n : ℕ) (groups : List GroupState) → none_fired (map (delivered_to group held) (enumerate_from n groups)) ≡ true
no_lines group held n [] = refl
no_lines group held n (g ∷ groups) = no_lines group held (n + 1) groups

-- what a turn gives
turned : (x : Setting) (w : WindowState) (v : WindowState × List TraceLine) → moved x w Turn ≡ Some v → v ≡ (opened x (groups_delivered x.group w.groups), in_order (all_lines w.groups))
turned x w v e = go (all_done w.until w.groups) e
  where
    go : (b : Bool) → cond b (Some (opened x (groups_delivered x.group w.groups), in_order (all_lines w.groups))) None ≡ Some v → v ≡ (opened x (groups_delivered x.group w.groups), in_order (all_lines w.groups))
    go true f = sym (same_some _ v f)
    go false f = absurd (not_some f)

-- after a turn the window is at its edge
pub turned_edge : (w u : WindowValue) (batch : BatchValue) → w.out ≡ false → HasTurned w batch u → IsAtEdge u
turned_edge w u batch inside has =
    let t = turned (setting_in w) (machine_of w) (machine_of u, batch.lines) has.moved_on in
    let machine : machine_of u ≡ opened (setting_in w) (groups_delivered (group_in w.entries) (states_of w.groups)) = ap (λ (p : WindowState × List TraceLine). p.0) t in
    let groups : states_of u.groups ≡ groups_delivered (group_in w.entries) (states_of w.groups) = ap (λ (m : WindowState). m.groups) machine in
    let setting : setting_in u ≡ setting_in w = ap setting_in has.rest in
    record {
      inside = ap (λ (x : WindowValue). x.out) has.rest ∙ inside;
      unfired = ap none_fired groups ∙ no_lines (group_in w.entries) (all_held (states_of w.groups)) 0 (states_of w.groups);
      until = ap (λ (m : WindowState). m.until) machine ∙ ap (window_end (setting_in w)) (sym groups) ∙ ap (λ (x : Setting). window_end x (states_of u.groups)) (sym setting);
    }

pub turned_stays : (w u : WindowValue) (batch : BatchValue) → HasTurned w batch u → StaysNet w u
turned_stays w u batch has = record { entries = ap (λ (x : WindowValue). x.entries) has.rest; ahead = ap (λ (x : WindowValue). x.ahead) has.rest; end = ap (λ (x : WindowValue). x.end) has.rest }

module _ (v w u : WindowValue) (until : ℕ) (batch : BatchValue) (at : IsAtEdge v) (is : IsWindow v) (by : IsDoneBy until v w) (has : HasTurned w batch u)
    (gone : (edge : State) → IsFrom edge w → HasGoneOn edge batch.lines u) (below : AreBelow w.until batch.lines) where
  lines_are : batch.lines ≡ in_order (all_lines (states_of w.groups))
  lines_are = ap (λ (p : WindowState × List TraceLine). p.1) (turned (setting_in w) (machine_of w) (machine_of u, batch.lines) has.moved_on)

  unfired : none_fired (states_of u.groups) ≡ true
  unfired = (turned_edge w u batch by.inside has).unfired

  from_edge : IsFrom is.edge w
  from_edge = by.from is.edge is.from

  after : HasGoneOn is.edge batch.lines u
  after = gone is.edge from_edge

  was : edge_of v ≡ is.edge
  was = edge_is v is.edge is.from at.unfired

  now_is : edge_of u ≡ after.state
  now_is = edge_is u after.state after.from unfired

  -- the net has no event left below the window's end
  pub left_none : NoneBelow (min v.until until) (edge_of u)
  left_none =
      let ran : run is.edge (length (in_order (all_lines (states_of w.groups)))) ≡ Some (in_order (all_lines (states_of w.groups)), after.state) =
      subst (λ (ls : List TraceLine). run is.edge (length ls) ≡ Some (ls, after.state)) lines_are after.is_run in
      let none : NoneBelow w.until after.state =
      none_left from_edge.scenario (group_in w.entries) w.position from_edge.before is.edge (machine_of w) from_edge.in_run by.done after.state ran in
      let to : NoneBelow (min v.until until) after.state = subst (λ (e : ℕ). NoneBelow e after.state) by.end_is none in
      subst (NoneBelow (min v.until until)) (sym now_is) to

  -- the turn's lines are of events below it
  pub turned_below : AreBelow (min v.until until) batch.lines
  turned_below = subst (λ (e : ℕ). AreBelow e batch.lines) by.end_is below

  -- and it went on by them
  pub went_on : GoesOn (reached_in v) batch (reached_in u)
  went_on = record {
    first = has.first ∙ ap (λ n. n + 1) by.position;
    is_run =
        ap (λ s. run s (length batch.lines)) was
        ∙ after.is_run
        ∙ ap (λ s. Some (batch.lines, s)) (sym now_is);
    position = has.position ∙ ap (λ n. n + length batch.lines) by.position;
    whole = (min v.until until, record { early = turned_below; none_left = left_none });
  }

pub stays_both : (a b c : WindowValue) → StaysNet a b → StaysNet b c → StaysNet a c
stays_both a b c s t = record { entries = t.entries ∙ s.entries; ahead = t.ahead ∙ s.ahead; end = t.end ∙ s.end }
