-- The laws of windows, for every run of every scenario.
use Rattle.std.proofs.Common.{◌≡◌, ◌≤◌, ◌<◌, ◌+◌, ℕ, List, [], ◌++◌, length, get_or, true, Option, Some, sym, ap, subst, ◌∙◌, ⊎_elim, arith}
use Rattle.std.proofs.lemmas.Bool.{cases_lt}
use Rattle.std.proofs.lemmas.List.{get_or_past}
use Rattle.std.specs.FinMap.{get}
use Rattle.sim_time.specs.declared.key.Key.{Key}
use Rattle.scenario_image.specs.declared.parts.ScenarioParts.{ScenarioParts}
use Rattle.tournament.proofs.Maps.{not_some, same_some}
use Rattle.node_core.specs.declared.event.Event.{Event}
use Rattle.node_core.specs.TraceLine.{TraceLine}
use Rattle.table_run.specs.State.{State, no_part, initial, due}
use Rattle.table_run.specs.Laws.{ComesTo}
use Rattle.table_run.proofs.Runs.{run_add, run_end}
use Rattle.table_run.proofs.Ends.{runs_end}
use Rattle.window_law.specs.Lookahead.{lookahead}
use Rattle.window_law.specs.Groups.{GroupState, no_group, group_at, up_to}
use Rattle.window_law.specs.Windows.{WindowState, Turn, all_done, in_order, all_lines, groups_delivered, opened, went, course_of, setting_of}
use Rattle.window_law.specs.Calls.{IsOpenFrom, IsTurned, IsInRun, TurnGivesTheRun, EachFiringIsOfTheRun}
use Rattle.window_law.specs.Schedules.{EveryScheduleGivesTheRun, EveryGroupIsTheRuns, EveryGroupIsAtAStep}
use Rattle.window_law.proofs.Due.{due_is}
use Rattle.window_law.proofs.Matches.{pending_under, held_under}
use Rattle.window_law.proofs.Alone.{times, fires_alone}
use Rattle.window_law.proofs.Calls.{many, nothing_due, below_end, initial_matches, turn_gives}
use Rattle.window_law.proofs.Caught.{Caught, goes_on, catch}
use Rattle.window_law.proofs.Fair.{maker_of, every_run_is_fair}
use Rattle.window_law.proofs.Schedules.{mid_of, law, between}

pub same_end : (p : ScenarioParts) (m : ℕ) (before : List TraceLine) (s : State) → ComesTo p m before s → s.end ≡ p.end
same_end p m before s e = run_end m (initial p) s before e

-- SCHEDULES

pub every_schedule_gives_the_run : EveryScheduleGivesTheRun
every_schedule_gives_the_run p m before s is_scenario e group groups st moves possible =
    let x = setting_of group p in
    let r = law x (maker_of p.links) s (same_end p m before s e) (every_run_is_fair p m before s is_scenario e group) groups st moves possible in
    let c = went x (course_of group p groups moves) Turn in
    record { state = r.state; comes = run_add (initial p) s r.state m (length c.given) before c.given e r.is_run; stands = r.stands }

pub every_group_is_the_runs : EveryGroupIsTheRuns
every_group_is_the_runs p m before s is_scenario e group groups st moves =
    between (setting_of group p) (maker_of p.links) s (same_end p m before s e) (every_run_is_fair p m before s is_scenario e group) groups st moves

-- WINDOWS

module _ (p : ScenarioParts) (group : ℕ → ℕ) (m : ℕ) (before : List TraceLine) (edge : State) (w : WindowState) (r : IsInRun p group m before edge w) where
  abbrev maker : Key → ℕ
  maker = maker_of p.links

  abbrev ahead : Option ℕ
  ahead = lookahead group p.links

  ends : edge.end ≡ p.end
  ends = same_end p m before edge r.comes

  pub turn_of : all_done w.until w.groups ≡ true → IsTurned (setting_of group p) edge w.until (in_order (all_lines w.groups)) (opened (setting_of group p) (groups_delivered group w.groups))
  turn_of all = turn_gives (setting_of group p) edge w r.is_open maker ends (every_run_is_fair p m before edge r.is_scenario r.comes group) all

  -- the run catches up with each group
  pub caught : (h : ℕ) → h < length w.groups → Caught group maker ahead w.until h (group_at w.groups h) edge []
  caught h l =
      let ended = runs_end p r.is_scenario in
      let on = goes_on (initial p) edge ended.last m ended.steps before ended.lines r.comes ended.comes ended.none_due in
      let inside : h < length r.is_open.start = (let size = many (setting_of group p) edge w r.is_open in omega (arith, l, size)) in
      catch group maker ahead w.until h (group_at w.groups h) on.n edge ended.last [] on.lines r.is_open.start on.is_run ended.none_due
      (below_end (setting_of group p) edge w r.is_open maker ends (every_run_is_fair p m before edge r.is_scenario r.comes group))
      (every_run_is_fair p m before edge r.is_scenario r.comes group)
      (initial_matches (setting_of group p) edge w r.is_open maker) inside (times group w.until h r.is_open.firings)
      (ap (λ (g : List GroupState). group_at g h) r.is_open.groups_are ∙ fires_alone group w.until h r.is_open.firings r.is_open.start inside)

pub turn_gives_the_run : TurnGivesTheRun
turn_gives_the_run p group m before edge w r all = turn_of p group m before edge w r all

-- a group that has an event is one of the window's
is_there : (until : ℕ) (groups : List GroupState) (h : ℕ) (k : Key) (v : Event) → due (up_to until (group_at groups h)) ≡ Some (k, v) → h < length groups
is_there until groups h k v e =
    ⊎_elim
    (λ (within : h < length groups). within)
    (λ (past : length groups ≤ h). absurd (not_some (sym (ap (λ (g : GroupState). due (up_to until g)) (get_or_past groups h no_group past) ∙ nothing_due until) ∙ e)))
    (cases_lt h (length groups))

pub each_firing_is_of_the_run : EachFiringIsOfTheRun
each_firing_is_of_the_run p group m before edge w r h k v e =
    let c = caught p group m before edge w r h (is_there w.until w.groups h k v e) in
    let there : get (group_at w.groups h).pending k ≡ Some v = (due_is w.until (group_at w.groups h).pending k v e).there in
    let own : group k.node ≡ h = c.matches.own h k v (ap (λ (g : GroupState). get g.pending k) (sym c.same) ∙ there) in
    let is : group_at c.groups h ≡ group_at w.groups h = sym c.same in
    record {
      steps = c.n;
      lines = c.more;
      state = c.state;
      is_run = c.is_run;
      early = c.early;
      is_due = c.next k v e;
      its_own = own;
      same_part = c.matches.parts k.node ∙ ap (λ (g : GroupState). get_or g.parts k.node no_part) (ap (group_at c.groups) own ∙ is);
      has = λ q u at. pending_under group (maker_of p.links) (lookahead group p.links) w.until c.state c.more c.groups c.matches h q u (ap (λ (g : GroupState). get g.pending q) is ∙ at);
      holds = λ q u at. held_under group (maker_of p.links) (lookahead group p.links) w.until c.state c.more c.groups c.matches h q u (ap (λ (g : GroupState). get g.held q) is ∙ at);
      lines_are = ap (λ (g : GroupState). g.lines) c.same ∙ c.matches.lines_are h;
    }

pub every_group_is_at_a_step : EveryGroupIsAtAStep
every_group_is_at_a_step p m before s is_scenario e group groups st moves b h l =
    let x = setting_of group p in
    let c = course_of group p groups moves in
    let mid = mid_of x (maker_of p.links) s (same_end p m before s e) (every_run_is_fair p m before s is_scenario e group) groups st moves in
    let same = same_some (c.given, mid.edge) (c.given, b.edge) (sym mid.is_run ∙ b.is_run) in
    let is_open : IsOpenFrom x b.edge c.window = subst (λ (q : List TraceLine × State). IsOpenFrom x q.1 c.window) same mid.is_open in
    let in_run : IsInRun p group (m + length c.given) (before ++ c.given) b.edge c.window = record { is_scenario = is_scenario; comes = run_add (initial p) s b.edge m (length c.given) before c.given e b.is_run; is_open = is_open } in
    let r = caught p group (m + length c.given) (before ++ c.given) b.edge c.window in_run h l in
    record { steps = r.n; lines = r.more; state = r.state; is_run = r.is_run; are_lines = (r.early, ap (λ (g : GroupState). g.lines) r.same ∙ r.matches.lines_are h) }
