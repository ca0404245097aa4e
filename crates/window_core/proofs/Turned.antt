-- What a turn leaves: the window machine's, at the next state of the run.
use Rattle.std.proofs.Common.{◌≡◌, ◌≤◌, ◌<◌, ◌+◌, ℕ, List, [], ◌∷◌, ◌++◌, length, map, true, cond, Some, None, refl, sym, ap, subst, ◌∙◌, arith}
use Rattle.std.proofs.lemmas.List.{length-map}
use Rattle.std.specs.List.{enumerate_from}
use Rattle.sim_time.specs.declared.limits.TheConstants.{MOST_EVENTS}
use Rattle.node_core.specs.TraceLine.{TraceLine}
use Rattle.node_core.specs.Pending.{Events}
use Rattle.table_run.specs.State.{State, initial, run}
use Rattle.table_run.proofs.Runs.{run_add}
use Rattle.window_law.specs.Calls.{IsOpenFrom}
use Rattle.node_group.specs.Group.{GroupValue, state_of, came_in}
use Rattle.window_law.specs.Groups.{GroupState}
use Rattle.node_group.specs.Held.{wire_at}
use Rattle.line_merge.specs.Merged.{all_of}
use Rattle.net_partition.specs.Partition.{group_in}
use Rattle.window_core.specs.Turning.{from_group, to_group, HasHanded}
use Rattle.window_core.specs.Window.{WindowValue, value_at, states_of, machine_of, setting_in, IsSplit, IsFrom, IsWindow, IsPart, HasGoneOn, HasTurned}
use Rattle.window_law.specs.Windows.{Setting, AreBelow, all_done, all_lines, all_held, groups_delivered, delivered_to, in_order, opened, setting_of, window_end}
use Rattle.window_law.proofs.EveryRun.{turn_of}
use Rattle.window_core.proofs.Readings.{lines_of_groups}
use Rattle.window_core.proofs.TurnReady.{cleared}
use Rattle.window_core.proofs.Windowed.{bounded, same_states, value_map, group_below}

-- lines that are given count no more
helds_same : (n : ℕ) (groups : List GroupValue) → map (λ (s : GroupState). s.held) (states_of (map (cleared n) groups)) ≡ map (λ (s : GroupState). s.held) (states_of groups)
helds_same n [] = refl
helds_same n (g ∷ groups) = ap (λ (hs : List Events). (state_of g).held ∷ hs) (helds_same n groups)

given_from : (group : ℕ → ℕ) (held : Events) (n m : ℕ) (groups : List GroupValue) → map (delivered_to group held) (enumerate_from m (states_of (map (cleared n) groups))) ≡ map (delivered_to group held) (enumerate_from m (states_of groups))
given_from group held n m [] = refl
given_from group held n m (g ∷ groups) = ap (λ (ss : List GroupState). delivered_to group held (m, state_of g) ∷ ss) (given_from group held n (m + 1) groups)

same_delivered : (group : ℕ → ℕ) (n : ℕ) (groups : List GroupValue) → groups_delivered group (states_of (map (cleared n) groups)) ≡ groups_delivered group (states_of groups)
same_delivered group n groups =
    ap (λ (hs : List Events). map (delivered_to group (Rattle.tournament.specs.Gathered.gathered hs)) (enumerate_from 0 (states_of (map (cleared n) groups)))) (helds_same n groups)
    ∙ given_from group (all_held (states_of groups)) n 0 groups

-- each line of a turn is before the end of its window
pub lines_early : (v : WindowValue) → IsWindow v → all_done v.until (states_of v.groups) ≡ true → (lines : List TraceLine) → lines ≡ in_order (all_of (map (λ (g : GroupValue). g.lines) v.groups)) → AreBelow v.until lines
lines_early v is done lines lines_are =
    let t = turn_of is.from.scenario (group_in v.entries) v.position is.from.before is.edge (machine_of v) is.from.in_run done in
    subst (AreBelow v.until) (sym (lines_are ∙ ap in_order (sym (lines_of_groups v.groups)))) t.early

module _ (v : WindowValue) (is : IsWindow v) (done : all_done v.until (states_of v.groups) ≡ true) (count : ℕ) (fits : v.position + count ≤ MOST_EVENTS) (after : List GroupValue)
    (handed : HasHanded v.entries v.links (map (cleared (v.position + count)) v.groups) after) (until : ℕ) (until_is : until ≡ window_end (setting_in v) (states_of after)) where
  abbrev n : ℕ
  n = v.position + count

  abbrev mid : List GroupValue
  mid = map (cleared n) v.groups

  abbrev next : WindowValue
  next = record v { until = until; position = n; groups = map (bounded until) after }

  abbrev group : ℕ → ℕ
  group = group_in v.entries

  states_are : states_of next.groups ≡ groups_delivered group (states_of v.groups)
  states_are = same_states until after ∙ handed.states ∙ same_delivered group n v.groups

  until_there : until ≡ window_end (setting_in v) (groups_delivered group (states_of v.groups))
  until_there = until_is ∙ ap (window_end (setting_in v)) (handed.states ∙ same_delivered group n v.groups)

  machine_is : machine_of next ≡ opened (setting_in v) (groups_delivered group (states_of v.groups))
  machine_is = λ i. record { groups = states_are i; until = until_there i }

  many : length next.groups ≡ length v.groups
  many = length-map after (bounded until) ∙ handed.size ∙ length-map v.groups (cleared n)

  after_at : (h : ℕ) → h < length v.groups → value_at next.groups h ≡ bounded until (value_at after h)
  after_at h here = value_map (bounded until) after h (let size = handed.size in let all = length-map v.groups (cleared n) in omega (arith, here, size, all))

  in_range : (node : ℕ) → group node < length v.groups
  in_range node = let below = group_below v.entries node in let all = is.split.count in omega (arith, below, all)

  pub split_next : IsSplit next
  split_next = record {
    count = many ∙ is.split.count;
    parts = λ h under.
        let here : h < length v.groups = omega (arith, under, many) in
        let part = is.split.parts h here in
        let same = handed.same h in
        let old = value_map (cleared n) v.groups h here in
        subst (IsPart next h) (sym (after_at h here)) (record {
          number_is = ap (λ (g : GroupValue). g.number) same ∙ ap (λ (g : GroupValue). g.number) old ∙ part.number_is;
          entries_are = ap (λ (g : GroupValue). g.entries) same ∙ ap (λ (g : GroupValue). g.entries) old ∙ part.entries_are;
          links_are = ap (λ (g : GroupValue). g.links) same ∙ ap (λ (g : GroupValue). g.links) old ∙ part.links_are;
          until_is = refl;
          position_is = ap (λ (g : GroupValue). g.position) same ∙ ap (λ (g : GroupValue). g.position) old;
        });
    known = λ link under. let k = is.split.known link under in record { from = k.from; to = k.to };
    across = λ link under off.
        let t = to_group v.entries v.links link in
        let f = from_group v.entries v.links link in
        ap (λ (g : GroupValue). came_in g link) (after_at t (in_range (Rattle.net_machine.specs.Wiring.place_at v.links link).node))
        ∙ handed.across link under off
        ∙ sym (ap (λ (g : GroupValue). (wire_at g.held link).taken) (after_at f (in_range (Rattle.net_machine.specs.Wiring.ends_at v.links link).from)));
    fits = fits;
  }

  module _ (lines : List TraceLine) (lines_are : lines ≡ in_order (all_of (map (λ (g : GroupValue). g.lines) v.groups))) (lines_many : length lines ≡ count) where
    lines_all : lines ≡ in_order (all_lines (states_of v.groups))
    lines_all = lines_are ∙ ap in_order (sym (lines_of_groups v.groups))

    pub gone_on : (edge : State) → IsFrom edge v → HasGoneOn edge lines next
    gone_on edge from =
        let x = setting_of group from.scenario in
        let same : setting_in v ≡ x = λ i. record { group = group; ahead = from.ahead_is i; end = from.end_is i } in
        let t = turn_of from.scenario group v.position from.before edge (machine_of v) from.in_run done in
        let ran : run edge (length lines) ≡ Some (lines, t.state) = subst (λ ls. run edge (length ls) ≡ Some (ls, t.state)) (sym lines_all) t.is_run in
        record {
          state = t.state;
          is_run = ran;
          from = record {
            scenario = from.scenario;
            before = from.before ++ lines;
            in_run = record {
              is_scenario = from.in_run.is_scenario;
              comes = ap (λ m. run (initial from.scenario) (v.position + m)) (sym lines_many) ∙ run_add (initial from.scenario) edge t.state v.position (length lines) from.before lines from.in_run.comes ran;
              is_open = subst (IsOpenFrom x t.state) (sym (machine_is ∙ ap (λ (y : Setting). opened y (groups_delivered group (states_of v.groups))) same)) t.is_open;
            };
            links_are = from.links_are;
            ahead_is = from.ahead_is;
            end_is = from.end_is;
          };
        }

    pub window_next : IsWindow next
    window_next = let on = gone_on is.edge is.from in record { split = split_next; edge = on.state; from = on.from }

    pub has_turned : HasTurned v (record { first = v.position + 1; lines = lines }) next
    has_turned = record {
      moved_on = ap (λ b. cond b (Some (opened (setting_in v) (groups_delivered group (states_of v.groups)), in_order (all_lines (states_of v.groups)))) None) done
          ∙ (λ i. Some (sym machine_is i, sym lines_all i));
      first = refl;
      position = ap (λ m. v.position + m) (sym lines_many);
      rest = refl;
    }
