-- The net by groups, on a scenario's run.
use Rattle.std.proofs.Common.{◌≡◌, ◌≤◌, ◌+◌, ℕ, List, ◌++◌, length, Option, Some, Result, Ok, IfOk, true, refl, sym, ap, subst, ◌∙◌, arith}
use Rattle.sim_time.specs.declared.limits.TheConstants.{MOST_EVENTS}
use Rattle.scenario_image.specs.declared.parts.ScenarioParts.{ScenarioParts}
use Rattle.scenario_image.specs.Scenario.{IsScenario}
use Rattle.node_core.specs.TraceLine.{TraceLine}
use Rattle.table_run.specs.State.{State, initial, run}
use Rattle.table_run.specs.Laws.{ComesTo}
use Rattle.table_run.proofs.Runs.{run_add}
use Rattle.table_run.proofs.RunLaws.{sound_run}
use Rattle.net_machine.specs.Run.{Reached}
use Rattle.window_core.specs.Batches.{BatchValue}
use Rattle.window_core.specs.Lookahead.{lookahead}
use Rattle.window_core.specs.Partition.{group_in, groups_of}
use Rattle.window_core.specs.Sheaves.{SheafValue}
use Rattle.window_core.specs.Window.{WindowValue, IsFrom, states_of}
use Rattle.window_core.specs.Windows.{none_fired}
use Rattle.window_engine.specs.declared.run_state.RunState.{RunState}
use Rattle.window_engine.specs.RunStates.{AtRest, HasGroups, RunsIn}
use Rattle.window_workers.specs.Edges.{IsAtEdge, StaysNet, edge_of, reached_in}
use Rattle.window_engine.specs.Engines.{GoesOn}
use Rattle.window_engine.proofs.Between.{net_is, opened_net}
use Rattle.window_workers.proofs.Edge.{edge_is}

-- a state of a scenario's run has its nodes
pub nodes_at : (p : ScenarioParts) (n : ℕ) (before : List TraceLine) (s : State) → IsScenario p → ComesTo p n before s → length s.parts ≡ length p.nodes
nodes_at p n before s is comes = (sound_run p n before s is comes).sound.nodes_are

-- a window that opened at a net has its groups
pub begun_groups : (w : WindowValue) (net : Reached) (groups : List ℕ) → IsFrom net.state w → none_fired (states_of w.groups) ≡ true → w.entries ≡ groups → length groups ≡ length net.state.parts → RunsIn groups w.ahead (reached_in w)
begun_groups w net groups from none entries size = record {
  scenario = from.scenario;
  before = from.before;
  is_scenario = from.in_run.is_scenario;
  comes = subst (λ (s : State). ComesTo from.scenario w.position from.before s) (sym (edge_is w net.state from none)) from.in_run.comes;
  nodes = size ∙ nodes_at from.scenario w.position from.before net.state from.in_run.is_scenario from.in_run.comes;
  ahead_is = from.ahead_is ∙ ap (λ (l : List ℕ). lookahead (group_in l) from.scenario.links) entries;
}

-- a copy is what was copied
pub same_copy : {E : Type 0} (r : Result (List ℕ) E) (x y : List ℕ) → r ≡ Ok x → r ≡ Ok y → x ≡ y
same_copy r x y was is = subst (λ r. IfOk r (λ l. l ≡ y)) was (subst (λ r. IfOk r (λ l. l ≡ y)) (sym is) refl)

-- after more events it has them still
pub runs_on : (groups : List ℕ) (ahead : Option ℕ) (from to : Reached) (lines : List TraceLine) → RunsIn groups ahead from → run from.state (length lines) ≡ Some (lines, to.state) → to.position ≡ from.position + length lines → RunsIn groups ahead to
runs_on groups ahead from to lines r is_run at = record {
  scenario = r.scenario;
  before = r.before ++ lines;
  is_scenario = r.is_scenario;
  comes = subst (λ (n : ℕ). ComesTo r.scenario n (r.before ++ lines) to.state) (sym at) (run_add (initial r.scenario) from.state to.state from.position (length lines) r.before lines r.comes is_run);
  nodes = r.nodes;
  ahead_is = r.ahead_is;
}

-- a run state after a window
pub groups_on : (c d : RunState) (lines : List TraceLine) → HasGroups c → d ≡ record c { window = d.window; position = d.position; sheaf = d.sheaf } → StaysNet c.window d.window
    → run (edge_of c.window) (length lines) ≡ Some (lines, edge_of d.window) → d.window.position ≡ c.window.position + length lines → HasGroups d
groups_on c d lines has kept stays is_run at =
    let groups : d.groups ≡ c.groups = ap (λ (x : RunState). x.groups) kept in
    let ahead : d.ahead ≡ c.ahead = ap (λ (x : RunState). x.ahead) kept in
    let there = reached_in d.window in
    let r = runs_on c.groups c.ahead (reached_in c.window) there lines has.run is_run at in
    record {
      run = subst (λ (g : List ℕ). RunsIn g d.ahead there) (sym groups) (subst (λ (a : Option ℕ). RunsIn c.groups a there) (sym ahead) r);
      apart = (stays.entries ∙ has.apart.0 ∙ sym groups, stays.ahead ∙ has.apart.1 ∙ sym ahead);
    }

-- a window that opened on a net has it
pub opened_reached : (w : WindowValue) (net : Reached) → IsFrom net.state w → w.position ≡ net.position → none_fired (states_of w.groups) ≡ true → reached_in w ≡ net
opened_reached w net from at unfired = sym (net_is w net.position (sym at)) ∙ opened_net w net from unfired

-- a net has as many nodes as groups are named for
pub nodes_there : (groups : List ℕ) (ahead : Option ℕ) (net : Reached) → RunsIn groups ahead net → length groups ≡ length net.state.parts
nodes_there groups ahead net r = r.nodes ∙ sym (nodes_at r.scenario net.position r.before net.state r.is_scenario r.comes)

-- between the groups that were asked for the least delay is that of the run's beginning
pub same_ahead : (groups : List ℕ) (ahead between : Option ℕ) (net : Reached) → RunsIn groups ahead net
    → ((p : ScenarioParts) (before : List TraceLine) → IsScenario p → ComesTo p net.position before net.state → between ≡ lookahead (group_in groups) p.links) → between ≡ ahead
same_ahead groups ahead between net r gives = gives r.scenario r.before r.is_scenario r.comes ∙ sym r.ahead_is

-- a sheaf says nothing of groups
pub groups_kept : (c : RunState) (s : SheafValue) → HasGroups c → HasGroups (record c { sheaf = s })
groups_kept c s has = record { run = has.run; apart = has.apart }

-- an engine after a window
pub ran_on : (c d : RunState) (batch : BatchValue) → AtRest c → HasGroups c → d ≡ record c { window = d.window; position = d.position; sheaf = d.sheaf } → StaysNet c.window d.window
    → IsAtEdge d.window → GoesOn (reached_in c.window) batch (reached_in d.window) → d.position ≡ d.window.position → d.window.position ≤ MOST_EVENTS → AtRest d × HasGroups d
ran_on c d batch was has kept stays edge gone at few =
    let later : d.end ≡ c.end = ap (λ (x : RunState). x.end) kept in (
      record {
        edge = edge;
        committed = at;
        few = omega (arith, at, few);
        end = later ∙ was.end ∙ sym stays.end;
        groups = subst (λ (l : List ℕ). groups_of l ≤ 64) (sym stays.entries) was.groups;
      },
      groups_on c d batch.lines has kept stays gone.is_run gone.position,
    )
