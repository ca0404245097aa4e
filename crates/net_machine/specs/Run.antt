-- Which states a net can be in, and what a step does.
use Rattle.std.specs.Prelude.{◌≡◌, ℕ, ◌+◌, ◌≤◌, List, Option, None, Some}
use Rattle.sim_time.specs.declared.limits.TheConstants.{MOST_EVENTS}
use Rattle.scenario_image.specs.declared.parts.ScenarioParts.{ScenarioParts}
use Rattle.scenario_image.specs.Scenario.{IsScenario}
use Rattle.node_core.specs.TraceLine.{TraceLine}
use Rattle.table_run.specs.State.{State, step}
use Rattle.table_run.specs.Laws.{ComesTo}

-- a state, and how many events were run to it
pub record Reached : Type 0 where
  pub state : State
  pub position : ℕ

-- the state is that after so many steps from the initial state of some scenario
pub record IsRun (r : Reached) : Type 0 where
  pub scenario : ScenarioParts
  pub lines : List TraceLine
  pub is_scenario : IsScenario scenario
  pub position_fits : r.position ≤ MOST_EVENTS
  pub is : ComesTo scenario r.position lines r.state

-- what a step answers, and where it leaves the net
abbrev pub Stepped : Reached → Option TraceLine → Reached → Type 0
Stepped old None new = (step old.state ≡ None) × (new ≡ old)
Stepped old (Some line) new = (step old.state ≡ Some (line, new.state)) × (new.position ≡ old.position + 1)
