-- What holds of the definitions, whatever the state.
use Rattle.std.specs.Prelude.{◌≡◌, ◌↔◌, ◌&&◌, ℕ, true, List, Some}
use Rattle.std.specs.FinMap as map
use Rattle.reno_sender.specs.declared.fields.SenderFields.{SenderFields}
use Rattle.scenario_image.specs.declared.parts.ScenarioParts.{ScenarioParts}
use Rattle.scenario_image.specs.Scenario.{IsScenario}
use Rattle.node_core.specs.TraceLine.{TraceLine}
use Rattle.table_run.specs.State.{State, step}
use Rattle.table_run.specs.Laws.{ComesTo}
use Rattle.flow_waits.specs.declared.flow_status.FlowStatus.{FlowStatus}
use Rattle.flow_waits.specs.declared.flow_status.FlowStatus.TheVariants.{Stalled}
use Rattle.flow_waits.specs.Stalled.{sender_of, start_due, has_packets, is_stalled, becomes_stalled, may_stall}
use Rattle.flow_waits.specs.FlowStatus.{flow_status_of}

-- how a flow stands in a state, by what its sender keeps
abbrev pub flow_status_in : ℕ → State → SenderFields → FlowStatus
flow_status_in flow state f = flow_status_of (start_due flow (map.entries state.pending)) (has_packets flow state.parts (map.entries state.pending)) f

-- of a flow that a node sends, it is told that it is stalled exactly where it is
abbrev pub StalledIsReported : Type 0
StalledIsReported = (flow : ℕ) (state : State) (f : SenderFields) → sender_of flow state.parts ≡ Some f → (flow_status_in flow state f ≡ Stalled) ↔ (is_stalled flow state ≡ true)

-- in every run a flow becomes stalled only by an event that leaves it with less that goes on with it, and by such an event wherever it is stalled afterwards
abbrev pub StallsAreFound : Type 0
StallsAreFound =
    (p : ScenarioParts) (n : ℕ) (lines : List TraceLine) (s t : State) (line : TraceLine) (flow : ℕ) → IsScenario p → ComesTo p n lines s → step s ≡ Some (line, t)
    → becomes_stalled flow s t ≡ (may_stall flow line.event line.acts && is_stalled flow t)
