-- How a net's state is stored.
use Rattle.std.specs.Prelude.{ℕ, List, refl}
use Rattle.std.specs.Coded.{Coded, code_by, coded×, coded_ℕ, coded_list}
use Rattle.node_core.specs.Pending.{Events}
use Rattle.node_core.specs.Part.{PartState}
use Rattle.node_core.specs.Codes.{events_code}
use Rattle.node_core.specs.NodeCode.{part_code, node_code}
use Rattle.node_core.specs.Node.{NodeState}
use Rattle.table_run.specs.State.{State}
use Rattle.net_machine.specs.Run.{Reached}

abbrev pub nodes_code : Coded (List NodeState)
nodes_code = coded_list node_code

abbrev pub state_code : Coded State
state_code =
    code_by (List PartState × (Events × ℕ)) (coded× (coded_list part_code) (coded× events_code coded_ℕ)) (λ s. (s.parts, (s.pending, s.end)))
    (λ t. record { parts = t.0; pending = t.1.0; end = t.1.1 }) (λ _. refl)

abbrev pub reached_code : Coded Reached
reached_code = code_by (State × ℕ) (coded× state_code coded_ℕ) (λ r. (r.state, r.position)) (λ t. record { state = t.0; position = t.1 }) (λ _. refl)
