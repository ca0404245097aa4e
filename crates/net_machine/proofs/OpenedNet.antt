-- A net is made of the nodes of a scenario at first and the ends of its links.
use Rattle.std.proofs.Common.{◌≡◌, ℕ, List, [], sym, subst, ap, ◌∙◌, Some, arith}
use Rattle.scenario_image.specs.declared.parts.ScenarioParts.{ScenarioParts}
use Rattle.scenario_image.specs.Scenario.{IsScenario}
use Rattle.node_core.specs.Node.{NodeState}
use Rattle.table_run.specs.State.{State, initial}
use Rattle.net_machine.specs.declared.places.LinkEnds.{LinkEnds}
use Rattle.net_machine.specs.Nodes.{initial_nodes, net_state, IsPlaced}
use Rattle.net_machine.specs.Wiring.{IsWired, AreEnds}
use Rattle.net_machine.specs.NetOf.{AreNetParts}
use Rattle.net_machine.proofs.Opened.{opened_placed, opened_state}
use Rattle.net_machine.proofs.OpenedWires.{nodes_senders, opened_wired}

module _ (p : ScenarioParts) (is_scenario : IsScenario p) (nodes : List NodeState) (nodes_are : nodes ≡ initial_nodes p) (end : ℕ) (end_is : end ≡ p.end) where
  pub state_is : net_state nodes end ≡ initial p
  state_is = (λ i. net_state (nodes_are i) (end_is i)) ∙ opened_state p (nodes_senders p is_scenario)

  pub opened_parts : (links : List LinkEnds) → AreEnds p.links links → AreNetParts nodes links end 0
  opened_parts links links_are =
      let wired = subst (IsWired p.links) (sym nodes_are) (opened_wired p is_scenario) in
      record {
        run = record { scenario = p; lines = []; is_scenario = is_scenario; position_fits = omega arith; is = ap (λ (s : State). Some ([], s)) (sym state_is) };
        placed = subst IsPlaced (sym nodes_are) (opened_placed p (nodes_senders p is_scenario));
        joined = λ number under. (let wire = wired.wires number under in record { entry = wire.entry; over = wire.over; came = wire.came });
        links_are = links_are;
      }
