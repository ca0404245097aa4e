-- The nodes of a run are joined by the scenario's links, once what each link has sent has come to its end.
use Rattle.std.proofs.Common.{◌≡◌, ℕ, ◌<◌, ◌≤◌, List, [], length, map, replicate, sym, ap, subst, ◌∙◌, ⊎_elim}
use Rattle.std.proofs.lemmas.Bool.{cases_lt}
use Rattle.std.proofs.lemmas.List.{length-map}
use Rattle.std.proofs.Math.ListN.{get_or-map, get_or-eq_default}
use Rattle.scenario_image.specs.declared.parts.ScenarioParts.{ScenarioParts}
use Rattle.scenario_image.specs.Scenario.{IsScenario}
use Rattle.node_core.specs.Part.{LinkState, PartState, link_at, no_link}
use Rattle.node_core.specs.Node.{NodeState}
use Rattle.node_core.specs.TraceLine.{TraceLine}
use Rattle.table_run.specs.State.{part_at}
use Rattle.table_run.specs.Sound.{afresh}
use Rattle.table_run.specs.Laws.{ComesTo, IsSoundRun}
use Rattle.table_run.proofs.RunLaws.{sound_run}
use Rattle.packet_chain.specs.Stamped.{Stamped}
use Rattle.net_machine.specs.declared.places.LinkEnds.{LinkEnds}
use Rattle.net_machine.specs.NetOf.{IsNet, AreNetParts}
use Rattle.net_machine.specs.Nodes.{no_node, node_at, initial_nodes, net_state}
use Rattle.net_machine.specs.Wiring.{from_of, exit_of, to_of, IsJoined, IsWired}
use Rattle.net_machine.proofs.Opened.{node_count}
use Rattle.net_machine.proofs.OpenedWires.{links_of, past, opened_wired}

module _ (p : ScenarioParts) (is_scenario : IsScenario p) (n : ℕ) (lines : List TraceLine) (nodes : List NodeState) (end : ℕ) (comes : ComesTo p n lines (net_state nodes end)) where
  sound : IsSoundRun p lines (net_state nodes end)
  sound = sound_run p n lines (net_state nodes end) is_scenario comes

  pub size : length nodes ≡ length p.nodes
  size = sym (length-map nodes (λ (x : NodeState). x.part)) ∙ sound.sound.nodes_are

  part_is : (node : ℕ) → part_at (net_state nodes end) node ≡ (node_at nodes node).part
  part_is node = get_or-map (λ (x : NodeState). x.part) nodes node no_node

  -- a node's links are those of the initial state, used
  same_links : (node : ℕ) → map afresh (node_at nodes node).part.links ≡ (node_at (initial_nodes p) node).part.links
  same_links node =
      ⊎_elim
      (λ (under : node < length p.nodes). ap (λ (x : PartState). map afresh x.links) (sym (part_is node)) ∙ (sound.sound.each_node node under).its_links ∙ sym (links_of p is_scenario node under))
      (λ (over : length p.nodes ≤ node).
      ap (λ (x : NodeState). map afresh x.part.links) (get_or-eq_default nodes no_node (subst (λ m. m ≤ node) (sym size) over))
      ∙ sym (ap (λ (x : NodeState). x.part.links) (past p is_scenario node over)))
      (cases_lt node (length p.nodes))

  same_count : (node : ℕ) → length (node_at (initial_nodes p) node).part.links ≡ length (node_at nodes node).part.links
  same_count node = ap length (sym (same_links node)) ∙ length-map (node_at nodes node).part.links afresh

  same_link : (node index : ℕ) → link_at (node_at (initial_nodes p) node).part.links index ≡ afresh (link_at (node_at nodes node).part.links index)
  same_link node index = ap (λ (links : List LinkState). link_at links index) (sym (same_links node)) ∙ get_or-map afresh (node_at nodes node).part.links index no_link

  same_number : (node index : ℕ) → (link_at (node_at (initial_nodes p) node).part.links index).port.link ≡ (link_at (node_at nodes node).part.links index).port.link
  same_number node index = ap (λ (link : LinkState). link.port.link) (same_link node index)

  pub joined_wired : ((number : ℕ) → number < length p.links → IsJoined p.links nodes number) → IsWired p.links nodes
  joined_wired joined =
      let at_first = opened_wired p is_scenario in
      record {
        few = λ node. subst (λ m. m ≤ 16) (same_count node) (at_first.few node);
        exits = λ node index within.
            let old = at_first.exits node index (subst (λ m. index < m) (sym (same_count node)) within) in
            record {
              known = subst (λ m. m < length p.links) (same_number node index) old.known;
              from_here = ap (from_of p.links) (sym (same_number node index)) ∙ old.from_here;
              exit_here = ap (exit_of p.links) (sym (same_number node index)) ∙ old.exit_here;
            };
        wires = λ number under.
            let old = at_first.wires number under in
            let now = joined number under in
            record {
              leaves = sym (same_number (from_of p.links number) (exit_of p.links number)) ∙ old.leaves;
              ends = ap (λ (link : LinkState). link.to) (sym (same_link (from_of p.links number) (exit_of p.links number))) ∙ old.ends;
              within = subst (λ m. to_of p.links number < m) (node_count p ∙ sym size) old.within;
              entry = now.entry;
              over = now.over;
              came = now.came;
            };
      }

-- so parts make a net, and a net is taken into parts
pub net_of : (nodes : List NodeState) (links : List LinkEnds) (end position : ℕ) → AreNetParts nodes links end position → (out : List (List Stamped)) → out ≡ replicate 16 [] → IsNet nodes links out end position
net_of nodes links end position parts out empty = record {
  run = parts.run;
  placed = parts.placed;
  wired = joined_wired parts.run.scenario parts.run.is_scenario position parts.run.lines nodes end parts.run.is parts.joined;
  ends_are = parts.links_are;
  out_empty = empty;
}

pub parts_of_net : (nodes : List NodeState) (links : List LinkEnds) (out : List (List Stamped)) (end position : ℕ) → IsNet nodes links out end position → AreNetParts nodes links end position
parts_of_net nodes links out end position is = record {
  run = is.run;
  placed = is.placed;
  joined = λ number under. (let wire = is.wired.wires number under in record { entry = wire.entry; over = wire.over; came = wire.came });
  links_are = is.ends_are;
}
