-- The canonical text of a scenario means it.
use Rattle.std.proofs.Common.{◌≡◌, ◌≤◌, ℕ, true, false, List, [], ◌∷◌, ◌++◌, length, map, Option, Some, None, is_some, option_map, ap, sym, ◌∙◌, refl, subst, arith, append_assoc}
use Rattle.std.specs.List.{filter_map, slice_get, slice_index_or, All}
use Rattle.std.proofs.lemmas.Bool.{eq-eqb}
use Rattle.std.proofs.lemmas.List.{append-nil, length-map}
use Rattle.std.proofs.lemmas.Option.{slice_get-map}
use Rattle.scenario_image.specs.Scenario.{IsScenario}
use Rattle.scenario_image.specs.declared.parts.NodeKind.{NodeKind}
use Rattle.scenario_image.specs.declared.parts.NodeKind.TheVariants.{Sender, Receiver, Router}
use Rattle.scenario_image.specs.declared.parts.LinkPart.{LinkPart}
use Rattle.scenario_image.specs.declared.parts.ScenarioParts.{ScenarioParts}
use Rattle.scenario_asm.specs.declared.statement.Statement.{Statement}
use Rattle.scenario_asm.specs.declared.statement.Statement.TheVariants.{Sim}
use Rattle.scenario_asm.specs.Lines.{lines_of_text}
use Rattle.scenario_asm.specs.Names.{Known, is_end, is_from, known_parts}
use Rattle.scenario_asm.specs.Text.{said_end, known_of, parts_of_statements}
use Rattle.scenario_asm.specs.Meaning.{AreRead, MeansScenario}
use Rattle.scenario_asm.specs.Spelling.{line_for, text_for}
use Rattle.scenario_asm.specs.CanonicalText.{node_statements, link_statements, flow_statements, route_statements, lose_statements, statements_for, CanonicalTextsMeanTheirScenarios}
use Rattle.scenario_asm.proofs.Restated.{Stands, IsRouteFine, bare, same_stands, said_back, sim_stands}
use Rattle.scenario_asm.proofs.Sections.{HasRoom, IsFlowFine, nodes_stand, links_stand, flows_stand, routes_stand, losses_stand}
use Rattle.scenario_asm.proofs.Numbered.{is_there}

-- a node that is no router is an end
end_of : (o : Option NodeKind) → is_some o ≡ true → (o ≡ Some Router → ⊥) → is_end o ≡ true
end_of (Some Sender) some other = refl
end_of (Some Receiver) some other = refl
end_of (Some Router) some other = absurd (other refl)
end_of None some other = absurd (let never : false ≡ true = some in cc)

-- a link that leaves a node, whatever it loses
same_node : (m n : ℕ) → ◌≡◌ {A = Option ℕ} (Some m) (Some n) → m ≡ n
same_node m n is = cc

none_not : (n : ℕ) → ◌≡◌ {A = Option ℕ} None (Some n) → ⊥
none_not n is = cc

from_of : (node : ℕ) (o : Option LinkPart) → option_map (λ link. link.from) o ≡ Some node → is_from node (option_map bare o) ≡ true
from_of node (Some part) is = eq-eqb part.from node (same_node part.from node is)
from_of node None is = absurd (none_not node is)

-- what is asked of the flows and the routes of a scenario
flows_fine : (parts : ScenarioParts) → IsScenario parts → All (IsFlowFine parts.nodes parts.end) parts.flows
flows_fine parts right =
    λ k d lt. record { limits = right.in_limits.each_flow k d lt; sender = (right.kinds.each_flow k d lt).sender; receiver = (right.kinds.each_flow k d lt).receiver }

routes_fine : (parts : ScenarioParts) → IsScenario parts → All (IsRouteFine parts.nodes (map bare parts.links)) parts.routes
routes_fine parts right =
    λ k d lt.
    let route = slice_index_or parts.routes k d in
    let limits = right.in_limits.each_route k d lt in
    let kinds = right.kinds.each_route k d lt in
    record {
      router_within = limits.router_node;
      destination_within = limits.destination_node;
      link_within = omega (arith, limits.link_number, length-map parts.links bare);
      router = kinds.router;
      ends = end_of (slice_get parts.nodes route.destination) (is_there parts.nodes route.destination limits.destination_node) kinds.destination;
      leaves = ap (is_from route.router) (slice_get-map bare parts.links route.link) ∙ from_of route.router (slice_get parts.links route.link) kinds.leaves;
    }

room_of : (parts : ScenarioParts) → IsScenario parts → HasRoom parts.nodes parts.links
room_of parts right = λ node is. (right.ends node Router is).1

-- six lists in a row
in_a_row : (a b c d e f : List Statement) → ((((a ++ b) ++ c) ++ d) ++ e) ++ f ≡ a ++ (b ++ (c ++ (d ++ (e ++ f))))
in_a_row a b c d e f = rw (append_assoc (((a ++ b) ++ c) ++ d) e f, append_assoc ((a ++ b) ++ c) d (e ++ f), append_assoc (a ++ b) c (d ++ (e ++ f)), append_assoc a b (c ++ (d ++ (e ++ f)))) refl

-- the statements of a scenario are read, and declare it
scenario_stands : (parts : ScenarioParts) → IsScenario parts → Stands (parts.end ∷ []) (statements_for parts) parts.nodes parts.links parts.flows parts.routes
scenario_stands parts right =
    let limits = right.in_limits in
    let ends : List ℕ = parts.end ∷ [] in
    let counts = limits.counts in
    let few : length parts.nodes ≤ 256 = counts.node_count.1 in
    let less : length parts.links ≤ 1024 = counts.link_count.1 in
    let n : List Statement = node_statements 0 parts.nodes in
    let l : List Statement = link_statements 0 parts.links in
    let f : List Statement = flow_statements 0 parts.flows in
    let r : List Statement = route_statements parts.routes in
    let x : List Statement = lose_statements 0 parts.links in
    let a : List Statement = Sim parts.end ∷ [] in
    let links : List LinkPart = map bare parts.links in
    let end = sim_stands parts.end limits.end_range in
    let nodes = nodes_stand ends a [] parts.nodes [] [] [] 0 refl end (omega arith) in
    let linked = links_stand ends (a ++ n) parts.nodes [] parts.links [] [] 0 refl nodes few (omega arith) limits.each_link right.kinds.each_link (room_of parts right) in
    let flows = flows_stand ends ((a ++ n) ++ l) parts.nodes links [] parts.flows [] parts.end 0 refl linked limits.end_range.1 few (omega (arith, counts.flow_count.1)) (flows_fine parts right) in
    let routes = routes_stand ends (((a ++ n) ++ l) ++ f) parts.nodes links parts.flows [] parts.routes flows few (omega (arith, length-map parts.links bare)) (routes_fine parts right) limits.routes_rise in
    let losses = losses_stand ends ((((a ++ n) ++ l) ++ f) ++ r) parts.nodes [] parts.links parts.flows parts.routes 0 refl routes (omega arith) (λ k d lt. (limits.each_link k d lt).lose_limits) in
    same_stands ends _ _ _ _ _ _ _ _ _ _ (in_a_row a n l f r x) refl refl refl refl losses

-- parts that are known are the parts
parts_known : (parts : ScenarioParts) (known : Known) → known.kinds ≡ parts.nodes → known.links ≡ parts.links → known.flows ≡ parts.flows → known.routes ≡ parts.routes → parts ≡ known_parts parts.end known
parts_known parts known kinds links flows routes = rw (kinds, links, flows, routes) refl

means_of : (parts : ScenarioParts) (statements : List Statement) → Stands (parts.end ∷ []) statements parts.nodes parts.links parts.flows parts.routes → IsScenario parts → MeansScenario (text_for statements) parts
means_of parts statements stands right =
    let some : Statement → Option Statement = λ s. Some s in
    let lines : lines_of_text (text_for statements) ≡ map line_for statements = ap lines_of_text (sym (append-nil (text_for statements))) ∙ (stands.lines [] ∙ append-nil (map line_for statements)) in
    let Read : List (List ℕ) → Type 0 = λ l. AreRead l (map some statements) in
    let known = parts_known parts (known_of statements) stands.known.kinds_are stands.known.links_are stands.known.flows_are stands.known.routes_are in
    record {
      said = map some statements;
      all_read = subst Read (sym lines) stands.read;
      made =
          record {
            end = parts.end;
            one_end = record { one_end = ap (filter_map said_end) (said_back statements) ∙ stands.ends_are };
            parts_are = known ∙ ap (parts_of_statements parts.end) (sym (said_back statements));
            right = right;
          };
    }

pub canonical_meaning : CanonicalTextsMeanTheirScenarios
canonical_meaning parts right = means_of parts (statements_for parts) (scenario_stands parts right) right
