-- The canonical text of a scenario.
use Rattle.std.specs.Prelude.{ℕ, List, ◌∷◌, ◌++◌, map, flat_map}
use Rattle.std.specs.List.{enumerate_from}
use Rattle.scenario_image.specs.Scenario.{IsScenario}
use Rattle.scenario_image.specs.declared.parts.NodeKind.{NodeKind}
use Rattle.scenario_image.specs.declared.parts.LinkPart.{LinkPart}
use Rattle.scenario_image.specs.declared.parts.FlowPart.{FlowPart}
use Rattle.scenario_image.specs.declared.parts.RoutePart.{RoutePart}
use Rattle.scenario_image.specs.declared.parts.ScenarioParts.{ScenarioParts}
use Rattle.scenario_asm.specs.declared.statement.LinkLine.{LinkLine}
use Rattle.scenario_asm.specs.declared.statement.Statement.{Statement}
use Rattle.scenario_asm.specs.declared.statement.Statement.TheVariants.{Sim, Node, Link, Flow, Route, Lose}
use Rattle.scenario_asm.specs.Spelling.{node_label, link_label, flow_label, text_for}
use Rattle.scenario_asm.specs.Meaning.{MeansScenario}

-- what a `link` says of a link: all but the packets that it loses
abbrev pub line_of_link : LinkPart → LinkLine
line_of_link link = record { from = link.from; to = link.to; rate = link.rate; delay = link.delay; queue = link.queue; capacity = link.capacity }

-- the nodes, numbered from the first number on and named by their numbers
abbrev pub node_statements : ℕ → List NodeKind → List Statement
node_statements first kinds = map (λ numbered. Node (node_label numbered.0) numbered.1) (enumerate_from first kinds)

-- the links likewise
abbrev pub link_statements : ℕ → List LinkPart → List Statement
link_statements first links = map (λ numbered. Link (link_label numbered.0) (line_of_link numbered.1)) (enumerate_from first links)

-- the flows likewise
abbrev pub flow_statements : ℕ → List FlowPart → List Statement
flow_statements first flows = map (λ numbered. Flow (flow_label numbered.0) numbered.1) (enumerate_from first flows)

-- the routes, in their order, which rises by router and destination
abbrev pub route_statements : List RoutePart → List Statement
route_statements routes = map (λ route. Route route) routes

-- the packets that a link loses, in their order, which rises
abbrev pub numbers_lost : ℕ → List ℕ → List Statement
numbers_lost link numbers = map (λ number. Lose (record { link = link; number = number })) numbers

-- the packets that the links lose, by link and number
abbrev pub lose_statements : ℕ → List LinkPart → List Statement
lose_statements first links = flat_map (λ numbered. numbers_lost numbered.0 numbered.1.lose) (enumerate_from first links)

-- a scenario's statements in their order: the end, all nodes, links and flows, then the routes and what is lost
abbrev pub statements_for : ScenarioParts → List Statement
statements_for parts =
    Sim parts.end ∷ (node_statements 0 parts.nodes ++ (link_statements 0 parts.links ++ (flow_statements 0 parts.flows ++ (route_statements parts.routes ++ lose_statements 0 parts.links))))

-- the one canonical text of a scenario
abbrev pub canonical_text : ScenarioParts → List ℕ
canonical_text parts = text_for (statements_for parts)

-- the canonical text of each scenario means that scenario
abbrev pub CanonicalTextsMeanTheirScenarios : Type 0
CanonicalTextsMeanTheirScenarios = (parts : ScenarioParts) → IsScenario parts → MeansScenario (canonical_text parts) parts
