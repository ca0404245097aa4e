-- What statements say together: the k-th statement of each sort, from 0, is number k.
use Rattle.std.specs.Prelude.{ℕ, ◌==◌, List, map, Option, Some, None, if◌then◌else◌, option_map}
use Rattle.std.specs.Option.{option_or}
use Rattle.std.specs.List.{filter_map, enumerate_from, list_any, position_from}
use Rattle.std.specs.Str.{bytes_eq}
use Rattle.scenario_image.specs.declared.parts.NodeKind.{NodeKind}
use Rattle.scenario_image.specs.declared.parts.LinkPart.{LinkPart}
use Rattle.scenario_image.specs.declared.parts.FlowPart.{FlowPart}
use Rattle.scenario_image.specs.declared.parts.RoutePart.{RoutePart}
use Rattle.scenario_image.specs.declared.parts.ScenarioParts.{ScenarioParts}
use Rattle.scenario_asm.specs.declared.table.Item.{Item}
use Rattle.scenario_asm.specs.declared.table.Item.TheVariants.{Node as node_item, Link as link_item, Flow as flow_item}
use Rattle.scenario_asm.specs.declared.statement.LinkLine.{LinkLine}
use Rattle.scenario_asm.specs.declared.statement.Statement.{Statement}
use Rattle.scenario_asm.specs.declared.statement.Statement.TheVariants.{Sim, Node, Link, Flow, Route, Lose}
use Rattle.scenario_asm.specs.Lines.{Word}
use Rattle.scenario_asm.specs.Names.{Known, known_parts}
use Rattle.scenario_asm.specs.Routes.{rising}

-- the end that a statement says
abbrev pub said_end : Statement → Option ℕ
said_end (Sim end) = Some end
said_end _ = None

-- the name of the node that a statement declares
abbrev pub node_name : Statement → Option Word
node_name (Node name kind) = Some name
node_name _ = None

-- what the node does that a statement declares
abbrev pub node_kind : Statement → Option NodeKind
node_kind (Node name kind) = Some kind
node_kind _ = None

-- the name of the link that a statement declares
abbrev pub link_name : Statement → Option Word
link_name (Link name link) = Some name
link_name _ = None

-- the link that a statement declares
abbrev pub link_line : Statement → Option LinkLine
link_line (Link name link) = Some link
link_line _ = None

-- the name of the flow that a statement declares
abbrev pub flow_name : Statement → Option Word
flow_name (Flow name flow) = Some name
flow_name _ = None

-- the flow that a statement declares
abbrev pub flow_part : Statement → Option FlowPart
flow_part (Flow name flow) = Some flow
flow_part _ = None

-- the route that a statement declares
abbrev pub route_part : Statement → Option RoutePart
route_part (Route route) = Some route
route_part _ = None

-- the packet of this link that a statement says to be lost
abbrev pub lost_number : ℕ → Statement → Option ℕ
lost_number link (Lose lose) = if lose.link == link then Some lose.number else None
lost_number link _ = None

-- the packets of this link that statements say to be lost, in their order
abbrev pub lost_numbers : ℕ → List Statement → List ℕ
lost_numbers link statements = filter_map (lost_number link) statements

-- a link that loses these packets
abbrev pub losing_link_part : LinkLine → List ℕ → LinkPart
losing_link_part link lose = record { from = link.from; to = link.to; rate = link.rate; delay = link.delay; queue = link.queue; capacity = link.capacity; lose = lose }

-- the links of these lines, numbered from the first number on, each with what statements say to be lost of it
abbrev pub numbered_links : ℕ → List LinkLine → List Statement → List LinkPart
numbered_links first lines statements = map (λ numbered. losing_link_part numbered.1 (lost_numbers numbered.0 statements)) (enumerate_from first lines)

-- the links that statements declare
abbrev pub links_of : List Statement → List LinkPart
links_of statements = numbered_links 0 (filter_map link_line statements) statements

-- the routes that statements declare, rising by router and destination
abbrev pub routes_of : List Statement → List RoutePart
routes_of statements = rising (filter_map route_part statements)

-- the number that a name has among those of its sort
abbrev pub number_among : List Word → Word → Option ℕ
number_among names word = position_from (λ name. bytes_eq name word) 0 names

-- what a name is that is among those of the flows
abbrev pub flow_among : List Word → Word → Option Item
flow_among names word = if list_any (λ name. bytes_eq name word) names then Some flow_item else None

-- what a word is the name of, by the names of the nodes, of the links and of the flows
abbrev pub items_by : List Word → List Word → List Word → Word → Option Item
items_by nodes links flows word =
    option_or (option_map (λ number. node_item number) (number_among nodes word)) (option_or (option_map (λ number. link_item number) (number_among links word)) (flow_among flows word))

-- what statements declare a name to be
abbrev pub item_of : List Statement → Word → Option Item
item_of statements = items_by (filter_map node_name statements) (filter_map link_name statements) (filter_map flow_name statements)

-- what statements declare
abbrev pub known_of : List Statement → Known
known_of statements =
    record { item = item_of statements; kinds = filter_map node_kind statements; links = links_of statements; flows = filter_map flow_part statements; routes = routes_of statements }

-- what statements say of a scenario, with this end
abbrev pub parts_of_statements : ℕ → List Statement → ScenarioParts
parts_of_statements end statements = known_parts end (known_of statements)
