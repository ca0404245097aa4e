-- The paths that packets take from one end of a flow to the other.
use Rattle.std.specs.Prelude.{◌≡◌, ℕ, zero, suc, ◌<◌, ◌==◌, ◌&&◌, if◌then◌else◌, Bool, List, Option, Some, IsSome}
use Rattle.std.specs.Option.{option_map, option_and_then}
use Rattle.std.specs.List.{slice_get, find, position}
use Rattle.scenario_image.specs.Ends.{leaves}
use Rattle.scenario_image.specs.Kinds.{IsNode, link_target}
use Rattle.scenario_image.specs.declared.parts.NodeKind.{NodeKind}
use Rattle.scenario_image.specs.declared.parts.NodeKind.TheVariants.{Sender, Receiver, Router}
use Rattle.scenario_image.specs.declared.parts.LinkPart.{LinkPart}
use Rattle.scenario_image.specs.declared.parts.FlowPart.{FlowPart}
use Rattle.scenario_image.specs.declared.parts.RoutePart.{RoutePart}
use Rattle.scenario_image.specs.declared.parts.ScenarioParts.{ScenarioParts}
use Rattle.scenario_image.specs.declared.paths.Path.{Path}
use Rattle.scenario_image.specs.declared.paths.PathOutcome.{PathOutcome}
use Rattle.scenario_image.specs.declared.paths.PathOutcome.TheVariants.{Ends, Breaks, Returns}

-- data goes from the sender to the receiver
abbrev pub data_path : FlowPart → Path
data_path flow = record { start = flow.sender; end = flow.receiver }

-- acknowledgements go from the receiver to the sender
abbrev pub ack_path : FlowPart → Path
ack_path flow = record { start = flow.receiver; end = flow.sender }

-- what holds of both paths of each flow
abbrev pub EachPath : ScenarioParts → (Path → Type 0) → Type 0
EachPath parts P = (number : ℕ) (flow : FlowPart) → slice_get parts.flows number ≡ Some flow → P (data_path flow) × P (ack_path flow)

-- the number of the link that leaves a node, the first where there are several
abbrev pub outgoing_link : List LinkPart → ℕ → Option ℕ
outgoing_link links node = position (leaves node) links

-- whether a route is a router's for a destination
abbrev pub is_route_for : ℕ → ℕ → RoutePart → Bool
is_route_for router destination route = (route.router == router) && (route.destination == destination)

-- the number of the link of a router's route for a destination
abbrev pub route_link : List RoutePart → ℕ → ℕ → Option ℕ
route_link routes router destination = option_map (λ route. route.link) (find (is_route_for router destination) routes)

-- the link that a path takes from a node: from its start the link there, from others that of the route for its end
abbrev pub hop_link : ScenarioParts → Path → ℕ → Option ℕ
hop_link parts path node = if node == path.start then outgoing_link parts.links node else route_link parts.routes node path.end

-- the node that a path comes to from a node
abbrev pub next_node : ScenarioParts → Path → ℕ → Option ℕ
next_node parts path node = option_and_then (link_target parts.links) (hop_link parts path node)

-- the node that a path is at after so many hops, where it goes so far
abbrev pub node_after_hops : ScenarioParts → Path → ℕ → Option ℕ
node_after_hops parts path zero = Some path.start
node_after_hops parts path (suc hops) = option_and_then (next_node parts path) (node_after_hops parts path hops)

-- a path may come to a node of this kind: to a router with a route for the path's end, and to no sender or receiver but its end
abbrev pub MayComeTo : ScenarioParts → Path → ℕ → NodeKind → Type 0
MayComeTo parts path node Sender = node ≡ path.end
MayComeTo parts path node Receiver = node ≡ path.end
MayComeTo parts path node Router = IsSome (route_link parts.routes node path.end)

-- a path may come to a node, of whichever kind it is
abbrev pub MayPass : ScenarioParts → Path → ℕ → Type 0
MayPass parts path node = (kind : NodeKind) → IsNode parts kind node → MayComeTo parts path node kind

-- a path comes only where it may
abbrev pub IsUnbroken : ScenarioParts → Path → Type 0
IsUnbroken parts path = (hops node : ℕ) → node_after_hops parts path (suc hops) ≡ Some node → MayPass parts path node

-- a path is at no node twice
abbrev pub IsSimple : ScenarioParts → Path → Type 0
IsSimple parts path = (earlier later node : ℕ) → earlier < later → node_after_hops parts path earlier ≡ Some node → ¬ (node_after_hops parts path later ≡ Some node)

-- a path takes a link
pub record IsOnWay (parts : ScenarioParts) (path : Path) (number : ℕ) : Type 0 where
  pub hops : ℕ
  pub node : ℕ
  pub at_node : node_after_hops parts path hops ≡ Some node
  pub taken : hop_link parts path node ≡ Some number

-- what becomes of a path: it ends, it comes where it may not, or it comes to a node again
abbrev pub IsCourse : ScenarioParts → Path → PathOutcome → Type 0
IsCourse parts path Ends = IsUnbroken parts path × IsSimple parts path
IsCourse parts path Breaks = ¬ IsUnbroken parts path
IsCourse parts path Returns = IsUnbroken parts path × ¬ IsSimple parts path
