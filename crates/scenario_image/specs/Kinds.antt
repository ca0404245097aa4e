-- Of which kind the nodes are that flows, links and routes name.
use Rattle.std.specs.Prelude.{◌≡◌, ◌≢◌, ℕ, List, Option, Some, All}
use Rattle.std.specs.Option.{option_map}
use Rattle.std.specs.List.{slice_get}
use Rattle.scenario_image.specs.declared.parts.NodeKind.{NodeKind}
use Rattle.scenario_image.specs.declared.parts.NodeKind.TheVariants.{Sender, Receiver, Router}
use Rattle.scenario_image.specs.declared.parts.LinkPart.{LinkPart}
use Rattle.scenario_image.specs.declared.parts.FlowPart.{FlowPart}
use Rattle.scenario_image.specs.declared.parts.RoutePart.{RoutePart}
use Rattle.scenario_image.specs.declared.parts.ScenarioParts.{ScenarioParts}

-- there is a node of this number, and it is of this kind
abbrev pub IsNode : ScenarioParts → NodeKind → ℕ → Type 0
IsNode parts kind node = slice_get parts.nodes node ≡ Some kind

-- the node that the link of a number leaves
abbrev pub link_source : List LinkPart → ℕ → Option ℕ
link_source links number = option_map (λ link. link.from) (slice_get links number)

-- the node that the link of a number goes into
abbrev pub link_target : List LinkPart → ℕ → Option ℕ
link_target links number = option_map (λ link. link.to) (slice_get links number)

-- a flow goes from a sender to a receiver
pub record HasFlowItsKinds (parts : ScenarioParts) (flow : FlowPart) : Type 0 where
  pub sender : IsNode parts Sender flow.sender
  pub receiver : IsNode parts Receiver flow.receiver

-- a route is a router's, for an end, over a link that leaves the router
pub record HasRouteItsKinds (parts : ScenarioParts) (route : RoutePart) : Type 0 where
  pub router : IsNode parts Router route.router
  pub destination : ¬ IsNode parts Router route.destination
  pub leaves : link_source parts.links route.link ≡ Some route.router

-- flows and routes name nodes of the right kinds, and no link goes into the node that it leaves
pub record HasItsKinds (parts : ScenarioParts) : Type 0 where
  pub each_flow : All (HasFlowItsKinds parts) parts.flows
  pub each_link : All (λ link. link.from ≢ link.to) parts.links
  pub each_route : All (HasRouteItsKinds parts) parts.routes
