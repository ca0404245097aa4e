-- What a statement says rightly of what the statements above it declare.
use Rattle.std.specs.Prelude.{◌≡◌, ◌≢◌, ◌<◌, true, false, length, Some, All}
use Rattle.std.specs.List.{slice_get}
use Rattle.std.specs.Option.{option_map}
use Rattle.scenario_image.specs.declared.parts.NodeKind.TheVariants.{Sender, Receiver, Router}
use Rattle.scenario_image.specs.declared.parts.FlowPart.{FlowPart}
use Rattle.scenario_image.specs.declared.parts.RoutePart.{RoutePart}
use Rattle.scenario_image.specs.declared.parts.LinkPart.{LinkPart}
use Rattle.scenario_asm.specs.declared.statement.Statement.{Statement}
use Rattle.scenario_asm.specs.declared.statement.Statement.TheVariants.{Sim, Node, Link, Flow, Route, Lose}
use Rattle.scenario_asm.specs.declared.statement.LinkLine.{LinkLine}
use Rattle.scenario_asm.specs.declared.statement.LoseLine.{LoseLine}
use Rattle.scenario_asm.specs.Lines.{Word}
use Rattle.scenario_asm.specs.Names.{Known, is_taken, is_end, is_routed}

-- a new name, and room for one more node
pub record IsNodeRight (known : Known) (name : Word) : Type 0 where
  pub free : is_taken known name ≡ false
  pub room : length known.kinds < 256

-- a new name, and room for one more link, which does not end where it begins
pub record IsLinkRight (known : Known) (name : Word) (link : LinkLine) : Type 0 where
  pub free : is_taken known name ≡ false
  pub room : length known.links < 1024
  pub apart : link.from ≢ link.to

-- a flow from a sender to a receiver
pub record IsFlowOfKinds (known : Known) (flow : FlowPart) : Type 0 where
  pub sender : slice_get known.kinds flow.sender ≡ Some Sender
  pub receiver : slice_get known.kinds flow.receiver ≡ Some Receiver

-- a new name, for a flow from a sender to a receiver
pub record IsFlowRight (known : Known) (name : Word) (flow : FlowPart) : Type 0 where
  pub free : is_taken known name ≡ false
  pub kinds : IsFlowOfKinds known flow

-- a router's route to a sender or receiver, over a link that leaves the router
pub record IsRouteOfKinds (known : Known) (route : RoutePart) : Type 0 where
  pub router : slice_get known.kinds route.router ≡ Some Router
  pub destination : is_end (slice_get known.kinds route.destination) ≡ true
  pub leaves : option_map (λ link. link.from) (slice_get known.links route.link) ≡ Some route.router

-- a router's first route to a sender or receiver
pub record IsRouteRight (known : Known) (route : RoutePart) : Type 0 where
  pub first : is_routed known.routes route.router route.destination ≡ false
  pub kinds : IsRouteOfKinds known route

-- a link that is declared
pub record IsLoseRight (known : Known) (lose : LoseLine) : Type 0 where
  pub part : LinkPart
  pub declared : slice_get known.links lose.link ≡ Some part

-- a statement names what it may, and there is room for what it declares
abbrev pub IsRight : Known → Statement → Type 0
IsRight known (Sim end) = Unit {0}
IsRight known (Node name kind) = IsNodeRight known name
IsRight known (Link name link) = IsLinkRight known name link
IsRight known (Flow name flow) = IsFlowRight known name flow
IsRight known (Route route) = IsRouteRight known route
IsRight known (Lose lose) = IsLoseRight known lose

-- all that is declared names nodes of the right kinds
pub record AreOfKinds (known : Known) : Type 0 where
  pub each_link : All (λ link. link.from ≢ link.to) known.links
  pub each_flow : All (IsFlowOfKinds known) known.flows
  pub each_route : All (IsRouteOfKinds known) known.routes
