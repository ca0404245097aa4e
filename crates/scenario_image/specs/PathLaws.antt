-- What is so of each path of each scenario.
use Rattle.std.specs.Prelude.{◌≡◌, ◌≢◌, ℕ, ◌<◌, ◌≤◌, ◌⊎◌, length, Some, IsTrue}
use Rattle.std.specs.List.{slice_get}
use Rattle.scenario_image.specs.Ends.{names}
use Rattle.scenario_image.specs.Kinds.{IsNode, link_source}
use Rattle.scenario_image.specs.Paths.{EachPath, hop_link, route_link, node_after_hops, IsUnbroken, IsSimple, IsOnWay}
use Rattle.scenario_image.specs.Scenario.{IsScenario}
use Rattle.scenario_image.specs.declared.parts.NodeKind.{NodeKind}
use Rattle.scenario_image.specs.declared.parts.NodeKind.TheVariants.{Router}
use Rattle.scenario_image.specs.declared.parts.FlowPart.{FlowPart}
use Rattle.scenario_image.specs.declared.parts.LinkPart.{LinkPart}
use Rattle.scenario_image.specs.declared.parts.ScenarioParts.{ScenarioParts}
use Rattle.scenario_image.specs.declared.paths.Path.{Path}

-- a path comes to its end after fewer hops than there are nodes, and goes no further; it comes only where it may, and is at no node twice
pub record Arrives (parts : ScenarioParts) (path : Path) : Type 0 where
  pub hops : ℕ
  pub few : hops < length parts.nodes
  pub at_end : node_after_hops parts path hops ≡ Some path.end
  pub no_further : (later node : ℕ) → node_after_hops parts path later ≡ Some node → later ≤ hops
  pub unbroken : IsUnbroken parts path
  pub simple : IsSimple parts path

-- each path arrives
abbrev pub PathsArrive : Type 0
PathsArrive = (parts : ScenarioParts) → IsScenario parts → EachPath parts (Arrives parts)

-- one link leaves a path's start, and the path takes it
pub record Begins (parts : ScenarioParts) (path : Path) : Type 0 where
  pub first : ℕ
  pub leaves_start : link_source parts.links first ≡ Some path.start
  pub only : (other : ℕ) → link_source parts.links other ≡ Some path.start → other ≡ first
  pub first_hop : hop_link parts path path.start ≡ Some first
  pub on_way : IsOnWay parts path first

-- each path begins with its start's one link
abbrev pub PathsBegin : Type 0
PathsBegin = (parts : ScenarioParts) → IsScenario parts → EachPath parts (Begins parts)

-- from a router a path goes on: there is a route for its end, over a link that leaves the router and is on the path
pub record PathGoesOn (parts : ScenarioParts) (path : Path) (node : ℕ) : Type 0 where
  pub next : ℕ
  pub router : IsNode parts Router node
  pub route : route_link parts.routes node path.end ≡ Some next
  pub leaves_router : link_source parts.links next ≡ Some node
  pub on_way : IsOnWay parts path next

-- where a link of a path ends, the path ends too, or goes on
abbrev pub GoesOnOrEnds : ScenarioParts → Path → Type 0
GoesOnOrEnds parts path = (number : ℕ) (link : LinkPart) → IsOnWay parts path number → slice_get parts.links number ≡ Some link → (link.to ≡ path.end) ⊎ PathGoesOn parts path link.to

-- each path goes on or ends
abbrev pub PathsGoOnOrEnd : Type 0
PathsGoOnOrEnd = (parts : ScenarioParts) → IsScenario parts → EachPath parts (GoesOnOrEnds parts)

-- flows that name one sender or receiver are one
abbrev pub EndsHaveOneFlow : Type 0
EndsHaveOneFlow = (parts : ScenarioParts) (node number other : ℕ) (kind : NodeKind) (flow another : FlowPart) → IsScenario parts → IsNode parts kind node → kind ≢ Router
    → slice_get parts.flows number ≡ Some flow → IsTrue (names node flow) → slice_get parts.flows other ≡ Some another → IsTrue (names node another) → number ≡ other
