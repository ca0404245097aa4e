-- What a counterexample says of parts.
use Rattle.std.specs.Prelude.{◌≡◌, ℕ, ◌+◌, ◌<◌, ◌≤◌, Bool, true, false, List, length, Some}
use Rattle.std.specs.List.{slice_get}
use Rattle.scenario_image.specs.Ends.{outgoing_count, naming_count, HasItsLinks}
use Rattle.scenario_image.specs.Kinds.{HasFlowItsKinds, HasRouteItsKinds, link_target}
use Rattle.scenario_image.specs.Paths.{data_path, ack_path, hop_link, node_after_hops, MayPass}
use Rattle.scenario_image.specs.Fault.{IsFreeOf}
use Rattle.scenario_image.specs.declared.fault.LoadFault.{LoadFault}
use Rattle.scenario_image.specs.declared.fault.LoadFault.TheVariants.{L3, L5, L6, L7, L8}
use Rattle.scenario_image.specs.declared.parts.FlowPart.{FlowPart}
use Rattle.scenario_image.specs.declared.parts.LinkPart.{LinkPart}
use Rattle.scenario_image.specs.declared.parts.RoutePart.{RoutePart}
use Rattle.scenario_image.specs.declared.parts.ScenarioParts.{ScenarioParts}
use Rattle.scenario_image.specs.declared.paths.Path.{Path}
use Rattle.explanations.specs.declared.counterexample.Packets.{Packets}
use Rattle.explanations.specs.declared.counterexample.Packets.TheVariants.{Data, Acks}
use Rattle.explanations.specs.declared.counterexample.TooFew.{TooFew}
use Rattle.explanations.specs.declared.counterexample.TooFew.TheVariants.{Nodes, Links, Flows}
use Rattle.explanations.specs.declared.counterexample.PathEnd.{PathEnd}
use Rattle.explanations.specs.declared.counterexample.Counterexample.{Counterexample}
use Rattle.explanations.specs.declared.counterexample.Counterexample.TheVariants.{Few, Late, Ends, FlowKinds, LinkKinds, RouteKinds, Path as path_counterexample}

-- how many there are of a sort
abbrev pub count_of : ScenarioParts → TooFew → ℕ
count_of parts Nodes = length parts.nodes
count_of parts Links = length parts.links
count_of parts Flows = length parts.flows

-- how many there are at least
abbrev pub fewest_of : TooFew → ℕ
fewest_of Nodes = 2
fewest_of Links = 1
fewest_of Flows = 1

-- the path of a flow's data or acknowledgements
abbrev pub flow_path : Packets → FlowPart → Path
flow_path Data flow = data_path flow
flow_path Acks flow = ack_path flow

-- a path is at a node after fewer hops than so many
pub record IsPassed (parts : ScenarioParts) (path : Path) (count node : ℕ) : Type 0 where
  pub hops : ℕ
  pub few : hops < count
  pub at_node : node_after_hops parts path hops ≡ Some node

-- a path is at these nodes, one after the other
abbrev pub ArePassed : ScenarioParts → Path → List ℕ → Type 0
ArePassed parts path nodes = (hops node : ℕ) → slice_get nodes hops ≡ Some node → node_after_hops parts path hops ≡ Some node

-- a node at which a path was before so many hops, or to which it may not come
abbrev pub IsStopped : ScenarioParts → Path → ℕ → ℕ → Bool → Type 0
IsStopped parts path count node true = IsPassed parts path count node
IsStopped parts path count node false = ¬ MayPass parts path node

-- a path comes over a link to a node at which it was before, or to which it may not come
pub record IsPathEnd (parts : ScenarioParts) (path : Path) (stop : PathEnd) : Type 0 where
  pub hops : ℕ
  pub at_from : node_after_hops parts path hops ≡ Some stop.from
  pub over : hop_link parts path stop.from ≡ Some stop.link
  pub comes : link_target parts.links stop.link ≡ Some stop.node
  pub stopped : IsStopped parts path (hops + 1) stop.node stop.again

-- a flow's path stops so
pub record IsPathStop (parts : ScenarioParts) (number : ℕ) (packets : Packets) (stop : PathEnd) : Type 0 where
  pub flow : FlowPart
  pub there : slice_get parts.flows number ≡ Some flow
  pub stops : IsPathEnd parts (flow_path packets flow) stop

-- what a counterexample says
abbrev pub IsCounterexample : ScenarioParts → Counterexample → Type 0
IsCounterexample parts (Few sort count) = (count ≡ count_of parts sort) × (count < fewest_of sort)
IsCounterexample parts (Late number) = (flow : FlowPart) × (slice_get parts.flows number ≡ Some flow) × (parts.end ≤ flow.start)
IsCounterexample parts (Ends node kind flows links) = (slice_get parts.nodes node ≡ Some kind) × (flows ≡ naming_count parts.flows node) × (links ≡ outgoing_count parts.links node) × ¬ HasItsLinks parts node kind
IsCounterexample parts (FlowKinds number) = (flow : FlowPart) × (slice_get parts.flows number ≡ Some flow) × ¬ HasFlowItsKinds parts flow
IsCounterexample parts (LinkKinds number) = (link : LinkPart) × (slice_get parts.links number ≡ Some link) × (link.from ≡ link.to)
IsCounterexample parts (RouteKinds number) = (route : RoutePart) × (slice_get parts.routes number ≡ Some route) × ¬ HasRouteItsKinds parts route
IsCounterexample parts (path_counterexample number packets stop) = IsPathStop parts number packets stop

-- the fault of a path that comes to a node at which it was before, and of one that comes where it may not
abbrev pub path_fault : Bool → LoadFault
path_fault true = L8
path_fault false = L7

-- the fault that a counterexample shows
abbrev pub shown_fault : Counterexample → LoadFault
shown_fault (Few sort count) = L3
shown_fault (Late number) = L3
shown_fault (Ends node kind flows links) = L5
shown_fault (FlowKinds number) = L6
shown_fault (LinkKinds number) = L6
shown_fault (RouteKinds number) = L6
shown_fault (path_counterexample number packets stop) = path_fault stop.again

-- parts of which a counterexample says something are not free of the fault that it shows
abbrev pub WitnessesShowFaults : Type 0
WitnessesShowFaults = (parts : ScenarioParts) (counterexample : Counterexample) → IsCounterexample parts counterexample → ¬ IsFreeOf parts (shown_fault counterexample)

-- a counterexample that shows this fault
abbrev pub IsShown : ScenarioParts → LoadFault → Counterexample → Type 0
IsShown parts fault counterexample = IsCounterexample parts counterexample × (shown_fault counterexample ≡ fault)
