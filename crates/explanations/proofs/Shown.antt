-- What a counterexample shows.
use Rattle.std.proofs.Common.{◌≡◌, ◌≢◌, ℕ, suc, ◌+◌, Bool, true, false, refl, List, length, Some, All, arith, ap, ◌∙◌, subst}
use Rattle.std.specs.List.{slice_get}
use Rattle.std.specs.Option.{option_and_then}
use Rattle.std.proofs.lemmas.Option.{slice_get_within, get_or_from_slice_get}
use Rattle.scenario_image.specs.Fault.{IsFreeOf}
use Rattle.scenario_image.specs.FlowLimits.{IsFlowInLimits}
use Rattle.scenario_image.specs.Kinds.{HasFlowItsKinds, HasRouteItsKinds, link_target}
use Rattle.scenario_image.specs.declared.parts.LinkPart.{LinkPart}
use Rattle.scenario_image.specs.Paths.{next_node, node_after_hops, EachPath, MayPass, IsUnbroken, IsSimple}
use Rattle.scenario_image.specs.declared.parts.FlowPart.{FlowPart}
use Rattle.scenario_image.specs.declared.parts.ScenarioParts.{ScenarioParts}
use Rattle.scenario_image.specs.declared.paths.Path.{Path}
use Rattle.explanations.specs.declared.counterexample.Packets.{Packets}
use Rattle.explanations.specs.declared.counterexample.Packets.TheVariants.{Data, Acks}
use Rattle.explanations.specs.declared.counterexample.TooFew.TheVariants.{Nodes, Links, Flows}
use Rattle.explanations.specs.declared.counterexample.PathEnd.{PathEnd}
use Rattle.explanations.specs.declared.counterexample.Counterexample.{Counterexample}
use Rattle.explanations.specs.declared.counterexample.Counterexample.TheVariants.{Few, Late, Ends, FlowKinds, LinkKinds, RouteKinds, Path as path_counterexample}
use Rattle.explanations.specs.Counterexample.{flow_path, path_fault, IsPassed, IsStopped, IsPathEnd, IsPathStop, IsCounterexample, shown_fault}

-- what holds of each element holds of the one at a place
all_at : {X : Type 0} (P : X → Type 0) (xs : List X) (k : ℕ) (x : X) → All P xs → slice_get xs k ≡ Some x → P x
all_at P xs k x all found = subst P (get_or_from_slice_get xs k x x found) (all k x (slice_get_within xs k x found))

-- what holds of each path holds of this one
path_at : (parts : ScenarioParts) (P : Path → Type 0) (number : ℕ) (packets : Packets) (flow : FlowPart) → EachPath parts P → slice_get parts.flows number ≡ Some flow → P (flow_path packets flow)
path_at parts P number Data flow each found = (each number flow found).0
path_at parts P number Acks flow each found = (each number flow found).1

-- where a stop comes to
stop_after : (parts : ScenarioParts) (path : Path) (stop : PathEnd) (is : IsPathEnd parts path stop) → node_after_hops parts path (suc is.hops) ≡ Some stop.node
stop_after parts path stop is = ap (option_and_then (next_node parts path)) is.at_from ∙ (ap (option_and_then (link_target parts.links)) is.over ∙ is.comes)

-- a flow's path that stops, by whether it was there before
path_shown : (parts : ScenarioParts) (number : ℕ) (packets : Packets) (stop : PathEnd) (again : Bool) → stop.again ≡ again → IsPathStop parts number packets stop → IsFreeOf parts (path_fault again) → ⊥
path_shown parts number packets stop false same is free =
    let stopped : ¬ MayPass parts (flow_path packets is.flow) stop.node = subst (IsStopped parts (flow_path packets is.flow) (is.stops.hops + 1) stop.node) same is.stops.stopped in
    stopped (path_at parts (IsUnbroken parts) number packets is.flow free is.there is.stops.hops stop.node (stop_after parts _ _ is.stops))
path_shown parts number packets stop true same is free =
    let passed : IsPassed parts (flow_path packets is.flow) (is.stops.hops + 1) stop.node = subst (IsStopped parts (flow_path packets is.flow) (is.stops.hops + 1) stop.node) same is.stops.stopped in
    path_at parts (IsSimple parts) number packets is.flow free is.there passed.hops (suc is.stops.hops) stop.node (omega (arith, passed.few)) passed.at_node (stop_after parts _ _ is.stops)

pub shown : (parts : ScenarioParts) (counterexample : Counterexample) → IsCounterexample parts counterexample → IsFreeOf parts (shown_fault counterexample) → ⊥
shown parts (Few Nodes count) is free = let low = free.counts.node_count in omega (arith, is.0, is.1, low.0)
shown parts (Few Links count) is free = let low = free.counts.link_count in omega (arith, is.0, is.1, low.0)
shown parts (Few Flows count) is free = let low = free.counts.flow_count in omega (arith, is.0, is.1, low.0)
shown parts (Late number) (flow, found, late) free = let within : IsFlowInLimits (length parts.nodes) parts.end flow = all_at (IsFlowInLimits (length parts.nodes) parts.end) parts.flows number flow free.each_flow found in omega (arith, within.start_range, late)
shown parts (Ends node kind flows links) (there, named, left, wrong) free = wrong (free node kind there)
shown parts (FlowKinds number) (flow, found, wrong) free = wrong (all_at (HasFlowItsKinds parts) parts.flows number flow free.each_flow found)
shown parts (LinkKinds number) (link, found, wrong) free = all_at (λ (link : LinkPart). link.from ≢ link.to) parts.links number link free.each_link found wrong
shown parts (RouteKinds number) (route, found, wrong) free = wrong (all_at (HasRouteItsKinds parts) parts.routes number route free.each_route found)
shown parts (path_counterexample number packets stop) is free = path_shown parts number packets stop stop.again refl is free
