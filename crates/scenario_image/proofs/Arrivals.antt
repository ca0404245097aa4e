-- Each path of a scenario begins, goes on and ends.
use Rattle.std.proofs.Common.{◌≡◌, ◌≢◌, ℕ, zero, suc, ◌<◌, ◌≤◌, eqb, ◌&&◌, cond, true, false, List, length, get_or, Some, None, IsSome, ◌⊎◌, inl, inr, ⊎_elim, arith, refl, ap, sym, ◌∙◌, subst}
use Rattle.std.proofs.lemmas.Bool.{cases_lt, eq-eqb, eqb-true}
use Rattle.std.proofs.lemmas.Bool.Decides.{nat_tests}
use Rattle.std.proofs.lemmas.Option.{none-some, same_Some, slice_get-get_or}
use Rattle.std.specs.List.{slice_get, find}
use Rattle.std.specs.Option.{option_map, option_and_then}
use Rattle.scenario_image.proofs.OnlyOne.{only_one, position_found, find_passes}
use Rattle.scenario_image.proofs.Repeats.{none_later, something}
use Rattle.scenario_image.proofs.Courses.{goes, mapped_some, all_at, node_below, next_after, returned}
use Rattle.scenario_image.specs.FlowLimits.{IsFlowInLimits}
use Rattle.scenario_image.specs.Ends.{leaves, names, outgoing_count, naming_count}
use Rattle.scenario_image.specs.Kinds.{IsNode, link_source, link_target, HasFlowItsKinds, HasRouteItsKinds}
use Rattle.scenario_image.specs.Paths.{EachPath, data_path, ack_path, outgoing_link, is_route_for, route_link, hop_link, next_node, node_after_hops, MayComeTo, IsUnbroken, IsSimple}
use Rattle.scenario_image.specs.PathLaws.{Arrives, Begins, PathGoesOn, GoesOnOrEnds, PathsArrive, PathsBegin, PathsGoOnOrEnd, EndsHaveOneFlow}
use Rattle.scenario_image.specs.Scenario.{IsScenario}
use Rattle.scenario_image.specs.declared.parts.NodeKind.{NodeKind}
use Rattle.scenario_image.specs.declared.parts.NodeKind.TheVariants.{Sender, Receiver, Router}
use Rattle.scenario_image.specs.declared.parts.LinkPart.{LinkPart}
use Rattle.scenario_image.specs.declared.parts.RoutePart.{RoutePart}
use Rattle.scenario_image.specs.declared.parts.ScenarioParts.{ScenarioParts}
use Rattle.scenario_image.specs.declared.paths.Path.{Path}

-- what is known of a path of a flow
record Sound (parts : ScenarioParts) (path : Path) : Type 0 where
  pub start_below : path.start < length parts.nodes
  pub start_end : ¬ IsNode parts Router path.start
  pub one_link : outgoing_count parts.links path.start ≡ 1
  pub unbroken : IsUnbroken parts path
  pub simple : IsSimple parts path

-- a node is of one kind
one_kind : (parts : ScenarioParts) (node : ℕ) (a b : NodeKind) → IsNode parts a node → IsNode parts b node → a ≡ b
one_kind parts node a b is_a is_b = same_Some a b (sym is_a ∙ is_b)

sound : (parts : ScenarioParts) → IsScenario parts → EachPath parts (Sound parts)
sound parts scenario number flow found = (
  record {
    start_below = limits.sender_node;
    start_end = λ router. let same : Router ≡ Sender = one_kind parts flow.sender Router Sender router kinds.sender in cc;
    one_link = (scenario.ends flow.sender Sender kinds.sender).1;
    unbroken = (scenario.unbroken number flow found).0;
    simple = (scenario.simple number flow found).0;
  },
  record {
    start_below = limits.receiver_node;
    start_end = λ router. let same : Router ≡ Receiver = one_kind parts flow.receiver Router Receiver router kinds.receiver in cc;
    one_link = (scenario.ends flow.receiver Receiver kinds.receiver).1;
    unbroken = (scenario.unbroken number flow found).1;
    simple = (scenario.simple number flow found).1;
  },
)
  where
    limits : IsFlowInLimits (length parts.nodes) parts.end flow
    limits = all_at (IsFlowInLimits (length parts.nodes) parts.end) parts.flows number flow scenario.in_limits.each_flow found

    kinds : HasFlowItsKinds parts flow
    kinds = all_at (HasFlowItsKinds parts) parts.flows number flow scenario.kinds.each_flow found

-- the link that a path takes from its start is the one there
hop_first : (parts : ScenarioParts) (path : Path) → hop_link parts path path.start ≡ outgoing_link parts.links path.start
hop_first parts path = ap (λ b. cond b (outgoing_link parts.links path.start) (route_link parts.routes path.start path.end)) (eq-eqb path.start path.start refl)

-- and from other nodes that of the route
hop_later : (parts : ScenarioParts) (path : Path) (node : ℕ) → node ≢ path.start → hop_link parts path node ≡ route_link parts.routes node path.end
hop_later parts path node apart = ap (λ b. cond b (outgoing_link parts.links node) (route_link parts.routes node path.end)) (not_equal node path.start apart)
  where
    not_equal : (a b : ℕ) → a ≢ b → eqb a b ≡ false
    not_equal a b apart = grind (arith, nat_tests)

-- a link that leaves a node goes into one
source_target : (links : List LinkPart) (number node : ℕ) → link_source links number ≡ Some node → (to : ℕ) × (link_target links number ≡ Some to)
source_target links number node is = let (link, found, _) = mapped_some (λ (link : LinkPart). link.from) (slice_get links number) node is in (link.to, ap (option_map (λ (link : LinkPart). link.to)) found)

begins : (parts : ScenarioParts) (path : Path) → Sound parts path → Begins parts path
begins parts path known =
    let (first, link, is_first, found, passes) = position_found (leaves path.start) parts.links (omega (arith, known.one_link)) in
    record {
      first = first;
      leaves_start = ap (option_map (λ (link : LinkPart). link.from)) found ∙ ap Some (eqb-true link.from path.start passes);
      only = λ other is. let (another, at_other, from) = mapped_some (λ (link : LinkPart). link.from) (slice_get parts.links other) path.start is in
          only_one (leaves path.start) parts.links other first another link known.one_link at_other (eq-eqb another.from path.start from) found passes;
      first_hop = hop_first parts path ∙ is_first;
      on_way = record { hops = 0; node = path.start; at_node = refl; taken = hop_first parts path ∙ is_first };
    }

-- a route that is found is a router's, over a link that leaves it
route_leaves : (parts : ScenarioParts) (router destination next : ℕ) → IsScenario parts → route_link parts.routes router destination ≡ Some next → link_source parts.links next ≡ Some router
route_leaves parts router destination next scenario is =
    let (route, found, over) = mapped_some (λ (route : RoutePart). route.link) (find (is_route_for router destination) parts.routes) next is in
    let (place, at_place, passes) = find_passes (is_route_for router destination) parts.routes route found in
    let kinds : HasRouteItsKinds parts route = all_at (HasRouteItsKinds parts) parts.routes place route scenario.kinds.each_route at_place in
    ap (link_source parts.links) (sym over) ∙ kinds.leaves ∙ ap Some (of_router route.router route.destination passes)
  where
    of_router : (r d : ℕ) → (eqb r router && eqb d destination) ≡ true → r ≡ router
    of_router r d passes = grind (arith, nat_tests)

-- where a path comes after its start, it ends or goes on
comes : (parts : ScenarioParts) (path : Path) (hops node : ℕ) → IsScenario parts → Sound parts path → node_after_hops parts path (suc hops) ≡ Some node → (node ≡ path.end) ⊎ PathGoesOn parts path node
comes parts path hops node scenario known at_node = by (get_or parts.nodes node Router) there (known.unbroken hops node at_node (get_or parts.nodes node Router) there)
  where
    there : IsNode parts (get_or parts.nodes node Router) node
    there = slice_get-get_or parts.nodes node Router (node_below parts path (suc hops) node scenario.in_limits known.start_below at_node)

    on : (next : ℕ) → IsNode parts Router node → route_link parts.routes node path.end ≡ Some next → PathGoesOn parts path node
    on next router route = record {
      next = next;
      router = router;
      route = route;
      leaves_router = route_leaves parts node path.end next scenario route;
      on_way = record {
        hops = suc hops;
        node = node;
        at_node = at_node;
        taken = hop_later parts path node (λ same. known.start_end (subst (IsNode parts Router) same router)) ∙ route;
      };
    }

    by : (kind : NodeKind) → IsNode parts kind node → MayComeTo parts path node kind → (node ≡ path.end) ⊎ PathGoesOn parts path node
    by Sender is ends = inl ends
    by Receiver is ends = inl ends
    by Router is routed =
        elim (something (route_link parts.routes node path.end)) [
          | inl none ↦ let never : false ≡ true = subst IsSome none routed in cc
          | inr (next, route) ↦ inr (on next is route)
        ]

goes_on_or_ends : (parts : ScenarioParts) (path : Path) → IsScenario parts → Sound parts path → GoesOnOrEnds parts path
goes_on_or_ends parts path scenario known number link taken found =
    comes parts path taken.hops link.to scenario known
    (next_after parts path taken.hops taken.node (Some link.to) taken.at_node (ap (option_and_then (link_target parts.links)) taken.taken ∙ ap (option_map (λ (link : LinkPart). link.to)) found))

-- a path that takes a link comes to a node
takes_comes : (parts : ScenarioParts) (path : Path) (node number : ℕ) → hop_link parts path node ≡ Some number → link_source parts.links number ≡ Some node → (to : ℕ) × (next_node parts path node ≡ Some to)
takes_comes parts path node number taken leaves_node = let (to, is) = source_target parts.links number node leaves_node in (to, ap (option_and_then (link_target parts.links)) taken ∙ is)

-- a path that goes no further is at its end
stops_at_end : (parts : ScenarioParts) (path : Path) (hops node : ℕ) → IsScenario parts → Sound parts path → node_after_hops parts path hops ≡ Some node → next_node parts path node ≡ None → node ≡ path.end
stops_at_end parts path zero node scenario known at_node stops =
    let start : Begins parts path = begins parts path known in
    let same : path.start ≡ node = same_Some path.start node at_node in
    let (to, is) = takes_comes parts path path.start start.first start.first_hop start.leaves_start in
    absurd (none-some to (sym stops ∙ ap (next_node parts path) (sym same) ∙ is))
stops_at_end parts path (suc hops) node scenario known at_node stops =
    elim (comes parts path hops node scenario known at_node) [
      | inl ends ↦ ends
      | inr on ↦
          let (to, is) = takes_comes parts path node on.next (hop_later parts path node (λ same. known.start_end (subst (IsNode parts Router) same on.router)) ∙ on.route) on.leaves_router in
          absurd (none-some to (sym stops ∙ is))
    ]

-- a path stops before so many hops, or goes on for as many
stops_or_goes_on : (parts : ScenarioParts) (path : Path) (count : ℕ)
    → ((hops : ℕ) × (node : ℕ) × (hops < count) × (node_after_hops parts path hops ≡ Some node) × (next_node parts path node ≡ None)) ⊎ ((node : ℕ) × (node_after_hops parts path count ≡ Some node))
stops_or_goes_on parts path zero = inr (path.start, refl)
stops_or_goes_on parts path (suc count) =
    elim (stops_or_goes_on parts path count) [
      | inl (hops, node, before, at_node, stops) ↦ inl (hops, node, omega arith, at_node, stops)
      | inr (node, at_node) ↦
          elim (something (next_node parts path node)) [
            | inl none ↦ inl (count, node, omega arith, at_node, none)
            | inr (next, is) ↦ inr (next, next_after parts path count node (Some next) at_node is)
          ]
    ]

arrives : (parts : ScenarioParts) (path : Path) → IsScenario parts → Sound parts path → Arrives parts path
arrives parts path scenario known =
    elim (stops_or_goes_on parts path (length parts.nodes)) [
      | inl (hops, node, before, at_node, stops) ↦
          let nothing : node_after_hops parts path (suc hops) ≡ None = next_after parts path hops node None at_node stops in
          record {
            hops = hops;
            few = before;
            at_end = at_node ∙ ap Some (stops_at_end parts path hops node scenario known at_node stops);
            no_further = λ later there at_there.
                ⊎_elim (λ (after : hops < later). absurd (none-some there (sym (none_later (next_node parts path) (node_after_hops parts path) (goes parts path) later (suc hops) (omega arith) nothing) ∙ at_there)))
                (λ (not_after : later ≤ hops). not_after) (cases_lt hops later);
            unbroken = known.unbroken;
            simple = known.simple;
          }
      | inr (node, at_node) ↦
          absurd ((returned parts path node scenario.in_limits known.start_below (λ k there _ at_there. known.unbroken k there at_there) at_node).1 known.simple)
    ]

pub paths_arrive : PathsArrive
paths_arrive parts scenario number flow found =
    let known = sound parts scenario number flow found in (arrives parts (data_path flow) scenario known.0, arrives parts (ack_path flow) scenario known.1)

pub paths_begin : PathsBegin
paths_begin parts scenario number flow found = let known = sound parts scenario number flow found in (begins parts (data_path flow) known.0, begins parts (ack_path flow) known.1)

pub paths_go_on_or_end : PathsGoOnOrEnd
paths_go_on_or_end parts scenario number flow found =
    let known = sound parts scenario number flow found in (goes_on_or_ends parts (data_path flow) scenario known.0, goes_on_or_ends parts (ack_path flow) scenario known.1)

-- an end has one flow
one_flow : (parts : ScenarioParts) (node : ℕ) (kind : NodeKind) → IsScenario parts → IsNode parts kind node → kind ≢ Router → naming_count parts.flows node ≡ 1
one_flow parts node Sender scenario is no_router = (scenario.ends node Sender is).0
one_flow parts node Receiver scenario is no_router = (scenario.ends node Receiver is).0
one_flow parts node Router scenario is no_router = absurd (no_router refl)

pub ends_have_one_flow : EndsHaveOneFlow
ends_have_one_flow parts node number other kind flow another scenario is no_router found named found' named' =
    only_one (names node) parts.flows number other flow another (one_flow parts node kind scenario is no_router) found named found' named'
