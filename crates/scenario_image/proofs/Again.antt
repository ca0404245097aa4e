-- What is written is read again: the image of parts within limits, whatever follows it.
use Rattle.std.proofs.Common.{◌≡◌, ℕ, suc, ◌+◌, ◌*◌, ◌%◌, ◌^◌, ◌<◌, ◌≤◌, List, [], ◌∷◌, ◌++◌, map, length, take, drop, Option, Some, All, arith, refl, ap, sym, ◌∙◌, append_assoc}
use Rattle.std.specs.List.{flat_map, AllByRecursion}
use Rattle.std.specs.Option.{option_map, option_and_then}
use Rattle.std.proofs.lemmas.List.{drop-drop, length-append, take_at, drop_at}
use Rattle.std.proofs.lemmas.List.Elements.{recursion_from_All}
use Rattle.sim_time.specs.declared.limits.TheConstants.{LATEST_END}
use Rattle.byteorder.specs.Endian.{big_number, big_bytes}
use Rattle.byteorder.specs.Numbers.{big_number-reads_back}
use Rattle.scenario_image.specs.Limits.{IsInLimits}
use Rattle.sim_time.specs.QueueLimits.{IsQueueInLimits}
use Rattle.scenario_image.specs.LinkLimits.{IsLinkInLimits}
use Rattle.scenario_image.specs.FlowLimits.{IsFlowInLimits}
use Rattle.scenario_image.specs.RouteLimits.{IsRouteInLimits}
use Rattle.scenario_image.specs.Image.{magic, node_byte, link_image, flow_image, route_image, image, MayStandIn}
use Rattle.scenario_image.specs.Layout.{version_of, node_count, link_count, flow_count, route_count, link_size, links_size, flow_size, layout_size}
use Rattle.scenario_image.specs.Reading.{each_at, node_of_byte, nodes_at, link_in_front, links_at, variant_at, flow_with, flow_at, flows_at, route_at, parts_with, parts_behind, parts_at}
use Rattle.scenario_image.specs.declared.parts.NodeKind.{NodeKind}
use Rattle.scenario_image.specs.declared.parts.NodeKind.TheVariants.{Sender, Receiver, Router}
use Rattle.sim_time.specs.declared.queue_kind.QueueKind.{QueueKind}
use Rattle.sim_time.specs.declared.queue_kind.QueueKind.TheVariants.{DropTail, Codel}
use Rattle.scenario_image.specs.declared.parts.LinkPart.{LinkPart}
use Rattle.scenario_image.specs.declared.parts.FlowPart.{FlowPart}
use Rattle.scenario_image.specs.declared.parts.RoutePart.{RoutePart}
use Rattle.scenario_image.specs.declared.parts.ScenarioParts.{ScenarioParts}
use Rattle.scenario_image.specs.declared.version.Version.{Version}
use Rattle.scenario_image.specs.declared.version.Version.TheVariants.{One, Two}
use Rattle.scenario_image.proofs.VariantBytes.{byte_again}
use Rattle.scenario_image.proofs.Takes.{body, behind_magic, image_regroup, length_map}

two : (n : ℕ) → n < 65536 → big_number 2 (big_bytes 2 n ++ []) ≡ n
two n fits = big_number-reads_back 2 n [] fits

four : (n : ℕ) → n < 4294967296 → big_number 4 (big_bytes 4 n ++ []) ≡ n
four n fits = big_number-reads_back 4 n [] fits

eight : (n : ℕ) → n < 18446744073709551616 → big_number 8 (big_bytes 8 n ++ []) ≡ n
eight n fits = big_number-reads_back 8 n [] fits

-- a flow whose numbers fit into their bytes
record FlowFits (version : Version) (flow : FlowPart) : Type 0 where
  sender : flow.sender < 65536
  receiver : flow.receiver < 65536
  mss : flow.mss < 65536
  segments : flow.segments < 4294967296
  start : flow.start < 18446744073709551616
  rwnd : flow.rwnd < 4294967296
  delack : flow.delack < 4294967296
  stands : MayStandIn version flow

variant_again : (version : Version) (flow : FlowPart) (rest : List ℕ) → MayStandIn version flow → variant_at version (flow_image version flow ++ rest) ≡ Some flow.variant
variant_again One flow rest stands = ap Some (sym stands)
variant_again Two flow rest stands = byte_again flow.variant

numbers_again : (version : Version) (flow : FlowPart) (rest : List ℕ) → FlowFits version flow → flow_with (flow_image version flow ++ rest) flow.variant ≡ flow
numbers_again version flow rest fits = λ i. record {
  sender = two flow.sender fits.sender i;
  receiver = two flow.receiver fits.receiver i;
  mss = two flow.mss fits.mss i;
  segments = four flow.segments fits.segments i;
  start = eight flow.start fits.start i;
  rwnd = four flow.rwnd fits.rwnd i;
  delack = four flow.delack fits.delack i;
  variant = flow.variant;
}

flow_again : (version : Version) (flow : FlowPart) (rest : List ℕ) → FlowFits version flow → flow_at version (flow_image version flow ++ rest) ≡ Some flow
flow_again version flow rest fits = ap (option_map (flow_with (flow_image version flow ++ rest))) (variant_again version flow rest fits.stands) ∙ ap Some (numbers_again version flow rest fits)

-- a flow takes its bytes
flow_sized : (version : Version) (flow : FlowPart) → length (flow_image version flow) ≡ flow_size version
flow_sized One flow = refl
flow_sized Two flow = refl

-- a route whose numbers fit into their bytes
record RouteFits (route : RoutePart) : Type 0 where
  router : route.router < 65536
  destination : route.destination < 65536
  link : route.link < 65536

route_again : (route : RoutePart) (rest : List ℕ) → RouteFits route → route_at (route_image route ++ rest) ≡ route
route_again route rest fits = λ i. record { router = two route.router fits.router i; destination = two route.destination fits.destination i; link = two route.link fits.link i }

lost_again : (n : ℕ) (rest : List ℕ) → n < 4294967296 → big_number 4 (big_bytes 4 n ++ rest) ≡ n
lost_again n rest fits = four n fits

-- items of one size, one after the other
flat_length : {X : Type 0} (size : ℕ) (spelled : X → List ℕ) → ((x : X) → length (spelled x) ≡ size) → (xs : List X) → length (flat_map spelled xs) ≡ size * length xs
flat_length size spelled sized [] = omega arith
flat_length size spelled sized (x ∷ xs) = omega (arith, length-append (spelled x) (flat_map spelled xs), sized x, flat_length size spelled sized xs)

each_again : {X : Type 0} (size : ℕ) (read : List ℕ → X) (spelled : X → List ℕ) (Fits : X → Type 0) → ((x : X) → length (spelled x) ≡ size) → ((x : X) (rest : List ℕ) → Fits x → read (spelled x ++ rest) ≡ x)
    → (xs : List X) (rest : List ℕ) → AllByRecursion Fits xs → each_at size read (length xs) (flat_map spelled xs ++ rest) ≡ xs
each_again size read spelled Fits sized again [] rest fits = refl
each_again size read spelled Fits sized again (x ∷ xs) rest fits =
    let grouped : flat_map spelled (x ∷ xs) ++ rest ≡ spelled x ++ (flat_map spelled xs ++ rest) = append_assoc (spelled x) (flat_map spelled xs) rest in
    let later : drop size (flat_map spelled (x ∷ xs) ++ rest) ≡ flat_map spelled xs ++ rest = ap (drop size) grouped ∙ drop_at (spelled x) (flat_map spelled xs ++ rest) size (sized x) in
    let first : read (flat_map spelled (x ∷ xs) ++ rest) ≡ x = ap read grouped ∙ again x (flat_map spelled xs ++ rest) fits.0 in
    let others : each_at size read (length xs) (drop size (flat_map spelled (x ∷ xs) ++ rest)) ≡ xs = ap (each_at size read (length xs)) later ∙ each_again size read spelled Fits sized again xs rest fits.1 in
    λ i. first i ∷ others i

each_behind : {X : Type 0} (size : ℕ) (spelled : X → List ℕ) → ((x : X) → length (spelled x) ≡ size) → (xs : List X) (rest : List ℕ) → drop (size * length xs) (flat_map spelled xs ++ rest) ≡ rest
each_behind size spelled sized xs rest = drop_at (flat_map spelled xs) rest (size * length xs) (flat_length size spelled sized xs)

node_again : (kind : NodeKind) → node_of_byte (node_byte kind) ≡ Some kind
node_again Sender = refl
node_again Receiver = refl
node_again Router = refl

nodes_again : (kinds : List NodeKind) → nodes_at (map node_byte kinds) ≡ Some kinds
nodes_again [] = refl
nodes_again (kind ∷ kinds) =
    ap (λ node. option_and_then (λ kind. option_map (λ others. kind ∷ others) (nodes_at (map node_byte kinds))) node) (node_again kind) ∙ ap (option_map (λ others. kind ∷ others)) (nodes_again kinds)

-- the numbers of a link fit into their bytes
record LinkFits (link : LinkPart) : Type 0 where
  from : link.from < 65536
  to : link.to < 65536
  rate : link.rate < 18446744073709551616
  delay : link.delay < 18446744073709551616
  queue : IsQueueInLimits link.queue
  capacity : link.capacity < 65536
  few : length link.lose < 256
  lose : AllByRecursion (λ n. n < 4294967296) link.lose

abbrev with_queue : LinkPart → QueueKind → LinkPart
with_queue link queue = record { from = link.from; to = link.to; rate = link.rate; delay = link.delay; queue = queue; capacity = link.capacity; lose = link.lose }

lose_again : (lose rest : List ℕ) → length lose < 256 → AllByRecursion (λ n. n < 4294967296) lose → each_at 4 (big_number 4) (length lose % 256) (flat_map (big_bytes 4) lose ++ rest) ≡ lose
lose_again lose rest few fits =
    ap (λ n. each_at 4 (big_number 4) n (flat_map (big_bytes 4) lose ++ rest)) {x = length lose % 256} {y = length lose} (omega (arith, few))
    ∙ each_again 4 (big_number 4) (big_bytes 4) (λ n. n < 4294967296) (λ n. refl) lost_again lose rest fits

queue_again : (link : LinkPart) (q : QueueKind) (rest : List ℕ) → LinkFits (with_queue link q) → link_in_front (link_image (with_queue link q) ++ rest) ≡ Some (with_queue link q)
queue_again link DropTail rest fits = λ i. Some (record {
  from = two link.from fits.from i;
  to = two link.to fits.to i;
  rate = eight link.rate fits.rate i;
  delay = eight link.delay fits.delay i;
  queue = DropTail;
  capacity = two link.capacity fits.capacity i;
  lose = lose_again link.lose rest fits.few fits.lose i;
})
queue_again link (Codel codel) rest fits =
    let target : codel.target < 18446744073709551616 = omega (arith, fits.queue.target_range.1) in
    let interval : codel.interval < 18446744073709551616 = omega (arith, fits.queue.interval_range.1) in
    let maxpacket : codel.maxpacket < 65536 = omega (arith, fits.queue.maxpacket_range.1) in
    λ i. Some (record {
      from = two link.from fits.from i;
      to = two link.to fits.to i;
      rate = eight link.rate fits.rate i;
      delay = eight link.delay fits.delay i;
      queue = Codel (record { target = eight codel.target target i; interval = eight codel.interval interval i; maxpacket = two codel.maxpacket maxpacket i });
      capacity = two link.capacity fits.capacity i;
      lose = lose_again link.lose rest fits.few fits.lose i;
    })

-- a link's bytes behind its first 42
queue_sized : (link : LinkPart) (q : QueueKind) (rest : List ℕ) → length link.lose < 256 → link_size (link_image (with_queue link q) ++ rest) ≡ length (link_image (with_queue link q))
queue_sized link DropTail rest few = let lost = flat_length 4 (big_bytes 4) (λ n. refl) link.lose in omega (arith, lost, few)
queue_sized link (Codel codel) rest few = let lost = flat_length 4 (big_bytes 4) (λ n. refl) link.lose in omega (arith, lost, few)

links_sized : (links : List LinkPart) (rest : List ℕ) → AllByRecursion LinkFits links → links_size (length links) (flat_map link_image links ++ rest) ≡ length (flat_map link_image links)
links_sized [] rest fits = refl
links_sized (link ∷ links) rest fits =
    let others : List ℕ = flat_map link_image links ++ rest in
    let grouped : flat_map link_image (link ∷ links) ++ rest ≡ link_image link ++ others = append_assoc (link_image link) (flat_map link_image links) rest in
    let size : link_size (flat_map link_image (link ∷ links) ++ rest) ≡ length (link_image link) = ap link_size grouped ∙ queue_sized link link.queue others fits.0.few in
    let later : drop (link_size (flat_map link_image (link ∷ links) ++ rest)) (flat_map link_image (link ∷ links) ++ rest) ≡ others =
    ap (λ xs. drop (link_size (flat_map link_image (link ∷ links) ++ rest)) xs) grouped ∙ drop_at (link_image link) others (link_size (flat_map link_image (link ∷ links) ++ rest)) (sym size) in
    omega (arith, size, ap (links_size (length links)) later, links_sized links rest fits.1, length-append (link_image link) (flat_map link_image links))

links_again : (links : List LinkPart) (rest : List ℕ) → AllByRecursion LinkFits links → links_at (length links) (flat_map link_image links ++ rest) ≡ Some (links, rest)
links_again [] rest fits = refl
links_again (link ∷ links) rest fits =
    let others : List ℕ = flat_map link_image links ++ rest in
    let grouped : flat_map link_image (link ∷ links) ++ rest ≡ link_image link ++ others = append_assoc (link_image link) (flat_map link_image links) rest in
    let size : length (link_image link) ≡ link_size (link_image link ++ others) = sym (queue_sized link link.queue others fits.0.few) in
    let later : drop (link_size (link_image link ++ others)) (link_image link ++ others) ≡ others = drop_at (link_image link) others (link_size (link_image link ++ others)) size in
    let read : Option LinkPart → List ℕ → Option (List LinkPart × List ℕ) = λ first behind. option_and_then (λ link. option_map (λ others. (link ∷ others.0, others.1)) (links_at (length links) behind)) first in
    ap (links_at (suc (length links))) grouped
    ∙ ap (λ first. read first (drop (link_size (link_image link ++ others)) (link_image link ++ others))) (queue_again link link.queue others fits.0)
    ∙ ap (λ xs. read (Some link) xs) later
    ∙ ap (option_map (λ (others : List LinkPart × List ℕ). (link ∷ others.0, others.1))) (links_again links rest fits.1)

-- ---- the flows

flows_again : (version : Version) (flows : List FlowPart) (rest : List ℕ) → AllByRecursion (FlowFits version) flows → flows_at version (length flows) (flat_map (flow_image version) flows ++ rest) ≡ Some flows
flows_again version [] rest fits = refl
flows_again version (flow ∷ flows) rest fits =
    let others : List ℕ = flat_map (flow_image version) flows ++ rest in
    let grouped : flat_map (flow_image version) (flow ∷ flows) ++ rest ≡ flow_image version flow ++ others = append_assoc (flow_image version flow) (flat_map (flow_image version) flows) rest in
    let later : drop (flow_size version) (flow_image version flow ++ others) ≡ others = drop_at (flow_image version flow) others (flow_size version) (flow_sized version flow) in
    let read : Option FlowPart → List ℕ → Option (List FlowPart) = λ first behind. option_and_then (λ flow. option_map (λ others. flow ∷ others) (flows_at version (length flows) behind)) first in
    ap (flows_at version (suc (length flows))) grouped
    ∙ ap (λ first. read first (drop (flow_size version) (flow_image version flow ++ others))) (flow_again version flow others fits.0)
    ∙ ap (λ xs. read (Some flow) xs) later
    ∙ ap (option_map (λ (others : List FlowPart). flow ∷ others)) (flows_again version flows rest fits.1)

-- ---- all parts

flow_fits : (version : Version) (nodes end : ℕ) (flow : FlowPart) → nodes ≤ 256 → end ≤ LATEST_END → MayStandIn version flow → IsFlowInLimits nodes end flow → FlowFits version flow
flow_fits version nodes end flow few early stands limits = record {
  sender = omega (arith, few, limits.sender_node);
  receiver = omega (arith, few, limits.receiver_node);
  mss = omega (arith, limits.mss_range.1);
  segments = omega (arith, limits.segments_range.1);
  start = omega (arith, early, limits.start_range);
  rwnd = omega (arith, limits.rwnd_range.1);
  delack = omega (arith, limits.delack_range);
  stands = stands;
}

route_fits : (nodes links : ℕ) (route : RoutePart) → nodes ≤ 256 → links ≤ 1024 → IsRouteInLimits nodes links route → RouteFits route
route_fits nodes links route few few_links limits = record {
  router = omega (arith, few, limits.router_node);
  destination = omega (arith, few, limits.destination_node);
  link = omega (arith, few_links, limits.link_number);
}

link_fits : (nodes : ℕ) (link : LinkPart) → nodes ≤ 256 → IsLinkInLimits nodes link → LinkFits link
link_fits nodes link few limits = record {
  from = omega (arith, few, limits.from_node);
  to = omega (arith, few, limits.to_node);
  rate = omega (arith, limits.rate_range.1);
  delay = omega (arith, limits.delay_range.1);
  queue = limits.queue_range;
  capacity = omega (arith, limits.capacity_range.1);
  few = omega (arith, limits.lose_limits.lose_count);
  lose = recursion_from_All (λ n. n < 4294967296) link.lose (λ k d below. let range = limits.lose_limits.lose_range k d below in omega (arith, range.1));
}

-- the numbers of parts within limits fit into their bytes
record Fit (version : Version) (parts : ScenarioParts) : Type 0 where
  end : parts.end < 18446744073709551616
  nodes : length parts.nodes < 65536
  links : length parts.links < 65536
  flows : length parts.flows < 65536
  routes : length parts.routes < 4294967296
  each_link : AllByRecursion LinkFits parts.links
  each_flow : AllByRecursion (FlowFits version) parts.flows
  each_route : AllByRecursion RouteFits parts.routes

fit : (version : Version) (parts : ScenarioParts) → IsInLimits parts → All (MayStandIn version) parts.flows → Fit version parts
fit version parts limits stand = record {
  end = omega (arith, limits.end_range.1);
  nodes = omega (arith, limits.counts.node_count.1);
  links = omega (arith, limits.counts.link_count.1);
  flows = omega (arith, limits.counts.flow_count.1);
  routes = omega (arith, limits.counts.route_count);
  each_link = recursion_from_All LinkFits parts.links (λ k d below. link_fits (length parts.nodes) _ limits.counts.node_count.1 (limits.each_link k d below));
  each_flow = recursion_from_All (FlowFits version) parts.flows (λ k d below. flow_fits version (length parts.nodes) parts.end _ limits.counts.node_count.1 limits.end_range.1 (stand k d below) (limits.each_flow k d below));
  each_route = recursion_from_All RouteFits parts.routes (λ k d below. route_fits (length parts.nodes) (length parts.links) _ limits.counts.node_count.1 limits.counts.link_count.1 (limits.each_route k d below));
}

-- the digit at the end of a magic
abbrev digit : Version → ℕ
digit One = 49
digit Two = 50

abbrev start : Version → List ℕ
start version = 84 ∷ 67 ∷ 66 ∷ digit version ∷ []

start_is : (version : Version) → magic version ≡ start version
start_is One = refl
start_is Two = refl

judged : (version : Version) (rest : List ℕ) → version_of (start version ++ rest) ≡ version
judged One rest = refl
judged Two rest = refl

-- what is read where parts are spelled and then a rest
record Reads (version : Version) (parts : ScenarioParts) (rest bytes : List ℕ) : Type 0 where
  parts_are : parts_at bytes ≡ Some (parts, rest)
  sized : layout_size bytes ≡ 22 + (length parts.nodes + (length (flat_map link_image parts.links) + (flow_size version * length parts.flows + 6 * length parts.routes)))

reads : (version : Version) (parts : ScenarioParts) (rest : List ℕ) → Fit version parts → Reads version parts rest (behind_magic (start version) parts (body version parts rest))
reads version parts rest fits = record { parts_are = parts_are; sized = sized }
  where
    bytes : List ℕ
    bytes = behind_magic (start version) parts (body version parts rest)

    routes : List ℕ
    routes = flat_map route_image parts.routes ++ rest

    flows : List ℕ
    flows = flat_map (flow_image version) parts.flows ++ routes

    links : List ℕ
    links = flat_map link_image parts.links ++ flows

    version_is : version_of bytes ≡ version
    version_is = judged version (drop 4 bytes)

    nodes_counted : node_count bytes ≡ length parts.nodes
    nodes_counted = two (length parts.nodes) fits.nodes

    links_counted : link_count bytes ≡ length parts.links
    links_counted = two (length parts.links) fits.links

    flows_counted : flow_count bytes ≡ length parts.flows
    flows_counted = two (length parts.flows) fits.flows

    routes_counted : route_count bytes ≡ length parts.routes
    routes_counted = four (length parts.routes) fits.routes

    kinds : nodes_at (take (node_count bytes) (drop 22 bytes)) ≡ Some parts.nodes
    kinds = ap nodes_at (ap (λ n. take n (map node_byte parts.nodes ++ links)) nodes_counted ∙ take_at (map node_byte parts.nodes) links (length parts.nodes) (length_map node_byte parts.nodes)) ∙ nodes_again parts.nodes

    behind_nodes : drop (22 + node_count bytes) bytes ≡ links
    behind_nodes = sym (drop-drop (node_count bytes) 22 bytes) ∙ ap (λ n. drop n (map node_byte parts.nodes ++ links)) nodes_counted ∙ drop_at (map node_byte parts.nodes) links (length parts.nodes) (length_map node_byte parts.nodes)

    cables : links_at (link_count bytes) (drop (22 + node_count bytes) bytes) ≡ Some (parts.links, flows)
    cables = ap (λ n. links_at n (drop (22 + node_count bytes) bytes)) links_counted ∙ ap (links_at (length parts.links)) behind_nodes ∙ links_again parts.links flows fits.each_link

    streams : flows_at (version_of bytes) (flow_count bytes) flows ≡ Some parts.flows
    streams = ap (λ v. flows_at v (flow_count bytes) flows) version_is ∙ ap (λ n. flows_at version n flows) flows_counted ∙ flows_again version parts.flows routes fits.each_flow

    flows_take : flow_size (version_of bytes) * flow_count bytes ≡ flow_size version * length parts.flows
    flows_take = ap (λ v. flow_size v * flow_count bytes) version_is ∙ ap (λ n. flow_size version * n) flows_counted

    behind_flows : drop (flow_size (version_of bytes) * flow_count bytes) flows ≡ routes
    behind_flows = ap (λ n. drop n flows) flows_take ∙ each_behind (flow_size version) (flow_image version) (flow_sized version) parts.flows routes

    routes_again : each_at 6 route_at (route_count bytes) (drop (flow_size (version_of bytes) * flow_count bytes) flows) ≡ parts.routes
    routes_again =
        ap (λ xs. each_at 6 route_at (route_count bytes) xs) behind_flows ∙ ap (λ n. each_at 6 route_at n routes) routes_counted
        ∙ each_again 6 route_at route_image RouteFits (λ route. refl) route_again parts.routes rest fits.each_route

    behind_routes : drop (6 * route_count bytes) (drop (flow_size (version_of bytes) * flow_count bytes) flows) ≡ rest
    behind_routes = ap (λ xs. drop (6 * route_count bytes) xs) behind_flows ∙ ap (λ n. drop (6 * n) routes) routes_counted ∙ each_behind 6 route_image (λ route. refl) parts.routes rest

    read_parts : parts_with bytes parts.nodes (parts.links, flows) parts.flows ≡ (parts, rest)
    read_parts = λ i. (record { end = eight parts.end fits.end i; nodes = parts.nodes; links = parts.links; flows = parts.flows; routes = routes_again i }, behind_routes i)

    parts_are : parts_at bytes ≡ Some (parts, rest)
    parts_are =
        ap (λ read. option_and_then (λ nodes. option_and_then (parts_behind bytes nodes) (links_at (link_count bytes) (drop (22 + node_count bytes) bytes))) read) kinds
        ∙ ap (option_and_then (parts_behind bytes parts.nodes)) cables
        ∙ ap (option_map (parts_with bytes parts.nodes (parts.links, flows))) streams ∙ ap Some read_parts

    links_take : links_size (link_count bytes) (drop (22 + node_count bytes) bytes) ≡ length (flat_map link_image parts.links)
    links_take = ap (λ n. links_size n (drop (22 + node_count bytes) bytes)) links_counted ∙ ap (links_size (length parts.links)) behind_nodes ∙ links_sized parts.links flows fits.each_link

    sized : layout_size bytes ≡ 22 + (length parts.nodes + (length (flat_map link_image parts.links) + (flow_size version * length parts.flows + 6 * length parts.routes)))
    sized = omega (arith, nodes_counted, flows_take, routes_counted, links_take)

-- an image, as its header and what is behind it
spelled : (version : Version) (parts : ScenarioParts) (rest : List ℕ) → image version parts ++ rest ≡ behind_magic (start version) parts (body version parts rest)
spelled version parts rest = image_regroup version parts rest ∙ ap (λ (xs : List ℕ). behind_magic xs parts (body version parts rest)) (start_is version)

image_sized : (version : Version) (parts : ScenarioParts) → length (image version parts) ≡ 22 + (length parts.nodes + (length (flat_map link_image parts.links) + (flow_size version * length parts.flows + 6 * length parts.routes)))
image_sized version parts =
    omega (
      arith,
      length-append (image version parts) [],
      ap length (spelled version parts []),
      length-append (map node_byte parts.nodes) (flat_map link_image parts.links ++ (flat_map (flow_image version) parts.flows ++ (flat_map route_image parts.routes ++ []))),
      length-append (flat_map link_image parts.links) (flat_map (flow_image version) parts.flows ++ (flat_map route_image parts.routes ++ [])),
      length-append (flat_map (flow_image version) parts.flows) (flat_map route_image parts.routes ++ []),
      length-append (flat_map route_image parts.routes) [],
      length_map node_byte parts.nodes,
      flat_length (flow_size version) (flow_image version) (flow_sized version) parts.flows,
      flat_length 6 route_image (λ route. refl) parts.routes,
    )

-- an image is read again, whatever follows it
pub parts_again : (version : Version) (parts : ScenarioParts) (rest : List ℕ) → IsInLimits parts → All (MayStandIn version) parts.flows → parts_at (image version parts ++ rest) ≡ Some (parts, rest)
parts_again version parts rest limits stand = ap parts_at (spelled version parts rest) ∙ (reads version parts rest (fit version parts limits stand)).parts_are

-- the layout of an image takes the image's bytes
pub parts_sized : (version : Version) (parts : ScenarioParts) (rest : List ℕ) → IsInLimits parts → All (MayStandIn version) parts.flows → layout_size (image version parts ++ rest) ≡ length (image version parts)
parts_sized version parts rest limits stand = ap layout_size (spelled version parts rest) ∙ (reads version parts rest (fit version parts limits stand)).sized ∙ sym (image_sized version parts)
