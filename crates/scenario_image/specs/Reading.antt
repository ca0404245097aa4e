-- What the functions that read an image answer, part by part. No public contract cites these.
use Rattle.std.specs.Prelude.{◌≡◌, ℕ, zero, suc, ◌+◌, ◌*◌, ◌==◌, ◌&&◌, if◌then◌else◌, List, [], ◌∷◌, take, drop, slice_index, Option, Some, None, Result, Ok, Err}
use Rattle.std.specs.Option.{option_map, option_and_then}
use Rattle.byteorder.specs.Endian.{big_number}
use Rattle.sim_time.specs.declared.variant.Variant.{Variant}
use Rattle.sim_time.specs.declared.variant.TheConstants.{RENO}
use Rattle.scenario_image.specs.Variants.{variant_of_byte}
use Rattle.scenario_image.specs.Layout.{version_of, node_count, link_count, flow_count, route_count, link_size, flow_size}
use Rattle.scenario_image.specs.declared.fault.LoadFault.{LoadFault}
use Rattle.scenario_image.specs.declared.fault.LoadFault.TheVariants.{L1, L2, L3, L4, L5, L6, L7, L8, NoMemory}
use Rattle.scenario_image.specs.declared.layout.TheConstants.{HEADER, LINK, LOST_COUNT, LOST, FLOW, ROUTE}
use Rattle.scenario_image.specs.declared.parts.NodeKind.{NodeKind}
use Rattle.scenario_image.specs.declared.parts.NodeKind.TheVariants.{Sender, Receiver, Router}
use Rattle.sim_time.specs.declared.queue_kind.CodelParameters.{CodelParameters}
use Rattle.sim_time.specs.declared.queue_kind.QueueKind.{QueueKind}
use Rattle.sim_time.specs.declared.queue_kind.QueueKind.TheVariants.{DropTail, Codel}
use Rattle.scenario_image.specs.declared.parts.LinkPart.{LinkPart}
use Rattle.scenario_image.specs.declared.parts.FlowPart.{FlowPart}
use Rattle.scenario_image.specs.declared.parts.RoutePart.{RoutePart}
use Rattle.scenario_image.specs.declared.parts.ScenarioParts.{ScenarioParts}
use Rattle.scenario_image.specs.declared.version.Version.{Version}
use Rattle.scenario_image.specs.declared.version.Version.TheVariants.{One, Two}

-- so many items, one after the other, each of which takes so many bytes
abbrev pub each_at : {X : Type 0} → ℕ → (List ℕ → X) → ℕ → List ℕ → List X
each_at size read zero bytes = []
each_at size read (suc more) bytes = read bytes ∷ each_at size read more (drop size bytes)

-- the node that a byte stands for
abbrev pub node_of_byte : ℕ → Option NodeKind
node_of_byte zero = Some Sender
node_of_byte (suc zero) = Some Receiver
node_of_byte (suc (suc zero)) = Some Router
node_of_byte (suc (suc (suc byte))) = None

-- the nodes that bytes stand for
abbrev pub nodes_at : List ℕ → Option (List NodeKind)
nodes_at [] = Some []
nodes_at (byte ∷ bytes) = option_and_then (λ kind. option_map (λ kinds. kind ∷ kinds) (nodes_at bytes)) (node_of_byte byte)

-- the numbers where CoDel's stand in a link's bytes
abbrev pub codel_at : List ℕ → CodelParameters
codel_at bytes = record { target = big_number 8 (drop 23 bytes); interval = big_number 8 (drop 31 bytes); maxpacket = big_number 2 (drop 39 bytes) }

-- the queue that a byte stands for, with these numbers where CoDel's stand
abbrev pub queue_of_byte : ℕ → CodelParameters → Option QueueKind
queue_of_byte zero codel = if ((codel.target == 0) && (codel.interval == 0)) && (codel.maxpacket == 0) then Some DropTail else None
queue_of_byte (suc zero) codel = Some (Codel codel)
queue_of_byte (suc (suc byte)) codel = None

-- the link at the front, with its queue
abbrev pub link_with : List ℕ → QueueKind → LinkPart
link_with bytes queue = record {
  from = big_number 2 bytes;
  to = big_number 2 (drop 2 bytes);
  rate = big_number 8 (drop 4 bytes);
  delay = big_number 8 (drop 12 bytes);
  queue = queue;
  capacity = big_number 2 (drop 21 bytes);
  lose = each_at LOST (big_number 4) (slice_index bytes LOST_COUNT) (drop LINK bytes);
}

-- the link at the front
abbrev pub link_in_front : List ℕ → Option LinkPart
link_in_front bytes = option_map (link_with bytes) (queue_of_byte (slice_index bytes 20) (codel_at bytes))

-- so many links, and the bytes behind them
abbrev pub links_at : ℕ → List ℕ → Option (List LinkPart × List ℕ)
links_at zero bytes = Some ([], bytes)
links_at (suc more) bytes =
    option_and_then (λ link. option_map (λ others. (link ∷ others.0, others.1)) (links_at more (drop (link_size bytes) bytes))) (link_in_front bytes)

-- the variant of the flow at the front, of which version 1 says nothing
abbrev pub variant_at : Version → List ℕ → Option Variant
variant_at One bytes = Some RENO
variant_at Two bytes = variant_of_byte (slice_index bytes FLOW)

-- the flow at the front, with its variant
abbrev pub flow_with : List ℕ → Variant → FlowPart
flow_with bytes variant = record {
  sender = big_number 2 bytes;
  receiver = big_number 2 (drop 2 bytes);
  mss = big_number 2 (drop 4 bytes);
  segments = big_number 4 (drop 6 bytes);
  start = big_number 8 (drop 10 bytes);
  rwnd = big_number 4 (drop 18 bytes);
  delack = big_number 4 (drop 22 bytes);
  variant = variant;
}

-- the flow at the front
abbrev pub flow_at : Version → List ℕ → Option FlowPart
flow_at version bytes = option_map (flow_with bytes) (variant_at version bytes)

-- so many flows
abbrev pub flows_at : Version → ℕ → List ℕ → Option (List FlowPart)
flows_at version zero bytes = Some []
flows_at version (suc more) bytes =
    option_and_then (λ flow. option_map (λ flows. flow ∷ flows) (flows_at version more (drop (flow_size version) bytes))) (flow_at version bytes)

-- the route at the front
abbrev pub route_at : List ℕ → RoutePart
route_at bytes = record { router = big_number 2 bytes; destination = big_number 2 (drop 2 bytes); link = big_number 2 (drop 4 bytes) }

-- the parts that these are with the nodes, the links and the bytes behind these, and the flows; and the bytes behind all
abbrev pub parts_with : List ℕ → List NodeKind → List LinkPart × List ℕ → List FlowPart → ScenarioParts × List ℕ
parts_with bytes nodes links flows =
    let routes : List ℕ = drop (flow_size (version_of bytes) * flow_count bytes) links.1 in (
      record {
        end = big_number 8 (drop 4 bytes);
        nodes = nodes;
        links = links.0;
        flows = flows;
        routes = each_at ROUTE route_at (route_count bytes) routes;
      },
      drop (ROUTE * route_count bytes) routes,
    )

-- the parts that these are with the nodes and links, and the bytes behind all
abbrev pub parts_behind : List ℕ → List NodeKind → List LinkPart × List ℕ → Option (ScenarioParts × List ℕ)
parts_behind bytes nodes links = option_map (parts_with bytes nodes links) (flows_at (version_of bytes) (flow_count bytes) links.1)

-- all parts, and the bytes behind them
abbrev pub parts_at : List ℕ → Option (ScenarioParts × List ℕ)
parts_at bytes =
    option_and_then (λ nodes. option_and_then (parts_behind bytes nodes) (links_at (link_count bytes) (drop (HEADER + node_count bytes) bytes)))
    (nodes_at (take (node_count bytes) (drop HEADER bytes)))

-- what a function answered, seen by view, is what reading gives, unless memory ran out
abbrev pub Fails : {Y : Type 0} → LoadFault → Option Y → Type 0
Fails L1 read = ⊥
Fails L2 read = ⊥
Fails L3 read = read ≡ None
Fails L4 read = ⊥
Fails L5 read = ⊥
Fails L6 read = ⊥
Fails L7 read = ⊥
Fails L8 read = ⊥
Fails NoMemory read = Unit {0}

abbrev pub Gives : {X Y : Type 0} → (X → Y) → Result X LoadFault → Option Y → Type 0
Gives view (Ok x) read = read ≡ Some (view x)
Gives view (Err fault) read = Fails fault read
