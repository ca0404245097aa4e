-- The images of a scenario, in two versions, field by field. Numbers stand with their highest byte first.
use Rattle.std.specs.Prelude.{◌≡◌, ℕ, List, [], ◌++◌, length, map, codes, All}
use Rattle.std.specs.List.{flat_map}
use Rattle.byteorder.specs.Endian.{big_bytes}
use Rattle.sim_time.specs.declared.variant.Variant.{Variant}
use Rattle.sim_time.specs.declared.variant.TheConstants.{RENO}
use Rattle.scenario_image.specs.Variants.{variant_byte}
use Rattle.scenario_image.specs.declared.version.Version.{Version}
use Rattle.scenario_image.specs.declared.version.Version.TheVariants.{One, Two}
use Rattle.scenario_image.specs.declared.parts.NodeKind.{NodeKind}
use Rattle.scenario_image.specs.declared.parts.NodeKind.TheVariants.{Sender, Receiver, Router}
use Rattle.sim_time.specs.declared.queue_kind.QueueKind.{QueueKind}
use Rattle.sim_time.specs.declared.queue_kind.QueueKind.TheVariants.{DropTail, Codel}
use Rattle.scenario_image.specs.declared.parts.LinkPart.{LinkPart}
use Rattle.scenario_image.specs.declared.parts.FlowPart.{FlowPart}
use Rattle.scenario_image.specs.declared.parts.RoutePart.{RoutePart}
use Rattle.scenario_image.specs.declared.parts.ScenarioParts.{ScenarioParts}

-- how an image begins
abbrev pub magic : Version → List ℕ
magic One = codes "TCB1"
magic Two = codes "TCB2"

-- the header, 22 bytes: the magic, the end, and how many nodes, links, flows and routes follow
abbrev pub header_image : Version → ScenarioParts → List ℕ
header_image version parts =
    magic version
    ++ big_bytes 8 parts.end
    ++ big_bytes 2 (length parts.nodes)
    ++ big_bytes 2 (length parts.links)
    ++ big_bytes 2 (length parts.flows)
    ++ big_bytes 4 (length parts.routes)

-- a node is one byte
abbrev pub node_byte : NodeKind → ℕ
node_byte Sender = 0
node_byte Receiver = 1
node_byte Router = 2

-- the byte that says which queue a link has
abbrev pub queue_byte : QueueKind → ℕ
queue_byte DropTail = 0
queue_byte (Codel codel) = 1

-- target, interval and maxpacket, 18 bytes, which are 0 with drop-tail
abbrev pub codel_image : QueueKind → List ℕ
codel_image DropTail = big_bytes 8 0 ++ big_bytes 8 0 ++ big_bytes 2 0
codel_image (Codel codel) = big_bytes 8 codel.target ++ big_bytes 8 codel.interval ++ big_bytes 2 codel.maxpacket

-- a link: 42 bytes, the last of which counts its lost packets, and 4 bytes for each of them
abbrev pub link_image : LinkPart → List ℕ
link_image link =
    big_bytes 2 link.from
    ++ big_bytes 2 link.to
    ++ big_bytes 8 link.rate
    ++ big_bytes 8 link.delay
    ++ big_bytes 1 (queue_byte link.queue)
    ++ big_bytes 2 link.capacity
    ++ codel_image link.queue
    ++ big_bytes 1 (length link.lose)
    ++ flat_map (big_bytes 4) link.lose

-- what stands of a flow's variant: nothing in version 1, one byte in version 2
abbrev pub variant_image : Version → Variant → List ℕ
variant_image One variant = []
variant_image Two variant = big_bytes 1 (variant_byte variant)

-- a flow: 26 bytes in version 1, 27 in version 2
abbrev pub flow_image : Version → FlowPart → List ℕ
flow_image version flow =
    big_bytes 2 flow.sender
    ++ big_bytes 2 flow.receiver
    ++ big_bytes 2 flow.mss
    ++ big_bytes 4 flow.segments
    ++ big_bytes 8 flow.start
    ++ big_bytes 4 flow.rwnd
    ++ big_bytes 4 flow.delack
    ++ variant_image version flow.variant

-- a route, 6 bytes
abbrev pub route_image : RoutePart → List ℕ
route_image route = big_bytes 2 route.router ++ big_bytes 2 route.destination ++ big_bytes 2 route.link

-- the header, then each node, each link, each flow and each route
abbrev pub image : Version → ScenarioParts → List ℕ
image version parts =
    header_image version parts
    ++ map node_byte parts.nodes
    ++ flat_map link_image parts.links
    ++ flat_map (flow_image version) parts.flows
    ++ flat_map route_image parts.routes

-- a flow may stand in an image of version 2, and in one of version 1 where it is reno with the smaller initial window
abbrev pub MayStandIn : Version → FlowPart → Type 0
MayStandIn One flow = flow.variant ≡ RENO
MayStandIn Two flow = Unit {0}

-- bytes are an image of parts, of one version or the other
pub record IsImage (bytes : List ℕ) (parts : ScenarioParts) : Type 0 where
  pub version : Version
  pub each_flow : All (MayStandIn version) parts.flows
  pub spelled : bytes ≡ image version parts
