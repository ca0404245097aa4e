-- What each run begins with, and what of its scenario stays.
use Rattle.std.specs.Prelude.{◌≡◌, ℕ, ◌*◌, ◌<◌, min, max, nat_lt, if◌then◌else◌, false, List, [], length, None, Some}
use Rattle.std.specs.List.{slice_get}
use Rattle.sim_time.specs.declared.queue_kind.QueueKind.{QueueKind}
use Rattle.sim_time.specs.declared.queue_kind.QueueKind.TheVariants.{DropTail as DropTailKind, Codel as CodelKind}
use Rattle.packet_chain.specs.declared.packet.Packet.{Packet}
use Rattle.packet_chain.specs.declared.packet.Kind.{Kind}
use Rattle.packet_chain.specs.declared.packet.Kind.TheVariants.{Data, Ack}
use Rattle.sim_time.specs.declared.variant.Iw.{Iw}
use Rattle.sim_time.specs.declared.variant.Iw.TheVariants.{Iw3, Iw10}
use Rattle.scenario_image.specs.declared.parts.FlowPart.{FlowPart}
use Rattle.scenario_image.specs.declared.parts.LinkPart.{LinkPart}
use Rattle.scenario_image.specs.declared.parts.ScenarioParts.{ScenarioParts}
use Rattle.scenario_image.specs.declared.parts.NodeKind.TheVariants.{Router}
use Rattle.scenario_image.specs.Kinds.{link_source}
use Rattle.scenario_image.specs.Paths.{route_link}
use Rattle.scenario_image.specs.Scenario.{IsScenario}
use Rattle.reno_sender.specs.declared.fields.SenderFields.{SenderFields}
use Rattle.reno_receiver.specs.Received.{ReceiverState, IsReceived}
use Rattle.aqm.specs.declared.queue.Queue.{Queue}
use Rattle.aqm.specs.declared.queue.Queue.TheVariants.{DropTail, Codel}
use Rattle.aqm.specs.Codel.{CodelState}
use Rattle.aqm.specs.Queue.{fifo_of, waiting_in}
use Rattle.port.specs.Port.{PortState}
use Rattle.node_core.specs.declared.role.Role.TheVariants.{Routes}
use Rattle.node_core.specs.declared.routes.FlowExits.{FlowExits}
use Rattle.node_core.specs.RouteTable.{exit_for}
use Rattle.node_core.specs.Part.{LinkState, link_at}
use Rattle.table_run.specs.State.{State, initial, part_at}
use Rattle.run_laws.specs.Laws.{InEveryState, OfEachFlow}
use Rattle.run_laws.specs.Links.{port_of_link}

-- the initial window: four segments, three where a segment has over 1,095 bytes, two where it has over 2,190 (RFC 5681 section 3.1); or ten, but of more than 14,600 bytes only two (RFC 6928 section 2)
abbrev pub first_window : ℕ → Iw → ℕ
first_window mss Iw3 = if nat_lt 2190 mss then 2 * mss else (if nat_lt 1095 mss then 3 * mss else 4 * mss)
first_window mss Iw10 = min (10 * mss) (max (2 * mss) 14600)

-- at first nothing of a flow is sent or received, the timer is off, and the rto is a second
pub record BeginsAfresh (flow : FlowPart) (f : SenderFields) (r : ReceiverState) : Type 0 where
  pub una : f.una ≡ 0
  pub nxt : f.nxt ≡ 0
  pub high : f.high ≡ 0
  pub cwnd : f.cwnd ≡ first_window flow.mss flow.variant.iw
  pub ssthresh : f.ssthresh ≡ flow.rwnd
  pub dups : f.dups ≡ 0
  pub lt : f.lt ≡ 0
  pub recovery : f.recovery ≡ false
  pub recover : f.recover ≡ None
  pub timing : f.timing ≡ None
  pub srtt : f.srtt ≡ None
  pub rto : f.rto ≡ 1000000000
  pub deadline : f.deadline ≡ None
  pub resent : f.resent ≡ false
  pub none_received : (seq : ℕ) → IsReceived r seq → ⊥
  pub none_waits : r.timer ≡ None

abbrev pub FlowsBeginAfresh : Type 0
FlowsBeginAfresh = (p : ScenarioParts) → IsScenario p → OfEachFlow BeginsAfresh p (initial p)

-- what the scenario states of a flow stays so at both ends
pub record IsAsStated (flow : FlowPart) (f : SenderFields) (r : ReceiverState) : Type 0 where
  pub mss : f.mss ≡ flow.mss
  pub segments : f.segments ≡ flow.segments
  pub rwnd : f.rwnd ≡ flow.rwnd
  pub variant : f.variant ≡ flow.variant
  pub received_mss : r.mss ≡ flow.mss

abbrev pub FlowsStayAsStated : Type 0
FlowsStayAsStated = InEveryState (λ p _ s. OfEachFlow IsAsStated p s)

-- at first nothing was offered to a link, and it is idle; CoDel is outside drop state
pub record BeginsIdle (port : PortState) : Type 0 where
  pub offered : port.offered ≡ 0
  pub sent : port.sent ≡ 0
  pub idle : port.next_free ≡ None
  pub empty : waiting_in port.queue ≡ []
  pub codel : (s : CodelState) → port.queue ≡ Codel s → (s.first_above ≡ None) × (s.dropping ≡ false) × (s.count ≡ 0) × (s.lastcount ≡ 0) × (s.drop_next ≡ 0)

abbrev pub LinksBeginIdle : Type 0
LinksBeginIdle = (p : ScenarioParts) → IsScenario p → (node index : ℕ) → index < length (part_at (initial p) node).links → BeginsIdle (port_of_link (initial p) node index)

-- a queue of a kind, with its parameters
abbrev pub IsOfKind : QueueKind → Queue → Type 0
IsOfKind DropTailKind (DropTail s) = Unit {0}
IsOfKind DropTailKind (Codel s) = ⊥
IsOfKind (CodelKind c) (DropTail s) = ⊥
IsOfKind (CodelKind c) (Codel s) = (s.target ≡ c.target) × (s.interval ≡ c.interval) × (s.maxpacket ≡ c.maxpacket)

-- a link of a node is the scenario's link of its number, which leaves that node, with all that the scenario states of it
pub record IsLinkAsStated (p : ScenarioParts) (node : ℕ) (link : LinkState) : Type 0 where
  pub part : LinkPart
  pub its_part : slice_get p.links link.port.link ≡ Some part
  pub from : part.from ≡ node
  pub to : link.to ≡ part.to
  pub rate : link.port.rate ≡ part.rate
  pub delay : link.port.delay ≡ part.delay
  pub lose : link.port.lose ≡ part.lose
  pub capacity : (fifo_of link.port.queue).capacity ≡ part.capacity
  pub kind : IsOfKind part.queue link.port.queue

abbrev pub LinksStayAsStated : Type 0
LinksStayAsStated = InEveryState (λ p _ s. (node index : ℕ) → index < length (part_at s node).links → IsLinkAsStated p node (link_at (part_at s node).links index))

-- the node that a flow's packets of a kind go to
abbrev pub end_of : Kind → FlowPart → ℕ
end_of Data flow = flow.receiver
end_of Ack flow = flow.sender

-- a router's table leads a packet over the link of this number
pub record LeadsOver (s : State) (node next : ℕ) (x : Packet) : Type 0 where
  pub table : List FlowExits
  pub role : (part_at s node).role ≡ Routes table
  pub index : ℕ
  pub exit : exit_for table x ≡ Some index
  pub within : index < length (part_at s node).links
  pub link : (port_of_link s node index).link ≡ next

-- a router leads each packet of a flow over the link of its route for the end of the packet's path
abbrev pub RoutersStayAsStated : Type 0
RoutersStayAsStated = InEveryState (λ p _ s. (node next : ℕ) (flow : FlowPart) (x : Packet) → slice_get p.nodes node ≡ Some Router → slice_get p.flows x.flow ≡ Some flow → route_link p.routes node (end_of x.kind flow) ≡ Some next → link_source p.links next ≡ Some node → LeadsOver s node next x)
