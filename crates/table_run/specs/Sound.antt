-- What every state of every run keeps.
use Rattle.std.specs.Prelude.{◌≡◌, ◌≢◌, ℕ, ◌+◌, ◌*◌, ◌==◌, ◌<◌, ◌≤◌, List, [], length, map as each, count_by, Contains, unwrap_or, Option, None, Some, IfSome, IsNone}
use Rattle.std.specs.List.{slice_get, AllByRecursion}
use Rattle.std.specs.FinMap as finmap
use Rattle.sim_time.specs.declared.key.Key.{Key}
use Rattle.packet_chain.specs.declared.packet.Packet.{Packet}
use Rattle.aqm.specs.Queue.{fifo_of, waiting_in, emptied}
use Rattle.port.specs.Port.{PortState, initial_port}
use Rattle.scenario_image.specs.declared.parts.NodeKind.TheVariants.{Router}
use Rattle.scenario_image.specs.declared.parts.FlowPart.{FlowPart}
use Rattle.scenario_image.specs.declared.parts.LinkPart.{LinkPart}
use Rattle.scenario_image.specs.declared.parts.ScenarioParts.{ScenarioParts}
use Rattle.node_core.specs.declared.timer.Timer.{Timer}
use Rattle.node_core.specs.declared.timer.Timer.TheVariants.{Start as FlowStarts, Retransmission, DelayedAcknowledgement, Free as BecomesFree}
use Rattle.node_core.specs.declared.event.Event.{Event}
use Rattle.node_core.specs.declared.event.Event.TheVariants.{Start, Rto, DelAck, Free, Arrive}
use Rattle.node_core.specs.declared.role.Role.TheVariants.{Routes}
use Rattle.node_core.specs.Timers.{timer_key}
use Rattle.node_core.specs.Pending.{Events}
use Rattle.node_core.specs.Part.{LinkState, link_at}
use Rattle.node_core.specs.TraceLine.{TraceLine}
use Rattle.node_core.specs.Initial.{initial_links, exits_of}
use Rattle.table_run.specs.State.{State, part_at}
use Rattle.table_run.specs.Flow.{sent_high, deadline_of, timer_of, IsUnderWay, IsSoundFlow}

-- P holds of each pending event
abbrev pub EachEvent : (Key → Event → Type 0) → Events → Type 0
EachEvent P events = (k : Key) (v : Event) → finmap.get events k ≡ Some v → P k v

-- a link as it was before anything was offered to it
abbrev pub afresh : LinkState → LinkState
afresh link = record { to = link.to; port = initial_port link.port.link link.port.rate link.port.delay link.port.lose (emptied link.port.queue) }

-- how many of the lines are a node's
abbrev pub lines_at : ℕ → List TraceLine → ℕ
lines_at node lines = count_by (λ line. line.key.node == node) lines

-- a link of a node after so many events at that node: it has begun no more sendings than those, and was offered no more packets than a sender's row each time; what waits is under way, an idle link has nothing waiting, and no more wait than may
pub record IsSoundLink (p : ScenarioParts) (s : State) (events : ℕ) (port : PortState) : Type 0 where
  pub sent_most : port.sent ≤ events
  pub offered_most : port.offered ≤ events * 2147483648
  pub queued : AllByRecursion (λ x. IsUnderWay p s port.link x.0) (waiting_in port.queue)
  pub idle_empty : IsNone port.next_free → waiting_in port.queue ≡ []
  pub room : length (waiting_in port.queue) ≤ (fifo_of port.queue).capacity

-- a node after so many events at it: its links are the scenario's, each as it should be
pub record IsSoundNode (p : ScenarioParts) (s : State) (events node : ℕ) : Type 0 where
  pub its_links : each afresh (part_at s node).links ≡ initial_links p.links node
  pub each_link : AllByRecursion (λ link. IsSoundLink p s events link.port) (part_at s node).links

-- a timer of a node, due where the node has set it
pub record IsTimer (node : ℕ) (timer : Timer) (set : Option ℕ) (k : Key) : Type 0 where
  pub is_key : k ≡ timer_key node timer k.time
  pub is_set : set ≡ Some k.time

-- the start of a flow, which is at its sender
pub record IsStart (p : ScenarioParts) (k : Key) (number : ℕ) : Type 0 where
  pub flow : FlowPart
  pub its_flow : slice_get p.flows number ≡ Some flow
  pub is_key : k ≡ timer_key flow.sender FlowStarts flow.start

-- the end of the retransmission timer of a flow, at its sender
pub record IsTimeout (p : ScenarioParts) (s : State) (k : Key) (number : ℕ) : Type 0 where
  pub flow : FlowPart
  pub its_flow : slice_get p.flows number ≡ Some flow
  pub timer : IsTimer flow.sender Retransmission (deadline_of (part_at s flow.sender).role) k

-- a delayed acknowledgement of a flow, at its receiver
pub record IsDelayed (p : ScenarioParts) (s : State) (k : Key) (number : ℕ) : Type 0 where
  pub flow : FlowPart
  pub its_flow : slice_get p.flows number ≡ Some flow
  pub timer : IsTimer flow.receiver DelayedAcknowledgement (timer_of (part_at s flow.receiver).role) k

-- the link of an index leaves a node
pub record IsLinkOf (s : State) (node index : ℕ) (number : ℕ) : Type 0 where
  pub within : index < length (part_at s node).links
  pub its_number : (link_at (part_at s node).links index).port.link ≡ number

-- a link that becomes free, at the node that it leaves
pub record IsFree (s : State) (k : Key) (number : ℕ) : Type 0 where
  pub index : ℕ
  pub link : IsLinkOf s k.node index number
  pub timer : IsTimer k.node (BecomesFree index) (link_at (part_at s k.node).links index).port.next_free k

-- a packet that arrives: a link of the scenario ends here and has sent it, and all that it has sent arrives within its delay from when it is free
pub record IsArrival (p : ScenarioParts) (s : State) (now : ℕ) (k : Key) (x : Packet) : Type 0 where
  pub number : ℕ
  pub link : LinkPart
  pub its_link : slice_get p.links number ≡ Some link
  pub ends_here : k.node ≡ link.to
  pub comes_over : k.source ≡ number + 1
  pub index : ℕ
  pub leaves : IsLinkOf s link.from index number
  pub was_sent : k.number ≤ (link_at (part_at s link.from).links index).port.sent
  pub counted : 1 ≤ k.number
  pub within_delay : k.time ≤ unwrap_or (link_at (part_at s link.from).links index).port.next_free now + link.delay
  pub under_way : IsUnderWay p s number x

-- each pending event is where it belongs, and each timer is the one that its node has set
abbrev pub Belongs : ScenarioParts → State → ℕ → Key → Event → Type 0
Belongs p s now k (Start flow) = IsStart p k flow
Belongs p s now k (Rto flow) = IsTimeout p s k flow
Belongs p s now k (DelAck flow) = IsDelayed p s k flow
Belongs p s now k (Free link) = IsFree s k link
Belongs p s now k (Arrive packet) = IsArrival p s now k packet

-- a timer that is set is pending under the key of its moment
abbrev pub IsPendingWhereSet : Events → (ℕ → Key) → Event → Option ℕ → Type 0
IsPendingWhereSet events key_at event set = IfSome set (λ t. finmap.get events (key_at t) ≡ Some event)

-- each timer that a node has set is pending
pub record TimersArePending (p : ScenarioParts) (s : State) : Type 0 where
  pub rto_timers : (number : ℕ) (flow : FlowPart) → slice_get p.flows number ≡ Some flow → IsPendingWhereSet s.pending (timer_key flow.sender Retransmission) (Rto number) (deadline_of (part_at s flow.sender).role)
  pub delayed : (number : ℕ) (flow : FlowPart) → slice_get p.flows number ≡ Some flow → IsPendingWhereSet s.pending (timer_key flow.receiver DelayedAcknowledgement) (DelAck number) (timer_of (part_at s flow.receiver).role)
  pub busy : (node index number : ℕ) → IsLinkOf s node index number → IsPendingWhereSet s.pending (timer_key node (BecomesFree index)) (Free number) (link_at (part_at s node).links index).port.next_free

-- a flow's start is pending exactly until it was run
pub record StartsWait (p : ScenarioParts) (lines : List TraceLine) (events : Events) : Type 0 where
  pub waits : (number : ℕ) (flow : FlowPart) → slice_get p.flows number ≡ Some flow → AllByRecursion (λ line. line.event ≢ Start number) lines → finmap.get events (timer_key flow.sender FlowStarts flow.start) ≡ Some (Start number)
  pub run_once : (number : ℕ) (flow : FlowPart) → slice_get p.flows number ≡ Some flow → Contains (each (λ line. line.event) lines) (Start number) → finmap.get events (timer_key flow.sender FlowStarts flow.start) ≡ None

-- a flow that is still to start has sent nothing
abbrev pub NothingSentBefore : ScenarioParts → State → Type 0
NothingSentBefore p s = (number : ℕ) (flow : FlowPart) → slice_get p.flows number ≡ Some flow → finmap.get s.pending (timer_key flow.sender FlowStarts flow.start) ≡ Some (Start number) → sent_high s flow ≡ 0

-- of two packets under way over one link the one that was sent later arrives later
abbrev pub ArriveInOrder : Events → Type 0
ArriveInOrder events = (a b : Key) (x y : Packet) → finmap.get events a ≡ Some (Arrive x) → finmap.get events b ≡ Some (Arrive y) → a.source ≡ b.source → a.number < b.number → a.time < b.time

-- a run of a scenario that has given these lines, the last of them at the moment now
pub record IsSoundAt (p : ScenarioParts) (lines : List TraceLine) (now : ℕ) (s : State) : Type 0 where
  pub end_is : s.end ≡ p.end
  pub nodes_are : length s.parts ≡ length p.nodes
  pub each_flow : (number : ℕ) (flow : FlowPart) → slice_get p.flows number ≡ Some flow → IsSoundFlow s now number flow
  pub each_router : (node : ℕ) → slice_get p.nodes node ≡ Some Router → (part_at s node).role ≡ Routes (each (exits_of p node) p.flows)
  pub each_node : (node : ℕ) → node < length p.nodes → IsSoundNode p s (lines_at node lines) node
  pub belongs : EachEvent (Belongs p s now) s.pending
  pub timers : TimersArePending p s
  pub starts : StartsWait p lines s.pending
  pub unstarted : NothingSentBefore p s
  pub in_order : ArriveInOrder s.pending
  pub not_past : EachEvent (λ k v. now ≤ k.time) s.pending
