-- What holds in every state of every run, in the words of TCP, of queues and of links.
use Rattle.std.specs.Prelude.{◌≡◌, ◌≢◌, ℕ, ◌+◌, ◌*◌, ◌-◌, ◌%◌, ◌<◌, ◌≤◌, ◌↔◌, ◌⊎◌, List, [], length, Some, IfSome, IsSome, IsNone}
use Rattle.std.specs.List.{slice_get, AllByRecursion}
use Rattle.std.specs.FinMap as finmap
use Rattle.scenario_image.specs.declared.parts.FlowPart.{FlowPart}
use Rattle.scenario_image.specs.declared.parts.ScenarioParts.{ScenarioParts}
use Rattle.scenario_image.specs.Scenario.{IsScenario}
use Rattle.reno_sender.specs.declared.fields.SenderFields.{SenderFields}
use Rattle.reno_receiver.specs.Received.{ReceiverState, IsReceived, next_of}
use Rattle.aqm.specs.Queue.{fifo_of, waiting_in}
use Rattle.port.specs.Port.{PortState}
use Rattle.node_core.specs.declared.timer.Timer.TheVariants.{Retransmission}
use Rattle.node_core.specs.declared.event.Event.TheVariants.{Start, Rto}
use Rattle.node_core.specs.declared.role.Role.TheVariants.{Sends, Receives}
use Rattle.node_core.specs.Timers.{timer_key}
use Rattle.node_core.specs.Part.{link_at}
use Rattle.node_core.specs.Pending.{Events}
use Rattle.node_core.specs.TraceLine.{TraceLine}
use Rattle.table_run.specs.State.{State, part_at}
use Rattle.table_run.specs.Sound.{ArriveInOrder}
use Rattle.table_run.specs.Laws.{ComesTo}

-- P holds of every state that a run of a scenario comes to, and of the lines up to there
abbrev pub InEveryState : (ScenarioParts → List TraceLine → State → Type 0) → Type 0
InEveryState P = (p : ScenarioParts) (n : ℕ) (lines : List TraceLine) (s : State) → IsScenario p → ComesTo p n lines s → P p lines s

-- P holds of the fields of a flow's sender and of what its receiver has
pub record HasEnds (P : SenderFields → ReceiverState → Type 0) (s : State) (number : ℕ) (flow : FlowPart) : Type 0 where
  pub sender : SenderFields
  pub receiver : ReceiverState
  pub sends : (part_at s flow.sender).role ≡ Sends number sender
  pub receives : (part_at s flow.receiver).role ≡ Receives number receiver
  pub holds : P sender receiver

abbrev pub OfEachFlow : (FlowPart → SenderFields → ReceiverState → Type 0) → ScenarioParts → State → Type 0
OfEachFlow P p s = (number : ℕ) (flow : FlowPart) → slice_get p.flows number ≡ Some flow → HasEnds (P flow) s number flow

-- the bytes of a flow
abbrev pub bytes_of_flow : FlowPart → ℕ
bytes_of_flow flow = flow.segments * flow.mss

-- what was acknowledged was received, and what was received was sent; what is received in order is all below the next byte; a flow that is complete has delivered all
pub record IsDelivered (flow : FlowPart) (f : SenderFields) (r : ReceiverState) : Type 0 where
  pub una_nxt : f.una ≤ f.nxt
  pub nxt_high : f.nxt ≤ f.high
  pub high_most : f.high ≤ bytes_of_flow flow
  pub acknowledged : f.una ≤ next_of r
  pub received : next_of r ≤ f.high
  pub in_order : (seq : ℕ) → seq % flow.mss ≡ 0 → seq < next_of r → IsReceived r seq
  pub sent : (seq : ℕ) → IsReceived r seq → seq + flow.mss ≤ f.high
  pub complete : f.una ≡ bytes_of_flow flow → next_of r ≡ bytes_of_flow flow

abbrev pub AcknowledgedWasReceived : Type 0
AcknowledgedWasReceived = InEveryState (λ p _ s. OfEachFlow IsDelivered p s)

-- the windows are a segment at least, and the receiver's bounds what is in flight
pub record IsWindowed (flow : FlowPart) (f : SenderFields) (r : ReceiverState) : Type 0 where
  pub cwnd_least : flow.mss ≤ f.cwnd
  pub ssthresh_least : flow.mss ≤ f.ssthresh
  pub in_flight : f.nxt - f.una ≤ flow.rwnd

abbrev pub WindowsHold : Type 0
WindowsHold = InEveryState (λ p _ s. OfEachFlow IsWindowed p s)

-- the retransmission timer of a flow is set exactly while bytes are in flight; its end is pending then
pub record IsTimed (events : Events) (number : ℕ) (flow : FlowPart) (f : SenderFields) : Type 0 where
  pub runs : IsSome f.deadline ↔ (f.una < f.nxt)
  pub pending : IfSome f.deadline (λ t. finmap.get events (timer_key flow.sender Retransmission t) ≡ Some (Rto number))
  pub rto_least : 1000000000 ≤ f.rto
  pub rto_most : f.rto ≤ 60000000000

abbrev pub TimersRun : Type 0
TimersRun = InEveryState (λ p _ s. (number : ℕ) (flow : FlowPart) → slice_get p.flows number ≡ Some flow → HasEnds (λ f _. IsTimed s.pending number flow f) s number flow)

-- none of the lines is the start of a flow
abbrev pub HasNotStarted : ℕ → List TraceLine → Type 0
HasNotStarted number lines = AllByRecursion (λ (line : TraceLine). line.event ≢ Start number) lines

-- bytes are in flight, and the timer runs
pub record GoesOn (f : SenderFields) : Type 0 where
  pub flies : f.una < f.nxt
  pub timed : IsSome f.deadline

-- a flow that has started goes on until all of it is acknowledged
abbrev pub NoFlowHangs : Type 0
NoFlowHangs = InEveryState (λ p lines s. (number : ℕ) (flow : FlowPart) → slice_get p.flows number ≡ Some flow → HasNotStarted number lines ⊎ HasEnds (λ f _. f.una < bytes_of_flow flow → GoesOn f) s number flow)

-- what was ever sent lies within the receiver's window beyond una
abbrev pub SendsWithinWindow : Type 0
SendsWithinWindow = InEveryState (λ p _ s. OfEachFlow (λ flow f _. f.high ≤ f.una + flow.rwnd) p s)

abbrev pub ArrivalsKeepOrder : Type 0
ArrivalsKeepOrder = InEveryState (λ _ _ s. ArriveInOrder s.pending)

-- nothing waits where a link sends nothing, and no more waits than may
pub record IsKept (port : PortState) : Type 0 where
  pub idle_empty : IsNone port.next_free → waiting_in port.queue ≡ []
  pub room : length (waiting_in port.queue) ≤ (fifo_of port.queue).capacity

abbrev pub IdleLinksAreEmpty : Type 0
IdleLinksAreEmpty = InEveryState (λ p _ s. (node index : ℕ) → index < length (part_at s node).links → IsKept (link_at (part_at s node).links index).port)
