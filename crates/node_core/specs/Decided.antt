-- What is decided of an event, and what that makes of its node.
use Rattle.std.specs.Prelude.{◌≡◌, ◌<◌, ◌≤◌, ◌+◌, ◌^◌, ℕ, Bool, false, List, [], ◌∷◌, ◌++◌, length, option_to_list, Option, None, Some}
use Rattle.sim_time.specs.Moment.{IsMoment}
use Rattle.sim_time.specs.declared.key.Key.{Key}
use Rattle.packet_chain.specs.declared.packet.Packet.{Packet}
use Rattle.reno_sender.specs.declared.fields.SenderFields.{SenderFields}
use Rattle.reno_receiver.specs.Received.{ReceiverState}
use Rattle.port.specs.Port.{offered_all, taken}
use Rattle.port.specs.Room.{drops_at}
use Rattle.node_core.specs.declared.timer.Timer.{Timer}
use Rattle.node_core.specs.declared.timer.Timer.TheVariants.{Start as FlowStarts, Retransmission, DelayedAcknowledgement, Free as BecomesFree}
use Rattle.node_core.specs.declared.decision.Decision.{Decision}
use Rattle.node_core.specs.declared.decision.Decision.TheVariants.{Leave, PassOn, TakeNext, Send}
use Rattle.node_core.specs.declared.decision.Sending.{Sending}
use Rattle.node_core.specs.declared.event.Event.{Event}
use Rattle.node_core.specs.declared.event.Event.TheVariants.{Start, Rto, DelAck, Free, Arrive}
use Rattle.node_core.specs.declared.role.Role.{Role}
use Rattle.node_core.specs.declared.role.Role.TheVariants.{Sends, Receives, Routes}
use Rattle.node_core.specs.Timers.{first_free, timer_number, timer_key}
use Rattle.node_core.specs.InStep.{HasItsLink, flow_of, rto_deadline, delayed_of}
use Rattle.node_core.specs.Links.{packets_of}
use Rattle.node_core.specs.Part.{LinkState, PartState, link_at}
use Rattle.node_core.specs.Ready.{CanHandle, IsOfLink, IsSetBy}
use Rattle.node_core.specs.Row.{Effect, quiet, row, timer_moved, with_step}
use Rattle.node_core.specs.RouteTable.{exit_for}
use Rattle.node_core.specs.Running.{part}

-- the packets that an end sends: those that have cells, and behind them the one that takes the arriving packet's
abbrev pub sent_by_end : Sending → List Packet
sent_by_end sending = packets_of sending.cells ++ option_to_list sending.last

-- the packet that arrives, if one does
abbrev pub arriving : Event → List Packet
arriving (Start flow) = []
arriving (Rto flow) = []
arriving (DelAck flow) = []
arriving (Free link) = []
arriving (Arrive packet) = packet ∷ []

-- what the timer of a flow's end announces
abbrev pub end_timer_event : ℕ → Timer → Event
end_timer_event flow FlowStarts = Start flow
end_timer_event flow Retransmission = Rto flow
end_timer_event flow DelayedAcknowledgement = DelAck flow
end_timer_event flow (BecomesFree index) = Free index

-- when the timer of an end ends
abbrev pub end_timer_of : Role → Timer → Option ℕ
end_timer_of role FlowStarts = None
end_timer_of role Retransmission = rto_deadline role
end_timer_of role DelayedAcknowledgement = delayed_of role
end_timer_of role (BecomesFree index) = None

-- the effect of what is decided of an event, at a part that has this role afterwards
abbrev pub decided_effect : PartState → Role → Key → Event → Decision → Effect
decided_effect part role key event Leave = quiet part
decided_effect part role key event (PassOn index) = with_step part role [] index (offered_all key.time (link_at part.links index).port (arriving event))
decided_effect part role key event (TakeNext index) = with_step part role [] index (taken key.time (link_at part.links index).port)
decided_effect part role key event (Send sending) =
    with_step part role (timer_moved (timer_key key.node sending.timer) (end_timer_event (flow_of part.role) sending.timer) (end_timer_of part.role sending.timer) sending.time) 0
    (offered_all key.time (link_at part.links 0).port (sent_by_end sending))

-- an end's timer is to end when the end has it
pub data IsEndTimerOf (old new : Role) (timer : Timer) (time : Option ℕ) : Type 0 where
  of_sender : (flow : ℕ) (fields planned : SenderFields) → old ≡ Sends flow fields → new ≡ Sends flow planned → timer ≡ Retransmission → time ≡ planned.deadline → IsEndTimerOf old new timer time
  of_receiver : (flow : ℕ) (state answered : ReceiverState) → old ≡ Receives flow state → new ≡ Receives flow answered → timer ≡ DelayedAcknowledgement → time ≡ answered.timer → IsEndTimerOf old new timer time

-- the timer of an end moves at the flow's start, at its own end, and where a packet arrives
abbrev pub CanMove : Timer → Event → Type 0
CanMove timer (Start flow) = Unit {0}
CanMove timer (Rto flow) = timer ≡ Retransmission
CanMove timer (DelAck flow) = timer ≡ DelayedAcknowledgement
CanMove timer (Free link) = ⊥
CanMove timer (Arrive packet) = Unit {0}

-- a start or a packet may find nothing to do; a timer that ends and a link that is free do not
abbrev pub CanLeave : Event → Type 0
CanLeave (Start flow) = Unit {0}
CanLeave (Rto flow) = ⊥
CanLeave (DelAck flow) = ⊥
CanLeave (Free link) = ⊥
CanLeave (Arrive packet) = Unit {0}

-- the role moves only where an end sends, together with its timer
abbrev pub Suits : Role → Role → Event → Decision → Type 0
Suits old new event Leave = (new ≡ old) × CanLeave event
Suits old new event (PassOn index) = new ≡ old
Suits old new event (TakeNext index) = new ≡ old
Suits old new event (Send sending) = IsEndTimerOf old new sending.timer sending.time

abbrev pub IsArriving : Event → Type 0
IsArriving event = (packet : Packet) × (event ≡ Arrive packet)

-- a packet arrives, its link is there, and there is room for what happens to it
pub record CanPass (event : Event) (links : List LinkState) (room index : ℕ) : Type 0 where
  pub arrives : IsArriving event
  pub within : index < length links
  pub room_for : 1 ≤ room

-- the event is the link's, and there is room for what its queue drops and what it sends
pub record CanTake (key : Key) (event : Event) (links : List LinkState) (room index : ℕ) : Type 0 where
  pub frees : (link : ℕ) × (event ≡ Free link)
  pub number : key.number ≡ timer_number (BecomesFree index)
  pub within : index < length links
  pub room_for : drops_at key.time (link_at links index).port + 1 ≤ room

-- the end has its link, there is room for what happens to its packets, and a packet without a cell finds the arriving packet's
pub record CanSend (event : Event) (links : List LinkState) (room : ℕ) (sending : Sending) : Type 0 where
  pub linked : 0 < length links
  pub room_for : length (sent_by_end sending) ≤ room
  pub few : length sending.cells ≤ 2 ^ 40
  pub end_timer : timer_number sending.timer < first_free
  pub moves : CanMove sending.timer event
  pub cell : (packet : Packet) → sending.last ≡ Some packet → IsArriving event

-- what is decided can be done at these links, with room for so many acts
abbrev pub CanDo : Key → Event → List LinkState → ℕ → Decision → Type 0
CanDo key event links room Leave = Unit {0}
CanDo key event links room (PassOn index) = CanPass event links room index
CanDo key event links room (TakeNext index) = CanTake key event links room index
CanDo key event links room (Send sending) = CanSend event links room sending

-- the link by which a packet goes on from a node
abbrev pub route_of : Role → Packet → Option ℕ
route_of (Sends flow fields) packet = None
route_of (Receives flow state) packet = None
route_of (Routes table) packet = exit_for table packet

-- a packet arrives at a router, which has a link for it
pub record IsRouted (role : Role) (event : Event) (index : ℕ) : Type 0 where
  pub packet : Packet
  pub arrives : event ≡ Arrive packet
  pub route : route_of role packet ≡ Some index

-- what is needed of a role, its links and an event, so that what the event does is decided
pub record CanDecide (role : Role) (links : List LinkState) (key : Key) (event : Event) : Type 0 where
  pub moment : IsMoment key.time
  pub set : IsSetBy role event
  pub own : IsOfLink key.number (length links) event
  pub takes : CanHandle (part role links) key.time event
  pub linked : HasItsLink role links
  pub few : length links ≤ 1024

-- what is decided has the row's effect, and can be done
pub record IsDecided (old new : Role) (links : List LinkState) (key : Key) (event : Event) (room : ℕ) (decision : Decision) : Type 0 where
  pub row_is : row (part old links) key event ≡ decided_effect (part old links) new key event decision
  pub suits : Suits old new event decision
  pub can : CanDo key event links room decision

-- packets are to be sent, and this holds of them
abbrev pub OnSend : (Sending → Type 0) → Decision → Type 0
OnSend P Leave = ⊥
OnSend P (PassOn index) = ⊥
OnSend P (TakeNext index) = ⊥
OnSend P (Send sending) = P sending

-- these packets are to be sent, this timer is to end then, and only where a packet arrives is one without a cell
pub record IsSent (arrives : Bool) (packets : List Packet) (timer : Timer) (time : Option ℕ) (room : ℕ) (sending : Sending) : Type 0 where
  pub sent : sent_by_end sending ≡ packets
  pub timer_is : sending.timer ≡ timer
  pub time_is : sending.time ≡ time
  pub room_for : length packets ≤ room
  pub few : length sending.cells ≤ 2 ^ 40
  pub in_cells : arrives ≡ false → sending.last ≡ None
