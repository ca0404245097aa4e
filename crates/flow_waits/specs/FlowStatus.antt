-- How a flow stands, and the words that say it.
use Rattle.std.specs.Prelude.{ℕ, ◌==◌, ◌+◌, min, Bool, nat_lt, nat_le, if◌then◌else◌, List, [], ◌∷◌, codes, decimal, Option, None, Some}
use Rattle.std.specs.Option.{option_or}
use Rattle.sim_time.specs.declared.key.Key.{Key}
use Rattle.reno_sender.specs.declared.fields.SenderFields.{SenderFields}
use Rattle.reno_sender.specs.Fields.{total, flight_size}
use Rattle.node_core.specs.declared.event.Event.{Event}
use Rattle.node_core.specs.declared.event.Event.TheVariants.{Start, Rto, DelAck, Free, Arrive}
use Rattle.trace_text.specs.Words.{◌+++◌}
use Rattle.flow_waits.specs.declared.timer.FlowTimer.{FlowTimer}
use Rattle.flow_waits.specs.declared.timer.FlowTimer.TheVariants.{Starts, Retransmission, DelayedAcknowledgement}
use Rattle.flow_waits.specs.declared.timer.DueTimer.{DueTimer}
use Rattle.flow_waits.specs.declared.flow_status.FlowStatus.{FlowStatus}
use Rattle.flow_waits.specs.declared.flow_status.FlowStatus.TheVariants.{NotStarted, Complete, Stalled, SentAll, SendsNoMore, MaySend}
use Rattle.flow_waits.specs.Stalled.{is_unfinished}

-- a timer, where it is one of a flow that is asked for
abbrev pub timer_if : Bool → FlowTimer → Option FlowTimer
timer_if is_own timer = if is_own then Some timer else None

-- which of a flow's timers an event is, if it is one
abbrev pub own_timer : ℕ → Event → Option FlowTimer
own_timer flow (Start own) = timer_if (own == flow) Starts
own_timer flow (Rto own) = timer_if (own == flow) Retransmission
own_timer flow (DelAck own) = timer_if (own == flow) DelayedAcknowledgement
own_timer flow (Free link) = None
own_timer flow (Arrive packet) = None

-- a timer with the moment at which it is due, in nanoseconds
abbrev pub due_at : ℕ → Option FlowTimer → Option DueTimer
due_at time None = None
due_at time (Some timer) = Some (record { time = time; timer = timer })

-- the timer of a flow that is due first
abbrev pub first_timer : ℕ → List (Key × Event) → Option DueTimer
first_timer flow [] = None
first_timer flow (entry ∷ pending) = option_or (due_at entry.0.time (own_timer flow entry.1)) (first_timer flow pending)

-- the bytes that may be in flight: the least of the congestion window and the receiver's window (RFC 5681 section 3.1)
abbrev pub window : SenderFields → ℕ
window f = min f.cwnd f.rwnd

-- the bytes in flight with one more segment
abbrev pub with_next : SenderFields → ℕ
with_next f = flight_size f + f.mss

-- of a flow that was started and is not complete, with packets in the net: one more segment fits where the window holds it and what is in flight
abbrev pub sending_status : SenderFields → FlowStatus
sending_status f =
    if f.nxt == total f then SentAll
    else (if nat_lt (window f) (with_next f) then SendsNoMore else MaySend)

-- of a flow that was started, by whether packets of it wait or are under way
abbrev pub started_status : Bool → SenderFields → FlowStatus
started_status packets f =
    if is_unfinished f then (if packets then sending_status f else Stalled) else Complete

-- of any flow, by when it starts, where that is still to come
abbrev pub flow_status_of : Option ℕ → Bool → SenderFields → FlowStatus
flow_status_of (Some time) packets f = NotStarted time
flow_status_of None packets f = started_status packets f

-- the word behind a count, which is another for a count of one
abbrev pub plural : ℕ → List ℕ → List ℕ → List ℕ
plural n one other = if n == 1 then one else other

-- what wakes a flow that is stalled
abbrev pub timer_name : FlowTimer → List ℕ
timer_name Starts = codes "its start"
timer_name Retransmission = codes "its retransmission timer"
timer_name DelayedAcknowledgement = codes "its delayed acknowledgement"

abbrev pub wake_text : Option DueTimer → List ℕ
wake_text None = codes "nothing goes on with it"
wake_text (Some due) = timer_name due.timer +++ codes " is due at " +++ decimal due.time +++ codes " ns"

-- of a flow that is stalled: its duplicate acknowledgements
abbrev pub stalled_text : ℕ → Option DueTimer → List ℕ
stalled_text dups timer =
    codes " is stalled: " +++ decimal dups +++ codes " duplicate acknowledgement" +++ plural dups (codes "") (codes "s") +++ codes ", and " +++ wake_text timer +++ codes "\n"

-- the bytes of a flow
abbrev pub complete_text : ℕ → List ℕ
complete_text total = codes " is complete: all " +++ decimal total +++ codes " " +++ plural total (codes "byte is") (codes "bytes are") +++ codes " acknowledged\n"

-- and those of them that are acknowledged
abbrev pub sent_text : ℕ → ℕ → List ℕ
sent_text total una =
    codes " has sent all " +++ decimal total +++ codes " " +++ plural total (codes "byte") (codes "bytes") +++ codes ": "
    +++ decimal una +++ codes " " +++ plural una (codes "is") (codes "are") +++ codes " acknowledged\n"

-- the bytes that are sent and not acknowledged, and those of one more segment
abbrev pub flight_text : ℕ → ℕ → List ℕ
flight_text flight mss = decimal flight +++ codes " " +++ plural flight (codes "byte") (codes "bytes") +++ codes " in flight, a segment of " +++ decimal mss

-- of a flow into whose window one more segment does not fit, with the window that is the least, and of one into whose window it fits
abbrev pub full_text : ℕ → ℕ → List ℕ → ℕ → List ℕ
full_text flight mss window bytes = codes " sends no more: " +++ flight_text flight mss +++ codes ", " +++ window +++ codes " " +++ decimal bytes +++ codes "\n"

abbrev pub open_text : ℕ → ℕ → ℕ → List ℕ
open_text flight mss cwnd = codes " may send at its next acknowledgement: " +++ flight_text flight mss +++ codes ", cwnd " +++ decimal cwnd +++ codes "\n"

-- how a flow stands; of one that is stalled also which timer is due first
abbrev pub flow_status_text : SenderFields → Option DueTimer → FlowStatus → List ℕ
flow_status_text f timer (NotStarted time) = codes " is not started: it starts at " +++ decimal time +++ codes " ns\n"
flow_status_text f timer Complete = complete_text (total f)
flow_status_text f timer Stalled = stalled_text f.dups timer
flow_status_text f timer SentAll = sent_text (total f) f.una
flow_status_text f timer SendsNoMore =
    if nat_le f.cwnd f.rwnd then full_text (flight_size f) f.mss (codes "cwnd") f.cwnd
    else full_text (flight_size f) f.mss (codes "rwnd") f.rwnd
flow_status_text f timer MaySend = open_text (flight_size f) f.mss f.cwnd
