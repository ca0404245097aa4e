-- What one event does at its node: one equation for each kind of event and of node.
use Rattle.std.specs.Prelude.{ℕ, ◌+◌, List, [], ◌∷◌, ◌++◌, map, slice_set, Option, None, Some}
use Rattle.sim_time.specs.declared.key.Key.{Key}
use Rattle.packet_chain.specs.declared.packet.Packet.{Packet}
use Rattle.packet_chain.specs.declared.packet.Kind.{Kind}
use Rattle.packet_chain.specs.declared.packet.Kind.TheVariants.{Data, Ack}
use Rattle.reno_sender.specs.declared.fields.SenderFields.{SenderFields}
use Rattle.reno_sender.specs.Sending.{Planned}
use Rattle.reno_sender.specs.Table.{started, acknowledged, timed_out}
use Rattle.reno_receiver.specs.declared.reply.Reply.{Reply}
use Rattle.reno_receiver.specs.declared.reply.Reply.TheVariants.{AckNow, Wait}
use Rattle.reno_receiver.specs.Received.{ReceiverState, Answered, data_came, timer_came, next_of}
use Rattle.port.specs.declared.acts.Act.{Act}
use Rattle.port.specs.Port.{Departure, PortStep, offered_one, offered_all, taken}
use Rattle.node_core.specs.declared.timer.Timer.TheVariants.{Retransmission, DelayedAcknowledgement, Free as BecomesFree}
use Rattle.node_core.specs.declared.event.Event.{Event}
use Rattle.node_core.specs.declared.event.Event.TheVariants.{Start, Rto, DelAck, Free, Arrive}
use Rattle.node_core.specs.declared.line.After.{After}
use Rattle.node_core.specs.declared.line.After.TheVariants.{AtSender, AtReceiver, AtRouter}
use Rattle.node_core.specs.declared.role.Role.{Role}
use Rattle.node_core.specs.declared.role.Role.TheVariants.{Sends, Receives, Routes}
use Rattle.node_core.specs.Pending.{EventChange}
use Rattle.node_core.specs.Timers.{timer_key, freed_index, arrival_key, timer_cleared, timer_set}
use Rattle.node_core.specs.RouteTable.{exit_for}
use Rattle.node_core.specs.Part.{PartState, LinkState, link_at}

-- a packet that a node begins to send: over which of its links, and when that is free and the packet there
pub record Leaving : Type 0 where
  pub index : ℕ
  pub departure : Departure

-- what an event leaves and does: the node; how the timer of its flow's end moves; the packet that leaves, if one does; what the line shows
pub record Effect : Type 0 where
  pub part : PartState
  pub timer_changes : List EventChange
  pub leaving : Option Leaving
  pub after : After
  pub acts : List Act

-- what a line shows of a node
abbrev pub after_of : Role → After
after_of (Sends flow fields) = AtSender fields
after_of (Receives flow state) = AtReceiver (next_of state)
after_of (Routes table) = AtRouter

abbrev pub leaving_over : ℕ → Option Departure → Option Leaving
leaving_over index None = None
leaving_over index (Some departure) = Some (record { index = index; departure = departure })

-- the node has a role's new state, the timer of its flow's end moves so, and at the link of an index this was done
abbrev pub with_step : PartState → Role → List EventChange → ℕ → PortStep → Effect
with_step part role timer_changes index step = record {
  part = record { role = role; links = slice_set part.links index (record (link_at part.links index) { port = step.port }) };
  timer_changes = timer_changes;
  leaving = leaving_over index step.departure;
  after = after_of role;
  acts = step.acts;
}

-- nothing is done
abbrev pub quiet : PartState → Effect
quiet part = record { part = part; timer_changes = []; leaving = None; after = after_of part.role; acts = [] }

-- a timer moves: what was set is taken out, and what is to be set is set
abbrev pub timer_moved : (ℕ → Key) → Event → Option ℕ → Option ℕ → List EventChange
timer_moved key_at event old new = timer_cleared key_at old ++ timer_set key_at event new

-- a segment has 40 bytes besides its data, an acknowledgement 40 bytes
abbrev pub data_packet : ℕ → ℕ → ℕ → Packet
data_packet flow mss number = record { flow = flow; kind = Data; number = number; bytes = mss + 40 }

abbrev pub ack_packet : ℕ → ℕ → Packet
ack_packet flow number = record { flow = flow; kind = Ack; number = number; bytes = 40 }

-- the one link that leaves a flow's end
abbrev pub only_link : ℕ
only_link = 0

-- a row of the sender's table: its segments are offered to the node's link in order, and its new deadline sets or clears the retransmission timer
abbrev pub sender_row : PartState → Key → ℕ → SenderFields → Planned → Effect
sender_row part key flow old planned =
    let segments = map (data_packet flow planned.fields.mss) planned.sent in
    let timer_changes = timer_moved (timer_key key.node Retransmission) (Rto flow) old.deadline planned.fields.deadline in
    with_step part (Sends flow planned.fields) timer_changes only_link (offered_all key.time (link_at part.links only_link).port segments)

-- what a receiver sends at once
abbrev pub ack_of : ℕ → Reply → List Packet
ack_of flow (AckNow number) = ack_packet flow number ∷ []
ack_of flow (Wait time) = []

-- a row of the receiver's table: its acknowledgement, if it gives one now, is offered to the node's link, and the timer is set to when a delayed one is due
abbrev pub receiver_row : PartState → Key → ℕ → ReceiverState → Answered → Effect
receiver_row part key flow old answered =
    let acknowledgement = ack_of flow answered.reply in
    let timer_changes = timer_moved (timer_key key.node DelayedAcknowledgement) (DelAck flow) old.timer answered.state.timer in
    with_step part (Receives flow answered.state) timer_changes only_link (offered_all key.time (link_at part.links only_link).port acknowledgement)

-- a router offers a packet to the link of its route; no timer of a flow's end is there
abbrev pub passed_on : PartState → Key → Packet → Option ℕ → Effect
passed_on part key packet None = quiet part
passed_on part key packet (Some index) = with_step part part.role [] index (offered_one key.time (link_at part.links index).port packet)

-- the flow starts: at its sender
abbrev pub start_row : PartState → Role → Key → Effect
start_row part (Sends flow fields) key = sender_row part key flow fields (started fields key.time)
start_row part (Receives flow state) key = quiet part
start_row part (Routes table) key = quiet part

-- the retransmission timer ends: at a sender
abbrev pub rto_row : PartState → Role → Key → Effect
rto_row part (Sends flow fields) key = sender_row part key flow fields (timed_out fields key.time)
rto_row part (Receives flow state) key = quiet part
rto_row part (Routes table) key = quiet part

-- a delayed acknowledgement is due: at a receiver
abbrev pub delack_row : PartState → Role → Key → Effect
delack_row part (Sends flow fields) key = quiet part
delack_row part (Receives flow state) key = receiver_row part key flow state (timer_came state)
delack_row part (Routes table) key = quiet part

-- a packet comes to a sender: it acts on an acknowledgement
abbrev pub at_sender : PartState → Key → ℕ → SenderFields → Kind → ℕ → Effect
at_sender part key flow fields Data number = quiet part
at_sender part key flow fields Ack number = sender_row part key flow fields (acknowledged fields number key.time)

-- a packet comes to a receiver: it acts on a segment
abbrev pub at_receiver : PartState → Key → ℕ → ReceiverState → Kind → ℕ → Effect
at_receiver part key flow state Data number = receiver_row part key flow state (data_came state number key.time)
at_receiver part key flow state Ack number = quiet part

-- a packet arrives: an acknowledgement at a sender, a segment at a receiver, either at a router
abbrev pub arrival_row : PartState → Role → Key → Packet → Effect
arrival_row part (Sends flow fields) key packet = at_sender part key flow fields packet.kind packet.number
arrival_row part (Receives flow state) key packet = at_receiver part key flow state packet.kind packet.number
arrival_row part (Routes table) key packet = passed_on part key packet (exit_for table packet)

-- a link has sent a packet whole, and takes the next
abbrev pub free_row : PartState → Key → ℕ → Effect
free_row part key index = with_step part part.role [] index (taken key.time (link_at part.links index).port)

-- the row of an event at its node
abbrev pub row : PartState → Key → Event → Effect
row part key (Start flow) = start_row part part.role key
row part key (Rto flow) = rto_row part part.role key
row part key (DelAck flow) = delack_row part part.role key
row part key (Free link) = free_row part key (freed_index key.number)
row part key (Arrive packet) = arrival_row part part.role key packet

-- the link that a packet leaves over is busy until it is free
abbrev pub busy_until : ℕ → List LinkState → Leaving → EventChange
busy_until node links leaving = (timer_key node (BecomesFree leaving.index) leaving.departure.free, Some (Free (link_at links leaving.index).port.link))

-- the packet that leaves arrives at the link's end; its number is how many the link has begun to send with it
abbrev pub arrives : List LinkState → Leaving → EventChange
arrives links leaving =
    let link = link_at links leaving.index in
    (arrival_key link.to link.port.link leaving.departure.arrival link.port.sent, Some (Arrive leaving.departure.packet))

-- the link's own event joins what is pending at the node
abbrev pub made_at_home : ℕ → List LinkState → Option Leaving → List EventChange
made_at_home node links None = []
made_at_home node links (Some leaving) = busy_until node links leaving ∷ []

-- what changes among the events that are pending at the node itself
abbrev pub home_changes : ℕ → Effect → List EventChange
home_changes node effect = effect.timer_changes ++ made_at_home node effect.part.links effect.leaving

-- what is pending besides, at the end of a link
abbrev pub sent_away : List LinkState → Option Leaving → List EventChange
sent_away links None = []
sent_away links (Some leaving) = arrives links leaving ∷ []

-- all changes to the pending events, in the order in which they are made: the timer of the flow's end is taken out and then set, the link becomes busy, and the packet comes to the link's end. A timer that is set for the time that it had stays set
abbrev pub changes_of : ℕ → Effect → List EventChange
changes_of node effect = home_changes node effect ++ sent_away effect.part.links effect.leaving
