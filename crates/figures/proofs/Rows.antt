-- What an event does to the sender of its node.
use Rattle.std.proofs.Common.{◌-◌, length, ◌≡◌, ℕ, refl, ap, ◌∙◌, Option, Some, None}
use Rattle.std.proofs.lemmas.List.{length-set}
use Rattle.sim_time.specs.declared.key.Key.{Key}
use Rattle.packet_chain.specs.declared.packet.Packet.{Packet}
use Rattle.packet_chain.specs.declared.packet.Kind.{Kind}
use Rattle.packet_chain.specs.declared.packet.Kind.TheVariants.{Data, Ack}
use Rattle.reno_sender.specs.declared.fields.SenderFields.{SenderFields}
use Rattle.node_core.specs.declared.event.Event.{Event}
use Rattle.node_core.specs.declared.event.Event.TheVariants.{Start, Rto, DelAck, Free, Arrive}
use Rattle.node_core.specs.declared.role.Role.{Role}
use Rattle.node_core.specs.declared.role.Role.TheVariants.{Sends, Receives, Routes}
use Rattle.node_core.specs.RouteTable.{exit_for}
use Rattle.node_core.specs.Part.{PartState, sender_in}
use Rattle.node_core.specs.Row.{row, start_row, rto_row, delack_row, at_sender, at_receiver, passed_on, arrival_row}
use Rattle.reno_receiver.specs.Received.{ReceiverState}
use Rattle.figures.specs.declared.turn.Cause.{Cause}
use Rattle.figures.specs.declared.turn.Cause.TheVariants.{Starts, TimesOut}
use Rattle.figures.specs.Turns.{planned_by}
use Rattle.figures.specs.Moments.{cause_of, arrived}

-- what a sender keeps after it has acted, if it has
abbrev pub kept_by : Option Cause → SenderFields → ℕ → SenderFields
kept_by None f now = f
kept_by (Some cause) f now = (planned_by f cause now).fields

-- a node's sender after an event
abbrev pub after_event : Option (ℕ × SenderFields) → Option Cause → ℕ → Option (ℕ × SenderFields)
after_event None cause now = None
after_event (Some found) cause now = Some (found.0, kept_by cause found.1 now)

pub quiet_keeps : (o : Option (ℕ × SenderFields)) (now : ℕ) → o ≡ after_event o None now
quiet_keeps None now = refl
quiet_keeps (Some found) now = refl

start_keeps : (part : PartState) (role : Role) (k : Key) → part.role ≡ role → sender_in (start_row part role k).part.role ≡ after_event (sender_in role) (Some Starts) k.time
start_keeps part (Sends flow fields) k is = refl
start_keeps part (Receives flow state) k is = ap sender_in is
start_keeps part (Routes table) k is = ap sender_in is

rto_keeps : (part : PartState) (role : Role) (k : Key) → part.role ≡ role → sender_in (rto_row part role k).part.role ≡ after_event (sender_in role) (Some TimesOut) k.time
rto_keeps part (Sends flow fields) k is = refl
rto_keeps part (Receives flow state) k is = ap sender_in is
rto_keeps part (Routes table) k is = ap sender_in is

delack_keeps : (part : PartState) (role : Role) (k : Key) → part.role ≡ role → sender_in (delack_row part role k).part.role ≡ after_event (sender_in role) None k.time
delack_keeps part (Sends flow fields) k is = ap sender_in is
delack_keeps part (Receives flow state) k is = refl
delack_keeps part (Routes table) k is = ap sender_in is

at_sender_keeps : (part : PartState) (k : Key) (flow : ℕ) (fields : SenderFields) (kind : Kind) (number : ℕ) → part.role ≡ Sends flow fields → sender_in (at_sender part k flow fields kind number).part.role ≡ after_event (Some (flow, fields)) (arrived kind number) k.time
at_sender_keeps part k flow fields Data number is = ap sender_in is
at_sender_keeps part k flow fields Ack number is = refl

at_receiver_keeps : (part : PartState) (k : Key) (flow : ℕ) (state : ReceiverState) (kind : Kind) (number : ℕ) → part.role ≡ Receives flow state → sender_in (at_receiver part k flow state kind number).part.role ≡ None
at_receiver_keeps part k flow state Data number is = refl
at_receiver_keeps part k flow state Ack number is = ap sender_in is

passed_keeps : (part : PartState) (k : Key) (packet : Packet) (exit : Option ℕ) → sender_in (passed_on part k packet exit).part.role ≡ sender_in part.role
passed_keeps part k packet None = refl
passed_keeps part k packet (Some index) = refl

arrival_keeps : (part : PartState) (role : Role) (k : Key) (packet : Packet) → part.role ≡ role → sender_in (arrival_row part role k packet).part.role ≡ after_event (sender_in role) (arrived packet.kind packet.number) k.time
arrival_keeps part (Sends flow fields) k packet is = at_sender_keeps part k flow fields packet.kind packet.number is
arrival_keeps part (Receives flow state) k packet is = at_receiver_keeps part k flow state packet.kind packet.number is
arrival_keeps part (Routes table) k packet is = passed_keeps part k packet (exit_for table packet) ∙ ap sender_in is

-- the sender of a node after an event at it
pub row_keeps : (part : PartState) (k : Key) (v : Event) → sender_in (row part k v).part.role ≡ after_event (sender_in part.role) (cause_of v) k.time
row_keeps part k (Start flow) = start_keeps part part.role k refl
row_keeps part k (Rto flow) = rto_keeps part part.role k refl
row_keeps part k (DelAck flow) = delack_keeps part part.role k refl
row_keeps part k (Free link) = quiet_keeps (sender_in part.role) k.time
row_keeps part k (Arrive packet) = arrival_keeps part part.role k packet refl

-- a node keeps its number of links
start_links : (part : PartState) (role : Role) (k : Key) → length (start_row part role k).part.links ≡ length part.links
start_links part (Sends flow fields) k = length-set part.links 0 _
start_links part (Receives flow state) k = refl
start_links part (Routes table) k = refl

rto_links : (part : PartState) (role : Role) (k : Key) → length (rto_row part role k).part.links ≡ length part.links
rto_links part (Sends flow fields) k = length-set part.links 0 _
rto_links part (Receives flow state) k = refl
rto_links part (Routes table) k = refl

delack_links : (part : PartState) (role : Role) (k : Key) → length (delack_row part role k).part.links ≡ length part.links
delack_links part (Sends flow fields) k = refl
delack_links part (Receives flow state) k = length-set part.links 0 _
delack_links part (Routes table) k = refl

at_sender_links : (part : PartState) (k : Key) (flow : ℕ) (fields : SenderFields) (kind : Kind) (number : ℕ) → length (at_sender part k flow fields kind number).part.links ≡ length part.links
at_sender_links part k flow fields Data number = refl
at_sender_links part k flow fields Ack number = length-set part.links 0 _

at_receiver_links : (part : PartState) (k : Key) (flow : ℕ) (state : ReceiverState) (kind : Kind) (number : ℕ) → length (at_receiver part k flow state kind number).part.links ≡ length part.links
at_receiver_links part k flow state Data number = length-set part.links 0 _
at_receiver_links part k flow state Ack number = refl

passed_links : (part : PartState) (k : Key) (packet : Packet) (exit : Option ℕ) → length (passed_on part k packet exit).part.links ≡ length part.links
passed_links part k packet None = refl
passed_links part k packet (Some index) = length-set part.links index _

arrival_links : (part : PartState) (role : Role) (k : Key) (packet : Packet) → length (arrival_row part role k packet).part.links ≡ length part.links
arrival_links part (Sends flow fields) k packet = at_sender_links part k flow fields packet.kind packet.number
arrival_links part (Receives flow state) k packet = at_receiver_links part k flow state packet.kind packet.number
arrival_links part (Routes table) k packet = passed_links part k packet (exit_for table packet)

pub row_links : (part : PartState) (k : Key) (v : Event) → length (row part k v).part.links ≡ length part.links
row_links part k (Start flow) = start_links part part.role k
row_links part k (Rto flow) = rto_links part part.role k
row_links part k (DelAck flow) = delack_links part part.role k
row_links part k (Free link) = length-set part.links (k.number - 3) _
row_links part k (Arrive packet) = arrival_links part part.role k packet
