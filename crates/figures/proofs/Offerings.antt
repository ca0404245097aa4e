-- What a row offers to a link of its node.
use Rattle.std.proofs.Common.{◌≡◌, ℕ, ◌⊎◌, inl, inr, List, [], ◌∷◌, set, refl, sym, append-nil, Option, Some, None}
use Rattle.sim_time.specs.declared.key.Key.{Key}
use Rattle.packet_chain.specs.declared.packet.Packet.{Packet}
use Rattle.packet_chain.specs.declared.packet.Kind.{Kind}
use Rattle.packet_chain.specs.declared.packet.Kind.TheVariants.{Data, Ack}
use Rattle.reno_sender.specs.declared.fields.SenderFields.{SenderFields}
use Rattle.reno_sender.specs.Sending.{Planned}
use Rattle.reno_sender.specs.Table.{started, acknowledged, timed_out}
use Rattle.reno_receiver.specs.Received.{ReceiverState, Answered, data_came, timer_came}
use Rattle.port.specs.Port.{offered_one, offered_all}
use Rattle.node_core.specs.declared.role.Role.{Role}
use Rattle.node_core.specs.declared.role.Role.TheVariants.{Sends, Receives, Routes}
use Rattle.node_core.specs.RouteTable.{exit_for}
use Rattle.node_core.specs.Part.{PartState, link_at}
use Rattle.node_core.specs.Row.{Effect, sender_row, receiver_row, start_row, rto_row, delack_row, at_sender, at_receiver, passed_on, arrival_row}

-- packets are offered to the link of an index, and that is all
pub record OffersTo (part : PartState) (now : ℕ) (e : Effect) : Type 0 where
  pub index : ℕ
  pub packets : List Packet
  pub links_are : e.part.links ≡ set part.links index (record (link_at part.links index) { port = (offered_all now (link_at part.links index).port packets).port })
  pub acts_are : e.acts ≡ (offered_all now (link_at part.links index).port packets).acts

-- nothing is done
pub record IsQuiet (part : PartState) (e : Effect) : Type 0 where
  pub links_are : e.part.links ≡ part.links
  pub acts_are : e.acts ≡ []

abbrev pub Offering : PartState → ℕ → Effect → Type 0
Offering part now e = OffersTo part now e ⊎ IsQuiet part e

sends : (part : PartState) (k : Key) (flow : ℕ) (fields : SenderFields) (planned : Planned) → Offering part k.time (sender_row part k flow fields planned)
sends part k flow fields planned = inl (record { index = 0; packets = _; links_are = refl; acts_are = refl })

answers : (part : PartState) (k : Key) (flow : ℕ) (state : ReceiverState) (answered : Answered) → Offering part k.time (receiver_row part k flow state answered)
answers part k flow state answered = inl (record { index = 0; packets = _; links_are = refl; acts_are = refl })

pub start_offers : (part : PartState) (role : Role) (k : Key) → Offering part k.time (start_row part role k)
start_offers part (Sends flow fields) k = sends part k flow fields (started fields k.time)
start_offers part (Receives flow state) k = inr (record { links_are = refl; acts_are = refl })
start_offers part (Routes table) k = inr (record { links_are = refl; acts_are = refl })

pub rto_offers : (part : PartState) (role : Role) (k : Key) → Offering part k.time (rto_row part role k)
rto_offers part (Sends flow fields) k = sends part k flow fields (timed_out fields k.time)
rto_offers part (Receives flow state) k = inr (record { links_are = refl; acts_are = refl })
rto_offers part (Routes table) k = inr (record { links_are = refl; acts_are = refl })

pub delack_offers : (part : PartState) (role : Role) (k : Key) → Offering part k.time (delack_row part role k)
delack_offers part (Sends flow fields) k = inr (record { links_are = refl; acts_are = refl })
delack_offers part (Receives flow state) k = answers part k flow state (timer_came state)
delack_offers part (Routes table) k = inr (record { links_are = refl; acts_are = refl })

at_sender_offers : (part : PartState) (k : Key) (flow : ℕ) (fields : SenderFields) (kind : Kind) (number : ℕ) → Offering part k.time (at_sender part k flow fields kind number)
at_sender_offers part k flow fields Data number = inr (record { links_are = refl; acts_are = refl })
at_sender_offers part k flow fields Ack number = sends part k flow fields (acknowledged fields number k.time)

at_receiver_offers : (part : PartState) (k : Key) (flow : ℕ) (state : ReceiverState) (kind : Kind) (number : ℕ) → Offering part k.time (at_receiver part k flow state kind number)
at_receiver_offers part k flow state Data number = answers part k flow state (data_came state number k.time)
at_receiver_offers part k flow state Ack number = inr (record { links_are = refl; acts_are = refl })

passed_offers : (part : PartState) (k : Key) (packet : Packet) (exit : Option ℕ) → Offering part k.time (passed_on part k packet exit)
passed_offers part k packet None = inr (record { links_are = refl; acts_are = refl })
passed_offers part k packet (Some index) = inl (record { index = index; packets = packet ∷ []; links_are = refl; acts_are = sym (append-nil (offered_one k.time (link_at part.links index).port packet).acts) })

pub arrival_offers : (part : PartState) (role : Role) (k : Key) (packet : Packet) → Offering part k.time (arrival_row part role k packet)
arrival_offers part (Sends flow fields) k packet = at_sender_offers part k flow fields packet.kind packet.number
arrival_offers part (Receives flow state) k packet = at_receiver_offers part k flow state packet.kind packet.number
arrival_offers part (Routes table) k packet = passed_offers part k packet (exit_for table packet)
