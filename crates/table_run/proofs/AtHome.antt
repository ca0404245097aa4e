-- An event's timers and links are at its own node.
use Rattle.std.proofs.Common.{◌≡◌, ℕ, List, [], ◌∷◌, ◌++◌, refl, Some, None, Option}
use Rattle.std.specs.List.{AllByRecursion}
use Rattle.sim_time.specs.declared.key.Key.{Key}
use Rattle.packet_chain.specs.declared.packet.Packet.{Packet}
use Rattle.packet_chain.specs.declared.packet.Kind.{Kind}
use Rattle.packet_chain.specs.declared.packet.Kind.TheVariants.{Data, Ack}
use Rattle.reno_sender.specs.declared.fields.SenderFields.{SenderFields}
use Rattle.reno_sender.specs.Table.{started, acknowledged, timed_out}
use Rattle.reno_receiver.specs.Received.{ReceiverState, data_came, timer_came}
use Rattle.node_core.specs.declared.timer.Timer.TheVariants.{Retransmission, DelayedAcknowledgement}
use Rattle.node_core.specs.declared.event.Event.{Event}
use Rattle.node_core.specs.declared.event.Event.TheVariants.{Start, Rto, DelAck, Free, Arrive}
use Rattle.node_core.specs.declared.role.Role.{Role}
use Rattle.node_core.specs.declared.role.Role.TheVariants.{Sends, Receives, Routes}
use Rattle.node_core.specs.Pending.{EventChange}
use Rattle.node_core.specs.Timers.{timer_key}
use Rattle.node_core.specs.RouteTable.{exit_for}
use Rattle.node_core.specs.Part.{PartState, LinkState}
use Rattle.node_core.specs.Row.{Leaving, row, timer_moved, start_row, rto_row, delack_row, at_sender, at_receiver, passed_on, arrival_row, home_changes, made_at_home}

-- each change is at a node
abbrev pub AreAt : ℕ → List EventChange → Type 0
AreAt node = AllByRecursion (λ (c : EventChange). c.0.node ≡ node)

are_both : (node : ℕ) (cs ds : List EventChange) → AreAt node cs → AreAt node ds → AreAt node (cs ++ ds)
are_both node [] ds here there = there
are_both node (c ∷ cs) ds here there = (here.0, are_both node cs ds here.1 there)

moved_at : (key_at : ℕ → Key) (event : Event) (old new : Option ℕ) (node : ℕ) → ((t : ℕ) → (key_at t).node ≡ node) → AreAt node (timer_moved key_at event old new)
moved_at key_at event None None node at = tt
moved_at key_at event None (Some t) node at = (at t, tt)
moved_at key_at event (Some s) None node at = (at s, tt)
moved_at key_at event (Some s) (Some t) node at = (at s, (at t, tt))

sender_at : (k : Key) (flow : ℕ) (old new : Option ℕ) → AreAt k.node (timer_moved (timer_key k.node Retransmission) (Rto flow) old new)
sender_at k flow old new = moved_at (timer_key k.node Retransmission) (Rto flow) old new k.node (λ t. refl)

receiver_at : (k : Key) (flow : ℕ) (old new : Option ℕ) → AreAt k.node (timer_moved (timer_key k.node DelayedAcknowledgement) (DelAck flow) old new)
receiver_at k flow old new = moved_at (timer_key k.node DelayedAcknowledgement) (DelAck flow) old new k.node (λ t. refl)

start_at : (part : PartState) (role : Role) (k : Key) → AreAt k.node (start_row part role k).timer_changes
start_at part (Sends flow fields) k = sender_at k flow fields.deadline (started fields k.time).fields.deadline
start_at part (Receives flow state) k = tt
start_at part (Routes table) k = tt

rto_at : (part : PartState) (role : Role) (k : Key) → AreAt k.node (rto_row part role k).timer_changes
rto_at part (Sends flow fields) k = sender_at k flow fields.deadline (timed_out fields k.time).fields.deadline
rto_at part (Receives flow state) k = tt
rto_at part (Routes table) k = tt

delack_at : (part : PartState) (role : Role) (k : Key) → AreAt k.node (delack_row part role k).timer_changes
delack_at part (Sends flow fields) k = tt
delack_at part (Receives flow state) k = receiver_at k flow state.timer (timer_came state).state.timer
delack_at part (Routes table) k = tt

ack_at : (part : PartState) (k : Key) (flow : ℕ) (fields : SenderFields) (kind : Kind) (number : ℕ) → AreAt k.node (at_sender part k flow fields kind number).timer_changes
ack_at part k flow fields Data number = tt
ack_at part k flow fields Ack number = sender_at k flow fields.deadline (acknowledged fields number k.time).fields.deadline

data_at : (part : PartState) (k : Key) (flow : ℕ) (state : ReceiverState) (kind : Kind) (number : ℕ) → AreAt k.node (at_receiver part k flow state kind number).timer_changes
data_at part k flow state Data number = receiver_at k flow state.timer (data_came state number k.time).state.timer
data_at part k flow state Ack number = tt

passed_at : (part : PartState) (k : Key) (packet : Packet) (exit : Option ℕ) → AreAt k.node (passed_on part k packet exit).timer_changes
passed_at part k packet None = tt
passed_at part k packet (Some index) = tt

arrival_at : (part : PartState) (role : Role) (k : Key) (packet : Packet) → AreAt k.node (arrival_row part role k packet).timer_changes
arrival_at part (Sends flow fields) k packet = ack_at part k flow fields packet.kind packet.number
arrival_at part (Receives flow state) k packet = data_at part k flow state packet.kind packet.number
arrival_at part (Routes table) k packet = passed_at part k packet (exit_for table packet)

row_at : (part : PartState) (k : Key) (v : Event) → AreAt k.node (row part k v).timer_changes
row_at part k (Start flow) = start_at part part.role k
row_at part k (Rto flow) = rto_at part part.role k
row_at part k (DelAck flow) = delack_at part part.role k
row_at part k (Free link) = tt
row_at part k (Arrive packet) = arrival_at part part.role k packet

made_at : (node : ℕ) (links : List LinkState) (leaving : Option Leaving) → AreAt node (made_at_home node links leaving)
made_at node links None = tt
made_at node links (Some leaving) = (refl, tt)

-- what a row changes at home is at its node
pub home_at : (part : PartState) (k : Key) (v : Event) → AreAt k.node (home_changes k.node (row part k v))
home_at part k v = are_both k.node (row part k v).timer_changes _ (row_at part k v) (made_at k.node (row part k v).part.links (row part k v).leaving)
