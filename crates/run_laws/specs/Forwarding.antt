-- What each node offers to its links, by name: senders their segments, routers what comes, receivers acknowledgements.
use Rattle.std.specs.Prelude.{◌≡◌, ◌≢◌, ℕ, ◌+◌, ◌≤◌, ◌⊎◌, ◌↔◌, List, [], ◌∷◌, map, Option, Some, None, IfSome}
use Rattle.std.specs.List.{slice_get}
use Rattle.std.specs.FinMap as finmap
use Rattle.packet_chain.specs.declared.packet.Packet.{Packet}
use Rattle.packet_chain.specs.declared.packet.Kind.TheVariants.{Data, Ack}
use Rattle.scenario_image.specs.declared.parts.FlowPart.{FlowPart}
use Rattle.reno_sender.specs.declared.fields.SenderFields.{SenderFields}
use Rattle.reno_receiver.specs.Received.{ReceiverState, IsReceived, next_of}
use Rattle.node_core.specs.declared.timer.Timer.TheVariants.{DelayedAcknowledgement}
use Rattle.node_core.specs.declared.event.Event.TheVariants.{DelAck, Free, Arrive}
use Rattle.node_core.specs.declared.role.Role.TheVariants.{Sends, Receives, Routes}
use Rattle.node_core.specs.declared.routes.FlowExits.{FlowExits}
use Rattle.node_core.specs.RouteTable.{exit_for}
use Rattle.node_core.specs.Timers.{timer_key}
use Rattle.table_run.specs.State.{part_at, effect_of, stepped}
use Rattle.table_run.specs.Laws.{AtEachEvent}
use Rattle.run_laws.specs.Laws.{InEveryState, HasEnds}
use Rattle.run_laws.specs.Links.{port_of_link, IsOffered}
use Rattle.run_laws.specs.Senders.{row_of}

-- a segment of a flow: 40 bytes besides its data
abbrev pub segment_of : ℕ → FlowPart → ℕ → Packet
segment_of number flow first = record { flow = number; kind = Data; number = first; bytes = flow.mss + 40 }

-- an acknowledgement of all below a byte: 40 bytes
abbrev pub acknowledgement_of : ℕ → ℕ → Packet
acknowledgement_of number next = record { flow = number; kind = Ack; number = next; bytes = 40 }

-- where an event at a sender is not that its link is free, the segments that its row sends are offered to its link, in order, and nothing else
abbrev pub SendersOfferSegments : Type 0
SendersOfferSegments = AtEachEvent (λ p s k v. (number : ℕ) (flow : FlowPart) → slice_get p.flows number ≡ Some flow → flow.sender ≡ k.node → (f : SenderFields) → (part_at s k.node).role ≡ Sends number f
    → ((link : ℕ) → v ≢ Free link) → let e = effect_of s (k, v) in IsOffered (map (segment_of number flow) (row_of f v k.time).sent) (port_of_link s k.node 0) e.acts (port_of_link (stepped s k e) k.node 0))

-- a packet that comes to a router is offered, as it came, to the link of its route, and nothing else is
pub record IsForwarded (x : Packet) (e : ℕ → Type 0) (exit : Option ℕ) : Type 0 where
  pub index : ℕ
  pub its_exit : exit ≡ Some index
  pub offered : e index

abbrev pub RoutersForward : Type 0
RoutersForward = AtEachEvent (λ p s k v. (x : Packet) → v ≡ Arrive x → (table : List FlowExits) → (part_at s k.node).role ≡ Routes table
    → let e = effect_of s (k, v) in IsForwarded x (λ (index : ℕ). IsOffered (x ∷ []) (port_of_link s k.node index) e.acts (port_of_link (stepped s k e) k.node index)) (exit_for table x))

-- a segment that comes joins those received; where no answer waits afterwards, the next byte is acknowledged at once; else it waits for the delay, it is the segment that was next, none above it has come, and no answer waited before
pub record AnswersSegment (number now : ℕ) (x : Packet) (r a : ReceiverState) (offered : List Packet → Type 0) : Type 0 where
  pub gains : (seq : ℕ) → IsReceived a seq ↔ ((seq ≡ x.number) ⊎ IsReceived r seq)
  pub at_once : a.timer ≡ None → offered (acknowledgement_of number (next_of a) ∷ [])
  pub waits : (t : ℕ) → a.timer ≡ Some t → offered [] × (t ≡ now + r.delack) × (r.timer ≡ None) × (x.number ≡ next_of r) × ((seq : ℕ) → IsReceived r seq → seq ≤ x.number)

-- a delayed answer that is due acknowledges the next byte
pub record AnswersDelay (number : ℕ) (r a : ReceiverState) (offered : List Packet → Type 0) : Type 0 where
  pub answer : offered (acknowledgement_of number (next_of r) ∷ [])
  pub same_next : next_of a ≡ next_of r
  pub none_waits : a.timer ≡ None

-- what a receiver does at each segment that comes, and at each delayed answer
abbrev pub ReceiversAcknowledge : Type 0
ReceiversAcknowledge = AtEachEvent (λ p s k v. (number : ℕ) (flow : FlowPart) → slice_get p.flows number ≡ Some flow → flow.receiver ≡ k.node → (r : ReceiverState) → (part_at s k.node).role ≡ Receives number r
    → let e = effect_of s (k, v) in let t = stepped s k e in let offered = λ (packets : List Packet). IsOffered packets (port_of_link s k.node 0) e.acts (port_of_link t k.node 0) in
    ((x : Packet) → v ≡ Arrive x → x.kind ≡ Data → (a : ReceiverState) → (part_at t k.node).role ≡ Receives number a → AnswersSegment number k.time x r a offered)
    × ((n : ℕ) → v ≡ DelAck n → (a : ReceiverState) → (part_at t k.node).role ≡ Receives number a → AnswersDelay number r a offered))

-- the delay is the flow's, and while an answer waits its end is pending
pub record IsDelayedSoon (number : ℕ) (flow : FlowPart) (r : ReceiverState) (pending : ℕ → Type 0) : Type 0 where
  pub delay : r.delack ≡ flow.delack
  pub due : IfSome r.timer pending

abbrev pub DelayedAnswersAreDue : Type 0
DelayedAnswersAreDue = InEveryState (λ p _ s. (number : ℕ) (flow : FlowPart) → slice_get p.flows number ≡ Some flow
    → HasEnds (λ _ r. IsDelayedSoon number flow r (λ t. finmap.get s.pending (timer_key flow.receiver DelayedAcknowledgement t) ≡ Some (DelAck number))) s number flow)
