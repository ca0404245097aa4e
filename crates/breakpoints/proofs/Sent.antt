-- A flow of which an event begins to send a packet is not stalled after it.
use Rattle.std.proofs.Common.{◌≡◌, ℕ, ◌-◌, ◌==◌, ◌&&◌, Bool, true, false, List, [], ◌∷◌, map as each, refl, sym, ap, ◌∙◌, Option, Some, None, true≢false}
use Rattle.std.specs.List.{list_any, filter_map}
use Rattle.sim_time.specs.declared.key.Key.{Key}
use Rattle.packet_chain.specs.declared.packet.Packet.{Packet}
use Rattle.packet_chain.specs.declared.packet.Kind.{Kind}
use Rattle.packet_chain.specs.declared.packet.Kind.TheVariants.{Data, Ack}
use Rattle.port.specs.declared.acts.Act.{Act}
use Rattle.port.specs.declared.acts.Act.TheVariants.{Tx, Dropped}
use Rattle.port.specs.Laws.{sent_by}
use Rattle.port.specs.Port.{PortStep, Departure, taken, offered_one, offered_all}
use Rattle.port.proofs.StepLaws.{packets_in, taken_sends, one_sends, one_departs_at_most}
use Rattle.reno_sender.specs.declared.fields.SenderFields.{SenderFields}
use Rattle.reno_sender.specs.Sending.{Planned}
use Rattle.reno_sender.specs.Table.{started, acknowledged, timed_out}
use Rattle.reno_receiver.specs.Received.{ReceiverState, Answered, data_came, timer_came}
use Rattle.node_core.specs.declared.timer.Timer.TheVariants.{Retransmission, DelayedAcknowledgement}
use Rattle.node_core.specs.Timers.{timer_key}
use Rattle.node_core.specs.declared.event.Event.{Event}
use Rattle.node_core.specs.declared.event.Event.TheVariants.{Start, Rto, DelAck, Free, Arrive}
use Rattle.node_core.specs.declared.role.Role.{Role}
use Rattle.node_core.specs.declared.role.Role.TheVariants.{Sends, Receives, Routes}
use Rattle.node_core.specs.Part.{PartState, link_at}
use Rattle.node_core.specs.Pending.{EventChange}
use Rattle.node_core.specs.RouteTable.{exit_for}
use Rattle.node_core.specs.Row.{Effect, Leaving, leaving_over, with_step, quiet, timer_moved, data_packet, ack_of, sender_row, receiver_row, row, start_row, rto_row, delack_row, arrival_row, at_sender, at_receiver, passed_on}
use Rattle.node_core.specs.TraceLine.{TraceLine}
use Rattle.table_run.specs.State.{State, part_at, effect_of}
use Rattle.table_run.proofs.Runs.{of_step}
use Rattle.net_machine.specs.Run.{Reached, IsRun, Stepped}
use Rattle.flow_waits.specs.Stalled.{is_stalled, becomes_stalled, may_stall, some_stalls}
use Rattle.flow_waits.proofs.Waiting.{Departs, Leaves}
use Rattle.flow_waits.proofs.Pending.{leaving_pends}
use Rattle.flow_waits.proofs.Found.{moving, found_by_step}
use Rattle.breakpoints.specs.Breaks.{is_sent_of, sends_own}

-- a packet of the flow
abbrev is_of : ℕ → Packet → Bool
is_of flow x = x.flow == flow

any_sent : (flow : ℕ) (acts : List Act) → list_any (is_sent_of flow) acts ≡ list_any (is_of flow) (filter_map sent_by acts)
any_sent flow [] = refl
any_sent flow (Tx link x ∷ acts) = ap (λ b. Rattle.std.proofs.Common.◌||◌ (x.flow == flow) b) (any_sent flow acts)
any_sent flow (Dropped link reason x ∷ acts) = any_sent flow acts

first_only : (b : Bool) → list_any (λ (x : Bool). x) (b ∷ []) ≡ true → b ≡ true
first_only true e = refl
first_only false e = e

of_departure : (flow : ℕ) (o : Option Departure) → list_any (is_of flow) (packets_in o) ≡ true → Departs flow o
of_departure flow None e = absurd (true≢false (sym e))
of_departure flow (Some d) e = (d, refl, first_only (d.packet.flow == flow) e)

abbrev Telling : PortStep → Type 0
Telling step = filter_map sent_by step.acts ≡ packets_in step.departure

departs : (flow : ℕ) (step : PortStep) → Telling step → list_any (is_sent_of flow) step.acts ≡ true → Departs flow step.departure
departs flow step tells e = of_departure flow step.departure (sym (any_sent flow step.acts ∙ ap (list_any (is_of flow)) tells) ∙ e)

-- an effect that tells of a packet of the flow that is sent has it leave
abbrev LeavesWhereSent : ℕ → Effect → Type 0
LeavesWhereSent flow effect = list_any (is_sent_of flow) effect.acts ≡ true → Leaves flow effect

module _ (flow : ℕ) (part : PartState) (key : Key) where
  at_step : (role : Role) (rto_timers : List EventChange) (i : ℕ) (step : PortStep) → Telling step → LeavesWhereSent flow (with_step part role rto_timers i step)
  at_step role rto_timers i step tells e = over step.departure (departs flow step tells e)
    where
      over : (o : Option Departure) → Departs flow o → (l : Leaving) × (leaving_over i o ≡ Some l) × ((l.departure.packet.flow == flow) ≡ true)
      over o (d, is, its) = (record { index = i; departure = d }, ap (leaving_over i) is, its)

  none : LeavesWhereSent flow (quiet part)
  none e = absurd (true≢false (sym e))

  offers : (role : Role) (rto_timers : List EventChange) (packets : List Packet) → LeavesWhereSent flow (with_step part role rto_timers 0 (offered_all key.time (link_at part.links 0).port packets))
  offers role rto_timers packets = at_step role rto_timers 0 (offered_all key.time (link_at part.links 0).port packets) (one_departs_at_most key.time (link_at part.links 0).port packets)

  sender : (n : ℕ) (old : SenderFields) (planned : Planned) → LeavesWhereSent flow (sender_row part key n old planned)
  sender n old planned =
      offers (Sends n planned.fields) (timer_moved (timer_key key.node Retransmission) (Rto n) old.deadline planned.fields.deadline) (each (data_packet n planned.fields.mss) planned.sent)

  receiver : (n : ℕ) (old : ReceiverState) (answered : Answered) → LeavesWhereSent flow (receiver_row part key n old answered)
  receiver n old answered =
      offers (Receives n answered.state) (timer_moved (timer_key key.node DelayedAcknowledgement) (DelAck n) old.timer answered.state.timer) (ack_of n answered.reply)

  starts : (ρ : Role) → LeavesWhereSent flow (start_row part ρ key)
  starts (Sends n f) = sender n f (started f key.time)
  starts (Receives n b) = none
  starts (Routes table) = none

  ends : (ρ : Role) → LeavesWhereSent flow (rto_row part ρ key)
  ends (Sends n f) = sender n f (timed_out f key.time)
  ends (Receives n b) = none
  ends (Routes table) = none

  answers : (ρ : Role) → LeavesWhereSent flow (delack_row part ρ key)
  answers (Sends n f) = none
  answers (Receives n b) = receiver n b (timer_came b)
  answers (Routes table) = none

  to_sender : (x : Packet) (n : ℕ) (f : SenderFields) (c : Kind) → LeavesWhereSent flow (at_sender part key n f c x.number)
  to_sender x n f Data = none
  to_sender x n f Ack = sender n f (acknowledged f x.number key.time)

  to_receiver : (x : Packet) (n : ℕ) (b : ReceiverState) (c : Kind) → LeavesWhereSent flow (at_receiver part key n b c x.number)
  to_receiver x n b Data = receiver n b (data_came b x.number key.time)
  to_receiver x n b Ack = none

  passes : (x : Packet) (o : Option ℕ) → LeavesWhereSent flow (passed_on part key x o)
  passes x None = none
  passes x (Some i) = at_step part.role [] i (offered_one key.time (link_at part.links i).port x) (one_sends key.time (link_at part.links i).port x).sends

  arrives : (x : Packet) (ρ : Role) → LeavesWhereSent flow (arrival_row part ρ key x)
  arrives x (Sends n f) = to_sender x n f x.kind
  arrives x (Receives n b) = to_receiver x n b x.kind
  arrives x (Routes table) = passes x (exit_for table x)

  pub row_leaves : (event : Event) → LeavesWhereSent flow (row part key event)
  row_leaves (Start own) = starts part.role
  row_leaves (Rto own) = ends part.role
  row_leaves (DelAck own) = answers part.role
  row_leaves (Free link) = at_step part.role [] (key.number - 3) (taken key.time (link_at part.links (key.number - 3)).port) (taken_sends key.time (link_at part.links (key.number - 3)).port).sends
  row_leaves (Arrive x) = arrives x part.role

pub sent_moves : (before after : Reached) (line : TraceLine) (flow : ℕ) → Stepped before (Some line) after → list_any (is_sent_of flow) line.acts ≡ true → is_stalled flow after.state ≡ false
sent_moves before after line flow stepped_to sent =
    let s = before.state in
    of_step s line after.state stepped_to.0 (λ k v due_is new_is line_is.
    let effect = effect_of s (k, v) in
    let l = row_leaves flow (part_at s k.node) k v (ap (λ (x : TraceLine). list_any (is_sent_of flow) x.acts) (sym line_is) ∙ sent) in
    let pends = leaving_pends s k effect l.0 l.1 in
    ap (is_stalled flow) new_is ∙ moving flow (Rattle.table_run.specs.State.stepped s k effect) pends.0 l.0.departure.packet pends.1 l.2)

-- so it does not become stalled
pub not_stalled_now : (before after : Reached) (line : TraceLine) (flow : ℕ) → IsRun before → Stepped before (Some line) after → list_any (is_sent_of flow) line.acts ≡ true → false ≡ becomes_stalled flow before.state after.state
not_stalled_now before after line flow is stepped_to sent =
    sym (found_by_step before after line flow is stepped_to ∙ ap (λ b. may_stall flow line.event line.acts && b) (sent_moves before after line flow stepped_to sent) ∙ none_of (may_stall flow line.event line.acts))
  where
    none_of : (b : Bool) → (b && false) ≡ false
    none_of true = refl
    none_of false = refl

-- and none does where the flow of the event is one that sends
pub none_stalls : (before after : Reached) (line : TraceLine) → Stepped before (Some line) after → sends_own line.event line.acts ≡ true → some_stalls line.event line.acts after.state ≡ false
none_stalls before after line stepped_to = by line.event refl
  where
    by : (v : Event) → line.event ≡ v → sends_own v line.acts ≡ true → some_stalls v line.acts after.state ≡ false
    by (Start own) is e = sent_moves before after line own stepped_to e
    by (Rto own) is e = refl
    by (DelAck own) is e = refl
    by (Free link) is e = absurd (true≢false (sym e))
    by (Arrive x) is e = sent_moves before after line x.flow stepped_to e
