-- What the rows decide.
use Rattle.std.proofs.Common.{◌≡◌, ℕ, ◌<◌, ◌≤◌, Bool, true, false, List, [], map, length, Option, Some, None, Result, Ok, Err, refl, sym, ap, subst, ◌∙◌, arith}
use Rattle.std.specs.Result.{IfOk, OnOk}
use Rattle.sim_time.specs.declared.key.Key.{Key}
use Rattle.packet_chain.specs.declared.packet.Packet.{Packet}
use Rattle.port.specs.Port.{offered_all}
use Rattle.reno_sender.specs.declared.fields.SenderFields.{SenderFields}
use Rattle.reno_sender.specs.Sending.{Planned}
use Rattle.reno_receiver.specs.Received.{ReceiverState, Answered}
use Rattle.node_core.specs.declared.timer.Timer.{Timer}
use Rattle.node_core.specs.declared.timer.Timer.TheVariants.{Retransmission, DelayedAcknowledgement}
use Rattle.node_core.specs.declared.decision.Decision.{Decision}
use Rattle.node_core.specs.declared.decision.Decision.TheVariants.{Leave, PassOn, TakeNext, Send}
use Rattle.node_core.specs.declared.event.Event.{Event}
use Rattle.node_core.specs.declared.event.Event.TheVariants.{Arrive}
use Rattle.node_core.specs.declared.role.Role.{Role}
use Rattle.node_core.specs.declared.role.Role.TheVariants.{Sends, Receives, Routes}
use Rattle.node_core.specs.declared.routes.FlowExits.{FlowExits}
use Rattle.node_core.specs.Timers.{timer_key, timer_number}
use Rattle.node_core.specs.Decided.{end_timer_event, end_timer_of, CanMove, IsArriving, IsDecided, IsSent, IsRouted, OnSend, of_sender, of_receiver, route_of}
use Rattle.node_core.specs.Part.{LinkState, link_at}
use Rattle.node_core.specs.Ready.{CanHandle}
use Rattle.node_core.specs.Row.{row, sender_row, receiver_row, passed_on, data_packet, ack_of, with_step, timer_moved}
use Rattle.node_core.specs.RouteTable.{exit_for}
use Rattle.node_core.specs.Running.{part}
use Rattle.node_core.proofs.Steps.{one_alone}

-- of an answer that was given both facts hold
pub both_ok : {A E : Type 0} {P R : A → Type 0} {Q : Type 0} (result : Result A E) → IfOk result P → OnOk result Q → ((a : A) → P a → Q → R a) → IfOk result R
both_ok (Ok a) p q f = f a p q
both_ok (Err e) p q f = tt

some_cell : (arrives : Bool) (last : Option Packet) (event : Event) → (arrives ≡ false → last ≡ None) → (arrives ≡ true → IsArriving event) → (packet : Packet) → last ≡ Some packet → IsArriving event
some_cell true last event none arrival packet is = arrival refl
some_cell false last event none arrival packet is = let e : None ≡ Some packet = sym (none refl) ∙ is in absurd (cc)

-- a row of the sender's table
pub sender_decides : (flow : ℕ) (fields new : SenderFields) (planned : Planned) (arrives : Bool) (links : List LinkState) (key : Key) (event : Event) (room : ℕ) (decision : Decision)
    → OnSend (IsSent arrives (map (data_packet flow planned.fields.mss) planned.sent) Retransmission planned.fields.deadline room) decision
    → new ≡ planned.fields → 0 < length links → CanMove Retransmission event → (arrives ≡ true → IsArriving event)
    → row (part (Sends flow fields) links) key event ≡ sender_row (part (Sends flow fields) links) key flow fields planned
    → IsDecided (Sends flow fields) (Sends flow new) links key event room decision
sender_decides flow fields new planned arrives links key event room Leave is new_is linked can arrival row_is = absurd is
sender_decides flow fields new planned arrives links key event room (PassOn index) is new_is linked can arrival row_is = absurd is
sender_decides flow fields new planned arrives links key event room (TakeNext index) is new_is linked can arrival row_is = absurd is
sender_decides flow fields new planned arrives links key event room (Send sending) is new_is linked can arrival row_is =
    let steps = λ (f : SenderFields) (a : Timer) (t : Option ℕ) (ps : List Packet).
    with_step (part (Sends flow fields) links) (Sends flow f) (timer_moved (timer_key key.node a) (end_timer_event flow a) (end_timer_of (Sends flow fields) a) t) 0 (offered_all key.time (link_at links 0).port ps) in
    let all = map (data_packet flow planned.fields.mss) planned.sent in
    record {
      row_is = row_is
          ∙ ap (λ (f : SenderFields). steps f Retransmission planned.fields.deadline all) (sym new_is)
          ∙ ap (λ (t : Option ℕ). steps new Retransmission t all) (sym is.time_is)
          ∙ ap (λ (a : Timer). steps new a sending.time all) (sym is.timer_is)
          ∙ ap (λ (ps : List Packet). steps new sending.timer sending.time ps) (sym is.sent);
      suits = of_sender flow fields new refl refl is.timer_is (is.time_is ∙ ap (λ (f : SenderFields). f.deadline) (sym new_is));
      can = record {
        linked = linked;
        room_for = omega (arith, ap length is.sent, is.room_for);
        few = is.few;
        end_timer = subst (λ (a : Timer). timer_number a < 3) (sym is.timer_is) (omega arith);
        moves = subst (λ (a : Timer). CanMove a event) (sym is.timer_is) can;
        cell = some_cell arrives sending.last event is.in_cells arrival;
      };
    }

-- a row of the receiver's table
pub receiver_decides : (flow : ℕ) (state new : ReceiverState) (answered : Answered) (arrives : Bool) (links : List LinkState) (key : Key) (event : Event) (room : ℕ) (decision : Decision)
    → OnSend (IsSent arrives (ack_of flow answered.reply) DelayedAcknowledgement answered.state.timer room) decision
    → new ≡ answered.state → 0 < length links → CanMove DelayedAcknowledgement event → (arrives ≡ true → IsArriving event)
    → row (part (Receives flow state) links) key event ≡ receiver_row (part (Receives flow state) links) key flow state answered
    → IsDecided (Receives flow state) (Receives flow new) links key event room decision
receiver_decides flow state new answered arrives links key event room Leave is new_is linked can arrival row_is = absurd is
receiver_decides flow state new answered arrives links key event room (PassOn index) is new_is linked can arrival row_is = absurd is
receiver_decides flow state new answered arrives links key event room (TakeNext index) is new_is linked can arrival row_is = absurd is
receiver_decides flow state new answered arrives links key event room (Send sending) is new_is linked can arrival row_is =
    let steps = λ (s : ReceiverState) (a : Timer) (t : Option ℕ) (ps : List Packet).
    with_step (part (Receives flow state) links) (Receives flow s) (timer_moved (timer_key key.node a) (end_timer_event flow a) (end_timer_of (Receives flow state) a) t) 0 (offered_all key.time (link_at links 0).port ps) in
    let all = ack_of flow answered.reply in
    record {
      row_is = row_is
          ∙ ap (λ (s : ReceiverState). steps s DelayedAcknowledgement answered.state.timer all) (sym new_is)
          ∙ ap (λ (t : Option ℕ). steps new DelayedAcknowledgement t all) (sym is.time_is)
          ∙ ap (λ (a : Timer). steps new a sending.time all) (sym is.timer_is)
          ∙ ap (λ (ps : List Packet). steps new sending.timer sending.time ps) (sym is.sent);
      suits = of_receiver flow state new refl refl is.timer_is (is.time_is ∙ ap (λ (s : ReceiverState). s.timer) (sym new_is));
      can = record {
        linked = linked;
        room_for = omega (arith, ap length is.sent, is.room_for);
        few = is.few;
        end_timer = subst (λ (a : Timer). timer_number a < 3) (sym is.timer_is) (omega arith);
        moves = subst (λ (a : Timer). CanMove a event) (sym is.timer_is) can;
        cell = some_cell arrives sending.last event is.in_cells arrival;
      };
    }

-- a router has a route for the packet
pub route_decides : (table : List FlowExits) (links : List LinkState) (key : Key) (packet : Packet) (room index : ℕ) → exit_for table packet ≡ Some index → index < length links → 1 ≤ room
    → IsDecided (Routes table) (Routes table) links key (Arrive packet) room (PassOn index)
route_decides table links key packet room index exit within enough = record {
  row_is = ap (passed_on (part (Routes table) links) key packet) exit ∙ ap (with_step (part (Routes table) links) (Routes table) [] index) (sym (one_alone key.time (link_at links index).port packet));
  suits = refl;
  can = record { arrives = (packet, refl); within = within; room_for = enough };
}

-- it goes on by the link of its route
pub through_decides : (role : Role) (links : List LinkState) (key : Key) (event : Event) (room index : ℕ) → IsRouted role event index → CanHandle (part role links) key.time event → 1 ≤ room → IsDecided role role links key event room (PassOn index)
through_decides role links key event room index routed runs enough =
    subst (λ (e : Event). CanHandle (part role links) key.time e → IsDecided role role links key e room (PassOn index)) (sym routed.arrives) (passes role routed.route) runs
  where
    passes : (role : Role) → route_of role routed.packet ≡ Some index → CanHandle (part role links) key.time (Arrive routed.packet) → IsDecided role role links key (Arrive routed.packet) room (PassOn index)
    passes (Sends flow fields) route can = absurd (cc)
    passes (Receives flow state) route can = absurd (cc)
    passes (Routes table) route can = route_decides table links key routed.packet room index route (can index route) enough
