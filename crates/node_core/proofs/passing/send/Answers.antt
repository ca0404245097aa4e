use Rattle.std.proofs.Common.{◌≡◌, ◌++◌, Option, length, cond, sym, ap, ◌∙◌, arith}
use Rattle.std.proofs.lemmas.List.{get_or_read, length-set}
use Rattle.std.specs.Prelude.{option_to_list}
use Rattle.packet_chain.specs.declared.packet.Packet.{Packet}
use Rattle.port.specs.Port.{PortState, PortStep, departed, offered_all}
use Rattle.node_core.specs.EventQueueState.{EventQueueState}
use Rattle.node_core.specs.Timers.{timer_number}
use Rattle.node_core.specs.Decided.{sent_by_end}
use Rattle.node_core.specs.Links.{packets_of, packets_with}
use Rattle.node_core.specs.Part.{LinkState, link_at, no_link}
use Rattle.node_core.specs.Passing.{after_take, moved_to}
use Rattle.node_core.proofs.Follows.{has_passed, link_timer_stays, next_timer, next_exit, next_within, offered_follows, offered_left, rto_timer_apart}
use Rattle.node_core.proofs.Runs.{length_cleared}
use Rattle.node_core.proofs.passing.send.Goals as goal

pub set_timer-requires : goal.set_timer-requires
set_timer-requires c =
    let key = c.args.line.now.key in
    let event_queue = c.args.event_queue.now in
    omega (arith, ap (λ (s : EventQueueState). length s.timers) c.take-arrived.ensures.state, length_cleared key event_queue.timers, next_within key c.args.line.now.event c.args.links.now.items event_queue c.args.out.now c.requires.next 0 c.requires.can.linked, c.requires.can.end_timer)

pub offer_behind-requires-clause-room : goal.offer_behind-requires-clause-room
offer_behind-requires-clause-room c =
    let cells = c.args.sending.cells in
    let same : length (packets_with cells c.in_cell-last.result) ≡ length (sent_by_end c.args.sending) = ap (λ (o : Option Packet). length (packets_of cells ++ option_to_list o)) c.in_cell-last.ensures in
    omega (arith, same, c.requires.can.room_for)

pub follow-requires : goal.follow-requires
follow-requires c =
    let key = c.args.line.now.key in
    let event_queue = c.args.event_queue.now in
    omega (
      arith,
      ap (λ (s : EventQueueState). length s.timers) c.set_timer.ensures,
      length-set c.take-arrived.new.self.timers (timer_number c.args.sending.timer) c.args.sending.time,
      ap (λ (s : EventQueueState). length s.timers) c.take-arrived.ensures.state,
      length_cleared key event_queue.timers,
      next_within key c.args.line.now.event c.args.links.now.items event_queue c.args.out.now c.requires.next 0 c.requires.can.linked,
    )

pub returns-clause-passed : goal.returns-clause-passed
returns-clause-passed c =
    let links = c.args.links.now.items in
    let key = c.args.line.now.key in
    let event = c.args.line.now.event in
    let event_queue = c.args.event_queue.now in
    let chains = c.out.inside.chains.items in
    let sending = c.args.sending in
    let now = key.time in
    let next = c.requires.next in
    let can = c.requires.can in
    let old = c.index_mut-link.result.now in
    let is : old ≡ link_at links 0 = get_or_read links 0 old can.linked c.index_mut-link.ensures.value no_link in
    let same : offered_all now old.port (packets_with sending.cells c.in_cell-last.result) ≡ offered_all now old.port (sent_by_end sending) = ap (λ (o : Option Packet). offered_all now old.port (packets_of sending.cells ++ option_to_list o)) c.in_cell-last.ensures in
    let middle = moved_to (after_take event_queue key) (timer_number sending.timer) sending.time in
    let moved : c.set_timer.new.self ≡ middle = c.set_timer.ensures ∙ ap (λ (s : EventQueueState). moved_to s (timer_number sending.timer) sending.time) c.take-arrived.ensures.state in
    let was = c.is_busy-was_busy.ensures in
    let free = c.next_free.ensures ∙ ap (λ (p : PortState). p.next_free) c.port.ensures.value ∙ ap (λ (l : LinkState). l.port.next_free) c.offer_behind.ensures.link_is ∙ ap (λ (s : PortStep). s.port.next_free) same in
    let timer = rto_timer_apart (after_take event_queue key) (timer_number sending.timer) sending.time can.end_timer ∙ link_timer_stays event_queue key event sending.timer next.due can.moves ∙ next_timer key event links event_queue c.args.out.now next 0 ∙ ap (λ (l : LinkState). l.port.next_free) (sym is) in
    let exit = next_exit key event links event_queue c.args.out.now next 0 ∙ ap (λ (l : LinkState). l.port.link) (sym is) in
    rw (← c.out.view_is) (has_passed 0 (λ (p : PortState). offered_all now p (sent_by_end sending)) links old c.offer_behind.new.self middle c.follow.new.event_queue chains c.chain-chain.result.now c.offer_behind.new.out c.args.line.now.acts.acts c.offer_behind.new.acts.acts c.follow.result is
    (c.offer_behind.ensures.link_is ∙ ap (λ (s : PortStep). record old { port = s.port }) same)
    c.chain-chain.ensures.value
    (c.offer_behind.ensures.out_is ∙ ap (λ (s : PortStep). c.chain-chain.result.now ++ departed s.departure) same)
    (c.offer_behind.ensures.acts_are ∙ ap (λ (s : PortStep). c.args.line.now.acts.acts ++ s.acts) same)
    (offered_follows middle c.follow.new.event_queue 0 now old.port (sent_by_end sending) c.is_busy-was_busy.result c.next_free.result timer exit was free
    (c.follow.ensures.event_queue ∙ ap (λ (s : EventQueueState). cond c.is_busy-was_busy.result s (moved_to s 3 c.next_free.result)) moved))
    (offered_left 0 now old.port (sent_by_end sending) c.is_busy-was_busy.result c.next_free.result c.follow.result was free c.follow.ensures.left))
