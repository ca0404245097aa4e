use Rattle.std.proofs.Common.{◌≡◌, ◌+◌, ◌<◌, ◌∷◌, ◌++◌, Option, List, None, Some, length, get_or, cond, sym, ap, subst, ◌∙◌, arith}
use Rattle.std.specs.Prelude.{unwrap_or}
use Rattle.std.specs.Option.{option_map}
use Rattle.std.proofs.lemmas.List.{get_or_read}
use Rattle.packet_chain.specs.declared.packet.Packet.{Packet}
use Rattle.packet_chain.specs.Stamped.{Stamped}
use Rattle.port.specs.Port.{PortState, PortStep, departed, offered_one, offered_all}
use Rattle.node_core.specs.declared.event.Event.{Event}
use Rattle.node_core.specs.declared.event.Event.TheVariants.{Arrive}
use Rattle.node_core.specs.EventQueueState.{EventQueueState, IsDueAs}
use Rattle.node_core.specs.Decided.{arriving}
use Rattle.node_core.specs.Part.{LinkState, link_at, no_link}
use Rattle.node_core.specs.Passing.{after_take, moved_to}
use Rattle.node_core.proofs.Follows.{has_passed, next_timer, next_exit, next_within, offered_follows, offered_left}
use Rattle.node_core.proofs.Runs.{length_cleared}
use Rattle.node_core.proofs.Steps.{cleared_other, one_alone}
use Rattle.node_core.proofs.passing.pass_on.Goals as goal

pub follow-requires : goal.follow-requires
follow-requires c =
    let key = c.args.line.now.key in
    let event_queue = c.args.event_queue.now in
    omega (arith, ap (λ (s : EventQueueState). length s.timers) c.take.ensures.state, length_cleared key event_queue.timers, next_within key c.args.line.now.event c.args.links.now.items event_queue c.args.out.now c.requires.next c.args.index c.requires.can.within)

pub returns-clause-passed : goal.returns-clause-passed
returns-clause-passed c =
    let links = c.args.links.now.items in
    let key = c.args.line.now.key in
    let event = c.args.line.now.event in
    let event_queue = c.args.event_queue.now in
    let chains = c.args.out.now in
    let index = c.args.index in
    let now = key.time in
    let next = c.requires.next in
    let can = c.requires.can in
    let packet = can.arrives.0 in
    let old = c.index_mut-link.result.now in
    let is : old ≡ link_at links index = get_or_read links index old can.within c.index_mut-link.ensures.value no_link in
    let gives = c.take.ensures.packet packet (next.is_least ∙ ap (λ (e : Event). Some (key, e)) can.arrives.1) in
    let some : Some c.unwrap-cell.result.0 ≡ Some packet = sym (ap (option_map (λ (s : Stamped). s.0)) c.unwrap-cell.ensures) ∙ gives in
    let cell : c.unwrap-cell.result.0 ≡ packet = ap (λ (o : Option Packet). unwrap_or o packet) some in
    let one : offered_one now old.port c.unwrap-cell.result.0 ≡ offered_all now old.port (arriving event) =
    ap (offered_one now old.port) cell ∙ sym (one_alone now old.port packet) ∙ ap (λ (e : Event). offered_all now old.port (arriving e)) (sym can.arrives.1) in
    let due : IsDueAs event_queue key (Arrive packet) = subst (IsDueAs event_queue key) can.arrives.1 next.due in
    let was = c.is_busy-was_busy.ensures in
    let free = c.next_free.ensures ∙ ap (λ (p : PortState). p.next_free) c.port.ensures.value ∙ ap (λ (l : LinkState). l.port.next_free) c.send.ensures.link_is ∙ ap (λ (s : PortStep). s.port.next_free) one in
    let timer = ap (λ (a : List (Option Rattle.std.proofs.Common.ℕ)). get_or a (3 + index) None) (cleared_other key event_queue.timers due) ∙ next_timer key event links event_queue chains next index ∙ ap (λ (l : LinkState). l.port.next_free) (sym is) in
    let exit = next_exit key event links event_queue chains next index ∙ ap (λ (l : LinkState). l.port.link) (sym is) in
    has_passed index (λ (p : PortState). offered_all now p (arriving event)) links old c.send.new.self (after_take event_queue key) c.follow.new.event_queue chains c.chain-chain.result.now c.send.new.out c.args.line.now.acts.acts c.send.new.acts.acts c.follow.result is
    (c.send.ensures.link_is ∙ ap (λ (s : PortStep). record old { port = s.port }) one)
    c.chain-chain.ensures.value
    (c.send.ensures.out_is ∙ ap (λ (s : PortStep). c.chain-chain.result.now ++ departed s.departure) one)
    (c.send.ensures.acts_are ∙ ap (λ (s : PortStep). c.args.line.now.acts.acts ++ s.acts) one)
    (offered_follows (after_take event_queue key) c.follow.new.event_queue index now old.port (arriving event) c.is_busy-was_busy.result c.next_free.result timer exit was free
    (c.follow.ensures.event_queue ∙ ap (λ (s : EventQueueState). cond c.is_busy-was_busy.result s (moved_to s (3 + index) c.next_free.result)) c.take.ensures.state))
    (offered_left index now old.port (arriving event) c.is_busy-was_busy.result c.next_free.result c.follow.result was free c.follow.ensures.left)
