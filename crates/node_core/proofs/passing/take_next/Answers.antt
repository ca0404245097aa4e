use Rattle.std.proofs.Common.{◌≡◌, ◌+◌, sym, ap, subst, ◌∙◌}
use Rattle.std.proofs.lemmas.List.{get_or_read}
use Rattle.port.specs.Port.{PortState, taken}
use Rattle.node_core.specs.declared.event.Event.TheVariants.{Free}
use Rattle.node_core.specs.EventQueueState.{IsTimer, IsDueAs}
use Rattle.node_core.specs.Part.{LinkState, link_at, no_link}
use Rattle.node_core.specs.Passing.{after_take}
use Rattle.node_core.proofs.Follows.{has_passed, next_timer, next_exit, taken_follows, taken_left}
use Rattle.node_core.proofs.passing.take_next.Goals as goal

pub free-requires-clause-due : goal.free-requires-clause-due
free-requires-clause-due c =
    let links = c.args.links.now.items in
    let key = c.args.line.now.key in
    let can = c.requires.can in
    let next = c.requires.next in
    let is : c.index_mut-link.result.now ≡ link_at links c.args.index = get_or_read links c.args.index c.index_mut-link.result.now can.within c.index_mut-link.ensures.value no_link in
    let due : IsDueAs c.args.event_queue.now key (Free can.frees.0) = subst (IsDueAs c.args.event_queue.now key) can.frees.1 next.due in
    let own : IsTimer c.args.event_queue.now key (3 + c.args.index) = subst (IsTimer c.args.event_queue.now key) can.number due.1 in
    ap (λ (l : LinkState). l.port.next_free) is ∙ sym (next_timer key c.args.line.now.event links c.args.event_queue.now c.args.out.now next c.args.index) ∙ own.set_for

pub reset-requires-clause-timer : goal.reset-requires-clause-timer
reset-requires-clause-timer c =
    let key = c.args.line.now.key in
    let due : IsDueAs c.args.event_queue.now key (Free c.requires.can.frees.0) = subst (IsDueAs c.args.event_queue.now key) c.requires.can.frees.1 c.requires.next.due in
    subst (IsTimer c.args.event_queue.now key) c.requires.can.number due.1

pub returns-clause-passed : goal.returns-clause-passed
returns-clause-passed c =
    let links = c.args.links.now.items in
    let key = c.args.line.now.key in
    let event = c.args.line.now.event in
    let event_queue = c.args.event_queue.now in
    let chains = c.args.out.now in
    let index = c.args.index in
    let next = c.requires.next in
    let can = c.requires.can in
    let old = c.index_mut-link.result.now in
    let is : old ≡ link_at links index = get_or_read links index old can.within c.index_mut-link.ensures.value no_link in
    let due : IsDueAs event_queue key (Free can.frees.0) = subst (IsDueAs event_queue key) can.frees.1 next.due in
    let own : IsTimer event_queue key (3 + index) = subst (IsTimer event_queue key) can.number due.1 in
    let free = c.next_free-next_free.ensures ∙ ap (λ (p : PortState). p.next_free) c.port.ensures.value ∙ ap (λ (l : LinkState). l.port.next_free) c.free.ensures.state in
    has_passed index (taken key.time) links old c.free.new.self (after_take event_queue key) c.reset.new.self chains c.chain-chain.result.now c.free.new.out c.args.line.now.acts.acts c.free.new.acts.acts c.left_over.result is
    c.free.ensures.state c.chain-chain.ensures.value c.free.ensures.departed c.free.ensures.acts
    (taken_follows event_queue c.reset.new.self key index old.port c.next_free-next_free.result own (next_exit key event links event_queue chains next index ∙ ap (λ (l : LinkState). l.port.link) (sym is)) free c.reset.ensures)
    (taken_left index key.time old.port c.next_free-next_free.result c.left_over.result free c.left_over.ensures)
