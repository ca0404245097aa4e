use Rattle.std.proofs.Common.{◌≡◌, ◌<◌, refl, length, get_or, set, Some, None, sym, ap, subst, ◌∙◌, inl, inr, arith}
use Rattle.node_core.specs.TraceLine.{shown}
use Rattle.table_run.specs.State.{State}
use Rattle.figures.specs.Figures.{IsOfNode}
use Rattle.figures.specs.Moments.{cause_of}
use Rattle.figures.proofs.Steps.{is_step, size_stays}
use Rattle.figures.proofs.AllLinks.{links_counted, sizes_are}
use Rattle.figures.proofs.One.{one_link, each_freed_or_offered, few_each}
use Rattle.figures.proofs.After.{quiet, quiet_sender, acted_from, one_acted, reported, within_parts, none_where_free}
use Rattle.figures.proofs.figures.Figures.after.Goals as goal

pub turn-requires-clause-acted : goal.turn-requires-clause-acted
turn-requires-clause-acted c =
    let R = c.requires.follows in
    let line = shown c.args.line.now in
    let t : State = c.args.net.now.state in
    let cause : cause_of line.event ≡ Some c.in-Some.cause = sym c.cause_of.ensures ∙ c.in-Some.is in
    let here = reported c.nodes-nodes.result.now t c.from-place.result line.key.node (Some c.in-Some-sender_at.sender.now) c.nodes-nodes.ensures.parts c.from-place.ensures c.in-Some-sender_at.ensures in
    let inside : line.key.node < length t.parts = within_parts t line.key.node c.in-Some-sender_at.sender.now here in
    let old : IsOfNode R.base R.so_far R.before line.key.node c.index_mut-counted.result.now =
    subst (IsOfNode R.base R.so_far R.before line.key.node) (sym (c.index_mut-counted.ensures.value ∙ ap (λ i. get_or c.args.self.now.senders.items i c.index_mut-counted.result.now) c.from-place.ensures))
    (R.figures.senders.each line.key.node c.index_mut-counted.result.now (omega (arith, inside, size_stays R.before line t (is_step R.before line t R.next)))) in
    acted_from R.base R.so_far R.before line t R.next c.in-Some.cause c.in-Some-sender_at.sender.now cause here c.index_mut-counted.result.now old

pub returns-in-Some-sender_at-clause-senders : goal.returns-in-Some-sender_at-clause-senders
returns-in-Some-sender_at-clause-senders c = λ b ms s is next.
    let line = shown c.args.line.now in
    let t : State = c.args.net.now.state in
    let cause : cause_of line.event ≡ Some c.in-Some.cause = sym c.cause_of.ensures ∙ c.in-Some.is in
    let here = reported c.nodes-nodes.result.now t c.from-place.result line.key.node (Some c.in-Some-sender_at.sender.now) c.nodes-nodes.ensures.parts c.from-place.ensures c.in-Some-sender_at.ensures in
    let inside : line.key.node < length t.parts = within_parts t line.key.node c.in-Some-sender_at.sender.now here in
    one_acted b ms s line t next c.in-Some.cause c.in-Some-sender_at.sender.now cause here c.args.self.now _ c.index_mut-counted.result.now c.turn.new.self
    (omega (arith, inside, is.size, size_stays s line t (is_step s line t next)))
    (c.index_mut-counted.ensures.value ∙ ap (λ i. get_or c.args.self.now.senders.items i c.index_mut-counted.result.now) c.from-place.ensures)
    (ap (λ i. set c.args.self.now.senders.items i c.turn.new.self) c.from-place.ensures) c.turn.ensures.figures c.turn.ensures.kept is

pub returns-in_default-sender_at-clause-senders : goal.returns-in_default-sender_at-clause-senders
returns-in_default-sender_at-clause-senders c = λ b ms s is next.
    quiet b ms s (shown c.args.line.now) c.args.net.now.state next c.args.self.now _ refl
    (quiet_sender b ms s (shown c.args.line.now) c.args.net.now.state next
    (inr (reported c.nodes-nodes.result.now c.args.net.now.state c.from-place.result c.args.line.now.key.node None c.nodes-nodes.ensures.parts c.from-place.ensures c.in_default-sender_at.ensures))) is

pub returns-in_default-clause-senders : goal.returns-in_default-clause-senders
returns-in_default-clause-senders c = λ b ms s is next.
    quiet b ms s (shown c.args.line.now) c.args.net.now.state next c.args.self.now _ refl (inl (sym c.cause_of.ensures ∙ c.in_default.is)) is

pub count_links-requires-clause-sizes : goal.count_links-requires-clause-sizes
count_links-requires-clause-sizes c =
    let R = c.requires.follows in
    sizes_are R.base R.so_far R.before (shown c.args.line.now) c.args.net.now.state R.next c.nodes-nodes.result.now c.nodes-nodes.ensures.parts c.args.self.now.links.items c.args.self.now.links.items refl R.figures.links

pub count_links-requires-clause-few : goal.count_links-requires-clause-few
count_links-requires-clause-few c =
    let R = c.requires.follows in
    few_each R.base R.so_far R.before c.args.self.now.links.items R.figures.links (omega (arith, R.figures.events, c.requires.few))

pub count_links-requires-clause-one : goal.count_links-requires-clause-one
count_links-requires-clause-one c = λ none other within.
    let R = c.requires.follows in
    one_link R.before (shown c.args.line.now) c.args.net.now.state R.next R.base R.so_far c.nodes-nodes.result.now c.nodes-nodes.ensures.parts c.args.self.now.links.items c.args.self.now.links.items refl R.figures.links none other within

pub returns-in-Some-sender_at-clause-links : goal.returns-in-Some-sender_at-clause-links
returns-in-Some-sender_at-clause-links c = λ b ms s is next tells keeps.
    links_counted b ms s (shown c.args.line.now) c.args.net.now.state next (omega (arith, is.last, c.requires.order)) c.nodes-nodes.result.now c.nodes-nodes.ensures.parts tells keeps c.args.self.now.links.items c.count_links.new.all.items c.args.self.now.links.items refl is.links
    c.count_links.ensures.size c.count_links.ensures.sizes c.count_links.ensures.here c.count_links.ensures.elsewhere

pub returns-in_default-sender_at-clause-links : goal.returns-in_default-sender_at-clause-links
returns-in_default-sender_at-clause-links c = λ b ms s is next tells keeps.
    links_counted b ms s (shown c.args.line.now) c.args.net.now.state next (omega (arith, is.last, c.requires.order)) c.nodes-nodes.result.now c.nodes-nodes.ensures.parts tells keeps c.args.self.now.links.items c.count_links.new.all.items c.args.self.now.links.items refl is.links
    c.count_links.ensures.size c.count_links.ensures.sizes c.count_links.ensures.here c.count_links.ensures.elsewhere

pub returns-in_default-clause-links : goal.returns-in_default-clause-links
returns-in_default-clause-links c = λ b ms s is next tells keeps.
    links_counted b ms s (shown c.args.line.now) c.args.net.now.state next (omega (arith, is.last, c.requires.order)) c.nodes-nodes.result.now c.nodes-nodes.ensures.parts tells keeps c.args.self.now.links.items c.count_links.new.all.items c.args.self.now.links.items refl is.links
    c.count_links.ensures.size c.count_links.ensures.sizes c.count_links.ensures.here c.count_links.ensures.elsewhere

pub returns-then-freed-clause-senders : goal.returns-then-freed-clause-senders
returns-then-freed-clause-senders c = λ b ms s is next.
    quiet b ms s (shown c.args.line.now) c.args.net.now.state next c.args.self.now _ refl (inl (none_where_free (shown c.args.line.now).event (sym c.is_free-freed.ensures ∙ c.if-freed.true))) is

pub returns-then-freed-clause-links : goal.returns-then-freed-clause-links
returns-then-freed-clause-links c = λ b ms s is next tells keeps.
    links_counted b ms s (shown c.args.line.now) c.args.net.now.state next (omega (arith, is.last, c.requires.order)) c.nodes-nodes.result.now c.nodes-nodes.ensures.parts tells keeps c.args.self.now.links.items c.count_links.new.all.items c.args.self.now.links.items refl is.links
    c.count_links.ensures.size c.count_links.ensures.sizes c.count_links.ensures.here c.count_links.ensures.elsewhere

pub count_links-requires-clause-sends : goal.count_links-requires-clause-sends
count_links-requires-clause-sends c =
    let R = c.requires.follows in
    each_freed_or_offered R.before (shown c.args.line.now) c.args.net.now.state R.next R.base R.so_far c.nodes-nodes.result.now c.nodes-nodes.ensures.parts c.args.self.now.links.items c.args.self.now.links.items refl R.figures.links R.sends
