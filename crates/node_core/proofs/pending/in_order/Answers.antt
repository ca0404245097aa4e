use Rattle.std.proofs.Common.{◌≡◌, ◌<◌, ◌++◌, ◌∷◌, [], List, length, None, Some, sym, ap, subst, ◌∙◌}
use Rattle.std.specs.FinMap as map
use Rattle.sim_time.specs.declared.key.Key.{Key}
use Rattle.tournament.specs.Keyed.{least}
use Rattle.node_core.specs.declared.event.Event.{Event}
use Rattle.node_core.specs.EventQueueState.{EventQueueState}
use Rattle.node_core.proofs.InOrder.{taken_more, fewer, taken_all}
use Rattle.node_core.proofs.pending.in_order.Goals as goal

pub loop-key-smaller-in_ok-push : goal.loop-key-smaller-in_ok-push
loop-key-smaller-in_ok-push c =
    let rest = c.loop-key.rest.pending in
    let first : least rest ≡ Some (c.in-Some.key, c.in-Some.event) = sym c.in-Some.ensures in
    subst (λ n. n < length (map.entries rest)) (sym (ap (λ (r : EventQueueState). length (map.entries r.pending)) c.take-cell.ensures.state)) (fewer rest c.in-Some.key c.in-Some.event first)

pub loop-key-preserved-in_ok-push : goal.loop-key-preserved-in_ok-push
loop-key-preserved-in_ok-push c =
    let rest = c.loop-key.rest.pending in
    let all = c.loop-key.all.items in
    let entry : Key × Event = (c.in-Some.key, c.in-Some.event) in
    let first : least rest ≡ Some (c.in-Some.key, c.in-Some.event) = sym c.in-Some.ensures in
    ap (λ (es : List (Key × Event)). es ++ map.entries c.take-cell.new.self.pending) c.in_ok-push.ensures.items
    ∙ ap (λ (r : EventQueueState). (all ++ entry ∷ []) ++ map.entries r.pending) c.take-cell.ensures.state
    ∙ taken_more all (map.entries c.args.event_queue.now.pending) rest c.in-Some.key c.in-Some.event first c.loop-key.invariant

pub loop-key-smaller : goal.loop-key-smaller
loop-key-smaller c =
    let rest = c.loop-key.rest.pending in
    let first : least rest ≡ Some (c.in-Some.key, c.in-Some.event) = sym c.in-Some.ensures in
    subst (λ n. n < length (map.entries rest)) (sym (ap (λ (r : EventQueueState). length (map.entries r.pending)) c.take-cell.ensures.state)) (fewer rest c.in-Some.key c.in-Some.event first)

pub loop-key-preserved : goal.loop-key-preserved
loop-key-preserved c =
    let rest = c.loop-key.rest.pending in
    let all = c.loop-key.all.items in
    let entry : Key × Event = (c.in-Some.key, c.in-Some.event) in
    let first : least rest ≡ Some (c.in-Some.key, c.in-Some.event) = sym c.in-Some.ensures in
    ap (λ (es : List (Key × Event)). es ++ map.entries c.take-cell.new.self.pending) c.in_ok-push.ensures.items
    ∙ ap (λ (r : EventQueueState). (all ++ entry ∷ []) ++ map.entries r.pending) c.take-cell.ensures.state
    ∙ taken_more all (map.entries c.args.event_queue.now.pending) rest c.in-Some.key c.in-Some.event first c.loop-key.invariant

pub returns : goal.returns
returns c =
    let rest = c.loop-key.rest.pending in
    let none : least rest ≡ None = cc in
    taken_all c.loop-key.all.items (map.entries c.args.event_queue.now.pending) rest none c.loop-key.invariant
