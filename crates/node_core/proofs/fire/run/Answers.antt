use Rattle.std.proofs.Common.{length, refl, subst, sym, ◌∙◌}
use Rattle.node_core.specs.declared.decision.Decision.TheVariants.{PassOn, TakeNext}
use Rattle.node_core.specs.declared.event.Event.{Event}
use Rattle.node_core.specs.Decided.{IsDecided}
use Rattle.node_core.specs.Ready.{IsOfLink}
use Rattle.node_core.proofs.Carried.{ran}
use Rattle.node_core.proofs.Decisions.{through_decides}
use Rattle.node_core.proofs.Due.{of_link}
use Rattle.node_core.proofs.fire.run.Goals as goal

pub free_link-requires-clause-own : goal.free_link-requires-clause-own
free_link-requires-clause-own c =
    subst (λ (e : Event). IsOfLink c.args.line.now.key.number (length c.args.links.now.items) e) c.in-Free.is
    (of_link c.args.role.now c.args.links.now.items c.args.event_queue.now c.args.line.now.key c.args.line.now.event c.requires.can.in_step c.requires.can.next.due)

pub take_next-requires-clause-can : goal.take_next-requires-clause-can
take_next-requires-clause-can c = (subst (λ (e : Event). IsDecided c.args.role.now c.args.role.now c.args.links.now.items c.args.line.now.key e c.free_link.new.acts.room (TakeNext c.in_ok-index-in-Free.index)) (sym c.in-Free.is) (c.in_ok-index-in-Free.ensures.decided c.args.role.now c.in-Free.field-0)).can

pub returns-in_ok-index-in-Free-clause-ran : goal.returns-in_ok-index-in-Free-clause-ran
returns-in_ok-index-in-Free-clause-ran c =
    let r = ran c.args.role.now c.args.role.now c.args.links.now.items c.take_next.new.links.items c.args.event_queue.now c.take_next.new.event_queue c.args.out.now c.take_next.new.out c.args.line.now.acts.acts c.take_next.new.line.acts.acts c.take_next.result
    c.args.line.now.key c.args.line.now.event c.free_link.new.acts.room c.requires.can.in_step c.requires.can.next (TakeNext c.in_ok-index-in-Free.index) (subst (λ (e : Event). IsDecided c.args.role.now c.args.role.now c.args.links.now.items c.args.line.now.key e c.free_link.new.acts.room (TakeNext c.in_ok-index-in-Free.index)) (sym c.in-Free.is) (c.in_ok-index-in-Free.ensures.decided c.args.role.now c.in-Free.field-0))
    c.args.line.now.key c.args.line.now.event c.free_link.new.acts.acts refl refl c.free_link.ensures.acts c.take_next.ensures.passed in
    record { has_run = r.has_run; did = r.did; leaves = r.leaves; same_event = c.take_next.ensures.same_event }

pub pass_on-requires-clause-can : goal.pass_on-requires-clause-can
pass_on-requires-clause-can c = (through_decides c.args.role.now c.args.links.now.items c.args.line.now.key c.args.line.now.event c.args.line.now.acts.room c.in-Some.index (record { packet = c.in-Arrive.packet; arrives = c.in-Arrive.is; route = sym c.route.ensures ∙ c.in-Some.is }) c.requires.can.runs c.requires.room).can

pub returns-in-Some-clause-ran : goal.returns-in-Some-clause-ran
returns-in-Some-clause-ran c =
    let r = ran c.args.role.now c.args.role.now c.args.links.now.items c.pass_on.new.links.items c.args.event_queue.now c.pass_on.new.event_queue c.args.out.now c.pass_on.new.out c.args.line.now.acts.acts c.pass_on.new.line.acts.acts c.pass_on.result
    c.args.line.now.key c.args.line.now.event c.args.line.now.acts.room c.requires.can.in_step c.requires.can.next (PassOn c.in-Some.index) (through_decides c.args.role.now c.args.links.now.items c.args.line.now.key c.args.line.now.event c.args.line.now.acts.room c.in-Some.index (record { packet = c.in-Arrive.packet; arrives = c.in-Arrive.is; route = sym c.route.ensures ∙ c.in-Some.is }) c.requires.can.runs c.requires.room)
    c.args.line.now.key c.args.line.now.event c.args.line.now.acts.acts refl refl refl c.pass_on.ensures.passed in
    record { has_run = r.has_run; did = r.did; leaves = r.leaves; same_event = c.pass_on.ensures.same_event }
