use Rattle.std.proofs.Common.{List, subst, sym, ◌∙◌}
use Rattle.sim_time.specs.declared.key.Key.{Key}
use Rattle.packet_chain.specs.Stamped.{Stamped}
use Rattle.node_core.specs.declared.event.Event.{Event}
use Rattle.node_core.specs.CarriedOut.{IsNextEvent, IsCarriedOut}
use Rattle.node_core.specs.Decided.{CanDo}
use Rattle.node_core.proofs.Carried.{ran}
use Rattle.node_core.proofs.Due.{of_link, set_by}
use Rattle.node_core.proofs.fire.run_decided.Goals as goal

pub decide-requires-clause-can : goal.decide-requires-clause-can
decide-requires-clause-can c = record {
  moment = c.requires.can.next.moment;
  set = set_by c.args.role.now c.args.links.now.items c.args.event_queue.now c.args.line.now.key c.args.line.now.event c.requires.can.in_step c.requires.can.next.due;
  own = of_link c.args.role.now c.args.links.now.items c.args.event_queue.now c.args.line.now.key c.args.line.now.event c.requires.can.in_step c.requires.can.next.due;
  takes = c.requires.can.runs;
  linked = c.requires.can.in_step.linked;
  few = c.requires.can.in_step.few;
}

pub carry_out-requires-clause-next : goal.carry_out-requires-clause-next
carry_out-requires-clause-next c =
    subst (λ (k : Key). IsNextEvent k c.decide.new.line.event c.args.links.now.items c.args.event_queue.now c.out.inside.chains.items) (sym c.decide.ensures.same_event.key_is)
    (subst (λ (e : Event). IsNextEvent c.args.line.now.key e c.args.links.now.items c.args.event_queue.now c.out.inside.chains.items) (sym c.decide.ensures.same_event.event_is)
    (subst (IsNextEvent c.args.line.now.key c.args.line.now.event c.args.links.now.items c.args.event_queue.now) (sym c.out.view_is) c.requires.can.next))

pub carry_out-requires-clause-can : goal.carry_out-requires-clause-can
carry_out-requires-clause-can c =
    subst (λ (k : Key). CanDo k c.decide.new.line.event c.args.links.now.items c.decide.new.line.acts.room c.in_ok-decision.decision) (sym c.decide.ensures.same_event.key_is)
    (subst (λ (e : Event). CanDo c.args.line.now.key e c.args.links.now.items c.decide.new.line.acts.room c.in_ok-decision.decision) (sym c.decide.ensures.same_event.event_is) c.in_ok-decision.ensures.decided.can)

pub returns-clause-ran : goal.returns-clause-ran
returns-clause-ran c =
    let done = subst (λ (chains : List (List Stamped)). IsCarriedOut c.decide.new.line.key c.decide.new.line.event c.in_ok-decision.decision c.args.links.now.items c.carry_out.new.links.items c.args.event_queue.now c.carry_out.new.event_queue chains c.carry_out.new.out c.decide.new.line.acts.acts c.carry_out.new.line.acts.acts c.carry_out.result) c.out.view_is c.carry_out.ensures.done in
    let r = ran c.args.role.now c.decide.new.role c.args.links.now.items c.carry_out.new.links.items c.args.event_queue.now c.carry_out.new.event_queue c.args.out.now c.carry_out.new.out c.args.line.now.acts.acts c.carry_out.new.line.acts.acts c.carry_out.result
    c.args.line.now.key c.args.line.now.event c.decide.new.line.acts.room c.requires.can.in_step c.requires.can.next (c.in_ok-decision.decision) (c.in_ok-decision.ensures.decided)
    c.decide.new.line.key c.decide.new.line.event c.decide.new.line.acts.acts c.decide.ensures.same_event.key_is c.decide.ensures.same_event.event_is c.decide.ensures.acts done in
    let same = c.carry_out.ensures.same_event in
    record { has_run = r.has_run; did = r.did; leaves = r.leaves; same_event = record { key_is = same.key_is ∙ c.decide.ensures.same_event.key_is; event_is = same.event_is ∙ c.decide.ensures.same_event.event_is } }
