use Rattle.std.proofs.Common.{false, refl, sym, subst}
use Rattle.reno_receiver.specs.Received.{timer_came}
use Rattle.node_core.specs.declared.event.Event.TheVariants.{DelAck}
use Rattle.node_core.specs.declared.role.Role.{Role}
use Rattle.node_core.specs.declared.role.Role.TheVariants.{Receives}
use Rattle.node_core.specs.Decided.{IsDecided}
use Rattle.node_core.specs.InStep.{HasItsLink}
use Rattle.node_core.proofs.Decisions.{both_ok, receiver_decides}
use Rattle.node_core.proofs.events.decide_delayed.Goals as goal

pub returns-in-Receives-clause-decided : goal.returns-in-Receives-clause-decided
returns-in-Receives-clause-decided c =
    λ key flow links linked.
    let own = c.in-Receives.flow in
    let state = c.in-Receives.receiver in
    let new = c.answer_delayed.new.receiver in
    let room = c.answer_delayed.new.acts.room in
    let has : HasItsLink (Receives own state) links = subst (λ (r : Role). HasItsLink r links) c.in-Receives.is linked in
    both_ok c.answer_delayed.result c.answer_delayed.ensures.sends c.answer_delayed.ensures.receiver (λ d sends new_is.
    subst (λ (r : Role). IsDecided r (Receives own new) links key (DelAck flow) room d) (sym c.in-Receives.is)
    (receiver_decides own state new (timer_came state) false links key (DelAck flow) room d sends new_is has refl (λ e. absurd (cc)) refl))
