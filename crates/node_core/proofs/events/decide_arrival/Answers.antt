use Rattle.std.proofs.Common.{true, refl, sym, ap, subst}
use Rattle.packet_chain.specs.declared.packet.Kind.{Kind}
use Rattle.reno_sender.specs.Table.{acknowledged}
use Rattle.reno_receiver.specs.Received.{data_came}
use Rattle.node_core.specs.declared.event.Event.TheVariants.{Arrive}
use Rattle.node_core.specs.declared.role.Role.{Role}
use Rattle.node_core.specs.declared.role.Role.TheVariants.{Sends, Receives}
use Rattle.node_core.specs.Decided.{IsDecided}
use Rattle.node_core.specs.InStep.{HasItsLink}
use Rattle.node_core.specs.Row.{at_sender, at_receiver}
use Rattle.node_core.specs.Running.{part}
use Rattle.node_core.proofs.Decisions.{both_ok, sender_decides, receiver_decides}
use Rattle.node_core.proofs.events.decide_arrival.Goals as goal

pub returns-in-Ack-clause-decided : goal.returns-in-Ack-clause-decided
returns-in-Ack-clause-decided c =
    λ links linked takes.
    let own = c.in-Sends.flow in
    let fields = c.in-Sends.sender in
    let new = c.send_for_ack.new.sender in
    let room = c.send_for_ack.new.acts.room in
    let packet = c.args.packet in
    let has : HasItsLink (Sends own fields) links = subst (λ (r : Role). HasItsLink r links) c.in-Sends.is linked in
    both_ok c.send_for_ack.result c.send_for_ack.ensures.sends c.send_for_ack.ensures.sender (λ d sends new_is.
    subst (λ (r : Role). IsDecided r (Sends own new) links c.args.key (Arrive packet) room d) (sym c.in-Sends.is)
    (sender_decides own fields new (acknowledged fields packet.number c.args.key.time) true links c.args.key (Arrive packet) room d sends new_is has tt (λ e. (packet, refl))
    (ap (λ (k : Kind). at_sender (part (Sends own fields) links) c.args.key own fields k packet.number) c.in-Ack.is)))

pub returns-in-Data-kind-clause-decided : goal.returns-in-Data-kind-clause-decided
returns-in-Data-kind-clause-decided c =
    λ links linked takes.
    let own = c.in-Receives.flow in
    let state = c.in-Receives.receiver in
    let new = c.answer_data.new.receiver in
    let room = c.answer_data.new.acts.room in
    let packet = c.args.packet in
    let has : HasItsLink (Receives own state) links = subst (λ (r : Role). HasItsLink r links) c.in-Receives.is linked in
    both_ok c.answer_data.result c.answer_data.ensures.sends c.answer_data.ensures.receiver (λ d sends new_is.
    subst (λ (r : Role). IsDecided r (Receives own new) links c.args.key (Arrive packet) room d) (sym c.in-Receives.is)
    (receiver_decides own state new (data_came state packet.number c.args.key.time) true links c.args.key (Arrive packet) room d sends new_is has tt (λ e. (packet, refl))
    (ap (λ (k : Kind). at_receiver (part (Receives own state) links) c.args.key own state k packet.number) c.in-Data-kind.is)))
