use Rattle.std.proofs.Common.{sym, ap, subst, ◌∙◌}
use Rattle.reno_sender.specs.declared.fields.SenderFields.{SenderFields}
use Rattle.reno_sender.specs.AckRun.{IsAckRun}
use Rattle.reno_sender.specs.Fields.{IsSound}
use Rattle.reno_sender.specs.Laws.{IsAckFor}
use Rattle.reno_sender.specs.Sending.{Planned}
use Rattle.reno_sender.specs.LossRecovery.{new_acknowledgement}
use Rattle.reno_sender.proofs.Advances.{new_acknowledgement_keeps}
use Rattle.reno_sender.proofs.AckRuns.{is_new}
use Rattle.reno_sender.proofs.sender.Sender.take_run.Goals as goal

pub invariant_of-self : goal.invariant_of-self
invariant_of-self c =
    let f = c.self.inside.fields in
    let ack = subst (λ (s : SenderFields). IsAckFor s c.args.ack c.args.now) (sym c.self.view_is) c.requires.ack in
    let run = subst (λ (s : SenderFields). IsAckRun s c.args.ack c.args.run) (sym c.self.view_is) c.requires.run in
    subst IsSound (sym c.take_run.ensures) (new_acknowledgement_keeps f c.args.ack c.args.now c.self.invariant c.requires.moment ack run.new).sound

pub returns : goal.returns
returns c =
    c.take_run.ensures ∙ ap (λ (s : SenderFields). (new_acknowledgement s c.args.ack c.args.now).fields) c.self.view_is
    ∙ ap (λ (p : Planned). p.fields) (sym (is_new c.args.self.now c.args.ack c.args.now c.args.run c.requires.run))
