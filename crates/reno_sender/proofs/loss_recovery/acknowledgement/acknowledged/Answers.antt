use Rattle.std.proofs.Common.{sym, ◌∙◌}
use Rattle.reno_sender.proofs.AckRuns.{of_new_data}
use Rattle.reno_sender.proofs.loss_recovery.acknowledgement.acknowledged.Goals as goal

pub returns-then-ack-fields : goal.returns-then-ack-fields
returns-then-ack-fields c = c.newly_acknowledged.ensures ∙ sym (of_new_data c.args.fields.now c.args.ack c.args.now c.if-ack-fields.true)
