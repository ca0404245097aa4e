use Rattle.std.proofs.Common.{◌+◌, sym, ◌∙◌}
use Rattle.reno_sender.proofs.Rows.{early_counted_keeps, new_ends}
use Rattle.reno_sender.proofs.loss_recovery.duplicates.early_duplicate.Goals as goal

pub nothing-requires : goal.nothing-requires
nothing-requires c = rw c.one_more.ensures (early_counted_keeps c.args.fields.now c.args.now c.requires.sound c.requires.no_recovery c.requires.few).sound

pub send_one-requires-clause-sound : goal.send_one-requires-clause-sound
send_one-requires-clause-sound c = rw c.one_more.ensures (early_counted_keeps c.args.fields.now c.args.now c.requires.sound c.requires.no_recovery c.requires.few).sound

pub send_one-requires-clause-in_total : goal.send_one-requires-clause-in_total
send_one-requires-clause-in_total c =
    (new_ends c.args.fields.now (c.args.fields.now.una + c.min.result) c.requires.sound (sym c.may_send_new-sends.ensures ∙ c.if-sends.true)).0
