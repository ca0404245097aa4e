use Rattle.std.proofs.Common.{◌+◌, sym, ◌∙◌}
use Rattle.reno_sender.proofs.Rows.{inflated_sound, new_ends}
use Rattle.reno_sender.proofs.loss_recovery.duplicates.further_duplicate.Goals as goal

pub nothing-requires : goal.nothing-requires
nothing-requires c = rw (c.window_at-cwnd.ensures, c.one_more.ensures) (inflated_sound c.args.fields.now c.requires.sound c.requires.in_recovery)

pub send_one-requires-clause-sound : goal.send_one-requires-clause-sound
send_one-requires-clause-sound c = rw (c.window_at-cwnd.ensures, c.one_more.ensures) (inflated_sound c.args.fields.now c.requires.sound c.requires.in_recovery)

pub send_one-requires-clause-in_total : goal.send_one-requires-clause-in_total
send_one-requires-clause-in_total c =
    (new_ends c.args.fields.now (c.args.fields.now.una + c.min.result) c.requires.sound (sym c.may_send_new-sends.ensures ∙ c.if-sends.true)).0
