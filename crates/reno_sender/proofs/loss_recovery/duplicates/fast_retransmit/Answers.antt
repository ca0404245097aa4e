use Rattle.reno_sender.proofs.Rows.{retransmitting_sound}
use Rattle.reno_sender.proofs.loss_recovery.duplicates.fast_retransmit.Goals as goal

pub resend-requires-clause-sound : goal.resend-requires-clause-sound
resend-requires-clause-sound c =
    rw (c.lowered_at-ssthresh.ensures, c.recover_at_loss.ensures) (retransmitting_sound c.args.fields.now c.requires.sound c.requires.outstanding c.requires.enters)
