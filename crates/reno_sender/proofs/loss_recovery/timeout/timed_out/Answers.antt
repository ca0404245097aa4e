use Rattle.reno_sender.proofs.Multiples.{multiple_next, multiple_below}
use Rattle.reno_sender.proofs.Rows.{ended_sound}
use Rattle.reno_sender.proofs.loss_recovery.timeout.timed_out.Goals as goal

pub resend-requires-clause-sound : goal.resend-requires-clause-sound
resend-requires-clause-sound c =
    rw (c.backed_off-rto.ensures, c.lowered_at-ssthresh.ensures, c.recover_at_loss.ensures) (ended_sound c.args.fields.now c.args.now c.requires.sound c.requires.moment c.requires.set)

pub resend-requires-clause-back : goal.resend-requires-clause-back
resend-requires-clause-back c =
    let s = c.requires.sound in
    multiple_below c.args.fields.now.mss c.args.fields.now.una c.args.fields.now.nxt s.mss_least s.una_multiple s.nxt_multiple (s.deadline_flight.0 c.requires.set)

pub resend-requires-clause-whole : goal.resend-requires-clause-whole
resend-requires-clause-whole c = multiple_next c.args.fields.now.mss c.args.fields.now.una c.requires.sound.una_multiple
