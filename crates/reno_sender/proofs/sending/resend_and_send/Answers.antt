use Rattle.std.proofs.Math.Nat.{one-mul}
use Rattle.reno_sender.proofs.Rows.{again_and_next_well_made}
use Rattle.reno_sender.proofs.sending.resend_and_send.Goals as goal

pub of-requires : goal.of-requires
of-requires c =
    rw (c.after_run.ensures, one-mul)
    (again_and_next_well_made c.args.fields.now c.args.now c.requires.sound c.requires.moment c.requires.in_total c.requires.in_window)
