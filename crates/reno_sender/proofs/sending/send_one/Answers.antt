use Rattle.std.proofs.Math.Nat.{one-mul}
use Rattle.reno_sender.proofs.Rows.{one_well_made}
use Rattle.reno_sender.proofs.sending.send_one.Goals as goal

pub of-requires : goal.of-requires
of-requires c =
    rw (c.after_run-sent.ensures, one-mul)
    (one_well_made c.args.fields.now c.args.now c.args.lt c.requires.sound c.requires.moment c.requires.in_total c.requires.in_window c.requires.lt_flight)
