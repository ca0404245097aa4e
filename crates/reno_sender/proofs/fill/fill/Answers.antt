use Rattle.reno_sender.proofs.Rows.{fill_in_total, fill_well_made}
use Rattle.reno_sender.proofs.fill.fill.Goals as goal

pub after_run-requires-clause-in_total : goal.after_run-requires-clause-in_total
after_run-requires-clause-in_total c =
    rw c.segments_to_fill-count.ensures (fill_in_total c.args.fields.now c.args.now c.requires.sound c.requires.moment)

pub of-requires : goal.of-requires
of-requires c =
    rw (c.after_run.ensures, c.segments_to_fill-count.ensures) (fill_well_made c.args.fields.now c.args.now c.requires.sound c.requires.moment)
