use Rattle.std.proofs.Common.{sym}
use Rattle.reno_sender.proofs.Sends.{timing_after-spaced}
use Rattle.reno_sender.proofs.sending.timing_after_run.Goals as goal

pub returns : goal.returns
returns c =
    rw (c.or.ensures, c.still_timed.ensures, c.newly_timed.ensures)
    (sym (timing_after-spaced c.args.fields.now c.args.count c.args.now c.requires.sound))
