use Rattle.std.proofs.Common.{sym, ◌∙◌}
use Rattle.reno_sender.proofs.Runs.{length-spaced}
use Rattle.figures.proofs.turn.sent_in_run.Goals as goal

pub returns-clause-segments : goal.returns-clause-segments
returns-clause-segments c = c.segments_in.ensures ∙ sym (length-spaced c.args.first c.args.mss _)
