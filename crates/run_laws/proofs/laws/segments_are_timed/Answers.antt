use Rattle.run_laws.proofs.Marks.{segments_are_timed}
use Rattle.run_laws.proofs.laws.segments_are_timed.Goals as goal

pub returns : goal.returns
returns c = segments_are_timed
