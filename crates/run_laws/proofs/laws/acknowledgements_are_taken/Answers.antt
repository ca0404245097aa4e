use Rattle.run_laws.proofs.Marks.{acknowledgements_are_taken}
use Rattle.run_laws.proofs.laws.acknowledgements_are_taken.Goals as goal

pub returns : goal.returns
returns c = acknowledgements_are_taken
