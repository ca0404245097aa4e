use Rattle.run_laws.proofs.Losses.{duplicates_are_answered}
use Rattle.run_laws.proofs.laws.third_duplicates_are_answered.Goals as goal

pub returns : goal.returns
returns c = duplicates_are_answered
