use Rattle.run_laws.proofs.Losses.{timeouts_are_answered}
use Rattle.run_laws.proofs.laws.timeouts_are_answered.Goals as goal

pub returns : goal.returns
returns c = timeouts_are_answered
