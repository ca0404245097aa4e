use Rattle.run_laws.proofs.Setup.{flows_stay_as_stated}
use Rattle.run_laws.proofs.laws.flows_stay_as_stated.Goals as goal

pub returns : goal.returns
returns c = flows_stay_as_stated
