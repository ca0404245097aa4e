use Rattle.run_laws.proofs.Setup.{links_stay_as_stated}
use Rattle.run_laws.proofs.laws.links_stay_as_stated.Goals as goal

pub returns : goal.returns
returns c = links_stay_as_stated
