use Rattle.run_laws.proofs.Setup.{routers_stay_as_stated}
use Rattle.run_laws.proofs.laws.routers_stay_as_stated.Goals as goal

pub returns : goal.returns
returns c = routers_stay_as_stated
