use Rattle.scenario_image.proofs.Arrivals.{paths_arrive}
use Rattle.scenario_image.proofs.guarantees.paths_arrive.Goals as goal

pub returns : goal.returns
returns c = paths_arrive
