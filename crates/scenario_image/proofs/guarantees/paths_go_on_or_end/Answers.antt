use Rattle.scenario_image.proofs.Arrivals.{paths_go_on_or_end}
use Rattle.scenario_image.proofs.guarantees.paths_go_on_or_end.Goals as goal

pub returns : goal.returns
returns c = paths_go_on_or_end
