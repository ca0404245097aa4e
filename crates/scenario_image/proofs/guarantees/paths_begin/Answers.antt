use Rattle.scenario_image.proofs.Arrivals.{paths_begin}
use Rattle.scenario_image.proofs.guarantees.paths_begin.Goals as goal

pub returns : goal.returns
returns c = paths_begin
