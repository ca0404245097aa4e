use Rattle.scenario_image.proofs.Arrivals.{ends_have_one_flow}
use Rattle.scenario_image.proofs.guarantees.ends_have_one_flow.Goals as goal

pub returns : goal.returns
returns c = ends_have_one_flow
