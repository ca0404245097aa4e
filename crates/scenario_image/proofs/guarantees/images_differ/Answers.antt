use Rattle.scenario_image.proofs.Judged.{one_scenario}
use Rattle.scenario_image.proofs.guarantees.images_differ.Goals as goal

pub returns : goal.returns
returns c = λ bytes one other first second of_one of_other. one_scenario bytes one other first.in_limits second.in_limits of_one of_other
