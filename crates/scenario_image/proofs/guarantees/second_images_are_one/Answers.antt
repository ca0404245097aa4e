use Rattle.scenario_image.proofs.Judged.{one_second_image}
use Rattle.scenario_image.proofs.guarantees.second_images_are_one.Goals as goal

pub returns : goal.returns
returns c = λ parts scenario. one_second_image parts
