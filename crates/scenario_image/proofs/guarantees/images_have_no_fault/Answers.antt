use Rattle.scenario_image.proofs.Judged.{no_byte_fault}
use Rattle.scenario_image.proofs.guarantees.images_have_no_fault.Goals as goal

pub returns : goal.returns
returns c = no_byte_fault
