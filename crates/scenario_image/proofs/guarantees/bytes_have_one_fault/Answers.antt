use Rattle.scenario_image.specs.ImageFault.{AreBytesFreeOf, judged_byte_faults}
use Rattle.scenario_image.proofs.FirstFault.{one_not_free}
use Rattle.scenario_image.proofs.guarantees.bytes_have_one_fault.Goals as goal

pub returns : goal.returns
returns c = λ bytes one other first second. one_not_free (AreBytesFreeOf bytes) judged_byte_faults one other first second
