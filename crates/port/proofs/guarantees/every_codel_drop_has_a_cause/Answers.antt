use Rattle.port.proofs.CodelLaws.{every_codel_drop_has_a_cause}
use Rattle.port.proofs.guarantees.every_codel_drop_has_a_cause.Goals as goal

pub returns : goal.returns
returns c = every_codel_drop_has_a_cause
