use Rattle.aqm.proofs.Causes.{every_drop_has_a_cause}
use Rattle.aqm.proofs.guarantees.every_drop_has_a_cause.Goals as goal

pub returns : goal.returns
returns c = every_drop_has_a_cause
