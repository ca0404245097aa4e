use Rattle.aqm.proofs.Reasons.{every_reason}
use Rattle.aqm.proofs.drop_reason.DropReason.all.Goals as goal

pub returns-clause-every : goal.returns-clause-every
returns-clause-every c = every_reason
