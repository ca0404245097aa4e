use Rattle.reno_sender.proofs.RowLaws.{recovery_lasts}
use Rattle.reno_sender.proofs.guarantees.recovery_lasts_until_recover.Goals as goal

pub returns : goal.returns
returns c = recovery_lasts
