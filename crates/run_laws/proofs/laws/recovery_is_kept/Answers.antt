use Rattle.run_laws.proofs.Losses.{recovery_is_kept}
use Rattle.run_laws.proofs.laws.recovery_is_kept.Goals as goal

pub returns : goal.returns
returns c = recovery_is_kept
