use Rattle.run_laws.proofs.Losses.{threshold_stays_without_loss}
use Rattle.run_laws.proofs.laws.ssthresh_stays_without_a_loss.Goals as goal

pub returns : goal.returns
returns c = threshold_stays_without_loss
