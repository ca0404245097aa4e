use Rattle.reno_sender.proofs.RowLaws.{threshold_at_recovery, threshold_at_timeout, threshold_at_further_timeout, threshold_stays}
use Rattle.reno_sender.proofs.guarantees.threshold_follows_losses.Goals as goal

pub returns : goal.returns
returns c = record { at_recovery = threshold_at_recovery; at_timeout = threshold_at_timeout; at_further_timeout = threshold_at_further_timeout; otherwise = threshold_stays }
