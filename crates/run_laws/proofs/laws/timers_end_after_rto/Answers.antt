use Rattle.run_laws.proofs.Senders.{timers_end_after_rto}
use Rattle.run_laws.proofs.laws.timers_end_after_rto.Goals as goal

pub returns : goal.returns
returns c = timers_end_after_rto
