use Rattle.run_laws.proofs.Losses.{timers_are_restarted}
use Rattle.run_laws.proofs.laws.timers_are_restarted.Goals as goal

pub returns : goal.returns
returns c = timers_are_restarted
