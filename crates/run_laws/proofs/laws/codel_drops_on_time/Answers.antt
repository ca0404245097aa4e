use Rattle.run_laws.proofs.Causes.{codel_drops_on_time}
use Rattle.run_laws.proofs.laws.codel_drops_on_time.Goals as goal

pub returns : goal.returns
returns c = codel_drops_on_time
