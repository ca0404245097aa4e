use Rattle.run_laws.proofs.Causes.{codel_drops_for_cause}
use Rattle.run_laws.proofs.laws.codel_drops_for_cause.Goals as goal

pub returns : goal.returns
returns c = codel_drops_for_cause
