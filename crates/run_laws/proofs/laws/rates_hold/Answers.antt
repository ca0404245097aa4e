use Rattle.run_laws.proofs.Rates.{rates_hold}
use Rattle.run_laws.proofs.laws.rates_hold.Goals as goal

pub returns : goal.returns
returns c = rates_hold
