use Rattle.run_laws.proofs.States.{windows_hold}
use Rattle.run_laws.proofs.laws.windows_hold.Goals as goal

pub returns : goal.returns
returns c = windows_hold
