use Rattle.run_laws.proofs.Losses.{windows_are_filled}
use Rattle.run_laws.proofs.laws.windows_are_filled.Goals as goal

pub returns : goal.returns
returns c = windows_are_filled
