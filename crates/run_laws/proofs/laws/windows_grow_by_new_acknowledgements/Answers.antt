use Rattle.run_laws.proofs.Losses.{windows_grow_by_reno}
use Rattle.run_laws.proofs.laws.windows_grow_by_new_acknowledgements.Goals as goal

pub returns : goal.returns
returns c = windows_grow_by_reno
