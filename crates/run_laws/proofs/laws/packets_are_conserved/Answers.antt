use Rattle.run_laws.proofs.Conserved.{packets_are_conserved}
use Rattle.run_laws.proofs.laws.packets_are_conserved.Goals as goal

pub returns : goal.returns
returns c = packets_are_conserved
