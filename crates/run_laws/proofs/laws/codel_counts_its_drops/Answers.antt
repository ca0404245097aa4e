use Rattle.run_laws.proofs.DropState.{codel_counts_its_drops}
use Rattle.run_laws.proofs.laws.codel_counts_its_drops.Goals as goal

pub returns : goal.returns
returns c = codel_counts_its_drops
