use Rattle.run_laws.proofs.Marks.{losses_are_marked}
use Rattle.run_laws.proofs.laws.losses_are_marked.Goals as goal

pub returns : goal.returns
returns c = losses_are_marked
