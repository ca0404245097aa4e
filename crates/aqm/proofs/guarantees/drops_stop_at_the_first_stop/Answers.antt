use Rattle.aqm.proofs.Front.{drops_stop_at_the_first_stop}
use Rattle.aqm.proofs.guarantees.drops_stop_at_the_first_stop.Goals as goal

pub returns : goal.returns
returns c = drops_stop_at_the_first_stop
