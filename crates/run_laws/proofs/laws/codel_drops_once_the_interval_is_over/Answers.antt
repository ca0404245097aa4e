use Rattle.run_laws.proofs.DropState.{codel_keeps_drop_state}
use Rattle.run_laws.proofs.laws.codel_drops_once_the_interval_is_over.Goals as goal

pub returns : goal.returns
returns c = codel_keeps_drop_state
