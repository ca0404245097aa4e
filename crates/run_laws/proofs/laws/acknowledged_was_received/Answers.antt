use Rattle.run_laws.proofs.States.{acknowledged_was_received}
use Rattle.run_laws.proofs.laws.acknowledged_was_received.Goals as goal

pub returns : goal.returns
returns c = acknowledged_was_received
