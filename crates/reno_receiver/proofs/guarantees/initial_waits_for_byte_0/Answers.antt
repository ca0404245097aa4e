use Rattle.reno_receiver.proofs.Laws.{initial_holds}
use Rattle.reno_receiver.proofs.guarantees.initial_waits_for_byte_0.Goals as goal

pub returns : goal.returns
returns c = initial_holds
