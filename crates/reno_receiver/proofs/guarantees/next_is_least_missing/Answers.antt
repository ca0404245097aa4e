use Rattle.reno_receiver.proofs.Laws.{next_holds}
use Rattle.reno_receiver.proofs.guarantees.next_is_least_missing.Goals as goal

pub returns : goal.returns
returns c = next_holds
