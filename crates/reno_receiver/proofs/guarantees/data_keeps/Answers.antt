use Rattle.reno_receiver.proofs.Laws.{data_keeps}
use Rattle.reno_receiver.proofs.guarantees.data_keeps.Goals as goal

pub returns : goal.returns
returns c = data_keeps
