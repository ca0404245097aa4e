use Rattle.aqm.proofs.Front.{gives_what_waits}
use Rattle.aqm.proofs.guarantees.gives_what_waits.Goals as goal

pub returns : goal.returns
returns c = gives_what_waits
