use Rattle.flow_waits.proofs.Found.{stalls_are_found}
use Rattle.flow_waits.proofs.guarantees.the_stalls_are_found.Goals as goal

pub returns : goal.returns
returns c = stalls_are_found
