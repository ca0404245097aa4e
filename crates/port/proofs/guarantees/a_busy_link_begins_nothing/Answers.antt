use Rattle.port.proofs.StepLaws.{busy_link_begins_nothing, one_departs_at_most}
use Rattle.port.proofs.guarantees.a_busy_link_begins_nothing.Goals as goal

pub returns : goal.returns
returns c = record { busy = busy_link_begins_nothing; one = one_departs_at_most }
