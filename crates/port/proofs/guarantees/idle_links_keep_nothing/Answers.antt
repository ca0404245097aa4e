use Rattle.port.proofs.StepLaws.{idle_links_keep_nothing}
use Rattle.port.proofs.CodelLaws.{offerings_drop_nothing}
use Rattle.port.proofs.guarantees.idle_links_keep_nothing.Goals as goal

pub returns : goal.returns
returns c = record { kept = idle_links_keep_nothing; offerings = offerings_drop_nothing }
