use Rattle.run_laws.proofs.States.{idle_links_are_empty}
use Rattle.run_laws.proofs.laws.idle_links_are_empty.Goals as goal

pub returns : goal.returns
returns c = idle_links_are_empty
