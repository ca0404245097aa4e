use Rattle.run_laws.proofs.Setup.{links_begin_idle}
use Rattle.run_laws.proofs.laws.links_begin_idle.Goals as goal

pub returns : goal.returns
returns c = links_begin_idle
