use Rattle.sim_time.proofs.ControlLaw.{gaps_shrink}
use Rattle.sim_time.proofs.control_law.gaps_shrink.Goals as goal

pub returns : goal.returns
returns c = gaps_shrink
