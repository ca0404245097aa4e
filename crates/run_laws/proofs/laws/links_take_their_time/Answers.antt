use Rattle.run_laws.proofs.Timing.{links_take_their_time}
use Rattle.run_laws.proofs.laws.links_take_their_time.Goals as goal

pub returns : goal.returns
returns c = links_take_their_time
