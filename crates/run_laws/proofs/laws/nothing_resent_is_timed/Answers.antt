use Rattle.run_laws.proofs.Senders.{nothing_resent_is_timed}
use Rattle.run_laws.proofs.laws.nothing_resent_is_timed.Goals as goal

pub returns : goal.returns
returns c = nothing_resent_is_timed
