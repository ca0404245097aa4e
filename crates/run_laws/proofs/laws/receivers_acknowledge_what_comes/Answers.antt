use Rattle.run_laws.proofs.Forwarding.{receivers_acknowledge}
use Rattle.run_laws.proofs.laws.receivers_acknowledge_what_comes.Goals as goal

pub returns : goal.returns
returns c = receivers_acknowledge
