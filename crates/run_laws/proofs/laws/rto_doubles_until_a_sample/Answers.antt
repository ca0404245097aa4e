use Rattle.run_laws.proofs.Senders.{rto_doubles_until_sample}
use Rattle.run_laws.proofs.laws.rto_doubles_until_a_sample.Goals as goal

pub returns : goal.returns
returns c = rto_doubles_until_sample
