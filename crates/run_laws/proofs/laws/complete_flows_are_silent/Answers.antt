use Rattle.run_laws.proofs.Senders.{complete_flows_are_silent}
use Rattle.run_laws.proofs.laws.complete_flows_are_silent.Goals as goal

pub returns : goal.returns
returns c = complete_flows_are_silent
