use Rattle.run_laws.proofs.Once.{packets_arrive_once}
use Rattle.run_laws.proofs.laws.packets_arrive_once.Goals as goal

pub returns : goal.returns
returns c = packets_arrive_once
