use Rattle.run_laws.proofs.Forwarding.{routers_forward}
use Rattle.run_laws.proofs.laws.routers_forward_what_comes.Goals as goal

pub returns : goal.returns
returns c = routers_forward
