use Rattle.run_laws.proofs.GoesOn.{no_flow_hangs}
use Rattle.run_laws.proofs.laws.no_flow_hangs.Goals as goal

pub returns : goal.returns
returns c = no_flow_hangs
