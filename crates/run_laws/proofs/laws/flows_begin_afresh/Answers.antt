use Rattle.run_laws.proofs.Setup.{flows_begin_afresh}
use Rattle.run_laws.proofs.laws.flows_begin_afresh.Goals as goal

pub returns : goal.returns
returns c = flows_begin_afresh
