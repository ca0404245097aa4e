use Rattle.run_laws.proofs.Causes.{drop_tail_sends_all_that_entered}
use Rattle.run_laws.proofs.laws.drop_tail_sends_all_that_entered.Goals as goal

pub returns : goal.returns
returns c = drop_tail_sends_all_that_entered
