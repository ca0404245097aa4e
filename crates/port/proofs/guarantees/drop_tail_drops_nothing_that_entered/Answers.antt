use Rattle.port.proofs.CodelLaws.{drop_tail_drops_nothing_that_entered}
use Rattle.port.proofs.guarantees.drop_tail_drops_nothing_that_entered.Goals as goal

pub returns : goal.returns
returns c = drop_tail_drops_nothing_that_entered
