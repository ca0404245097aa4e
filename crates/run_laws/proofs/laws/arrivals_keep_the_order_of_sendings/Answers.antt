use Rattle.run_laws.proofs.States.{arrivals_keep_order}
use Rattle.run_laws.proofs.laws.arrivals_keep_the_order_of_sendings.Goals as goal

pub returns : goal.returns
returns c = arrivals_keep_order
