use Rattle.port.proofs.Rises.{arrivals_rise}
use Rattle.port.proofs.guarantees.arrivals_rise.Goals as goal

pub returns : goal.returns
returns c = arrivals_rise
