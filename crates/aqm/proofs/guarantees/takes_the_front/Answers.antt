use Rattle.aqm.proofs.Front.{takes_the_front, drops_at_most_what_waits}
use Rattle.aqm.proofs.guarantees.takes_the_front.Goals as goal

pub returns : goal.returns
returns c = record { front = takes_the_front; most = drops_at_most_what_waits }
