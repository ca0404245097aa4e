use Rattle.reno_receiver.proofs.Kept.{waits_is}
use Rattle.reno_receiver.proofs.receiver.Receiver.waits.Goals as goal

pub returns-then-self-gt0 : goal.returns-then-self-gt0
returns-then-self-gt0 c =
    rw (← c.self.view_is) (waits_is c.self.inside c.self.invariant c.as_slice.result.now c.is_empty.result c.as_slice.ensures c.is_empty.ensures c.in-None.is c.if-self-gt0.true)
