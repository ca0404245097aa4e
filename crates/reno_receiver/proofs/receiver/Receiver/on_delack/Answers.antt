use Rattle.std.proofs.Common.{ap}
use Rattle.reno_receiver.specs.declared.reply.Reply.TheVariants.{AckNow}
use Rattle.reno_receiver.proofs.Kept.{next_of_kept}
use Rattle.reno_receiver.proofs.receiver.Receiver.on_delack.Goals as goal

pub returns-clause-answer : goal.returns-clause-answer
returns-clause-answer c = rw (← c.self.view_is) (ap AckNow (next_of_kept c.self.inside c.self.invariant))
