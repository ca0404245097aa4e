use Rattle.reno_sender.specs.PlanView.{by_acknowledgement}
use Rattle.reno_sender.proofs.sender.Sender.on_ack.Goals as goal

pub returns-clause-made : goal.returns-clause-made
returns-clause-made c = by_acknowledgement c.args.ack c.args.now (rw c.self.view_is at c.acknowledged.ensures)
