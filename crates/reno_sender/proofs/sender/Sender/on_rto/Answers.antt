use Rattle.reno_sender.specs.PlanView.{by_timeout}
use Rattle.reno_sender.proofs.sender.Sender.on_rto.Goals as goal

pub returns-clause-made : goal.returns-clause-made
returns-clause-made c = by_timeout c.args.now (rw c.self.view_is at c.timed_out.ensures)
