use Rattle.reno_sender.specs.PlanView.{by_start}
use Rattle.reno_sender.specs.Table.{started}
use Rattle.reno_sender.proofs.sender.Sender.start.Goals as goal

pub returns-clause-made : goal.returns-clause-made
unfolding started
returns-clause-made c = by_start c.args.now (rw c.self.view_is at c.fill.ensures)
