use Rattle.run_laws.proofs.Forwarding.{delayed_answers_are_due}
use Rattle.run_laws.proofs.laws.delayed_answers_are_due.Goals as goal

pub returns : goal.returns
returns c = delayed_answers_are_due
