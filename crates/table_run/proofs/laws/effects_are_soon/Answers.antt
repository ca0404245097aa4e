use Rattle.table_run.proofs.RunLaws.{effects_are_soon}
use Rattle.table_run.proofs.laws.effects_are_soon.Goals as goal

pub returns : goal.returns
returns c = effects_are_soon
