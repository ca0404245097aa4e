use Rattle.table_run.proofs.RunLaws.{effects_are_local}
use Rattle.table_run.proofs.laws.effects_are_local.Goals as goal

pub returns : goal.returns
returns c = effects_are_local
