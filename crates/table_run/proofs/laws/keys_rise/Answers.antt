use Rattle.table_run.proofs.RunLaws.{keys_rise}
use Rattle.table_run.proofs.laws.keys_rise.Goals as goal

pub returns : goal.returns
returns c = keys_rise
