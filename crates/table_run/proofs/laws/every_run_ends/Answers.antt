use Rattle.table_run.proofs.Ends.{runs_end}
use Rattle.table_run.proofs.laws.every_run_ends.Goals as goal

pub returns : goal.returns
returns c = runs_end
