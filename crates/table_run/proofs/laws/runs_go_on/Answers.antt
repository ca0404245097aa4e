use Rattle.table_run.proofs.Runs.{run_add}
use Rattle.table_run.proofs.laws.runs_go_on.Goals as goal

pub returns : goal.returns
returns c = run_add
