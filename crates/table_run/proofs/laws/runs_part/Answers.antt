use Rattle.table_run.proofs.Runs.{run_parts}
use Rattle.table_run.proofs.laws.runs_part.Goals as goal

pub returns : goal.returns
returns c = run_parts
