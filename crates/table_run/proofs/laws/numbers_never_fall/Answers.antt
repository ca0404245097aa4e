use Rattle.table_run.proofs.RunLaws.{numbers_never_fall}
use Rattle.table_run.proofs.laws.numbers_never_fall.Goals as goal

pub returns : goal.returns
returns c = numbers_never_fall
