use Rattle.table_run.proofs.RunLaws.{sound_run}
use Rattle.table_run.proofs.laws.every_run_is_sound.Goals as goal

pub returns : goal.returns
returns c = sound_run
