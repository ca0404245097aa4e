use Rattle.window_law.proofs.EveryRun.{every_schedule_gives_the_run, every_group_is_the_runs, every_group_is_at_a_step}
use Rattle.window_law.proofs.laws.any_schedule_is_the_run.Goals as goal

pub returns : goal.returns
returns c = record { turns = every_schedule_gives_the_run; inside = every_group_is_the_runs; at_a_step = every_group_is_at_a_step }
