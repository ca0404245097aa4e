use Rattle.reno_sender.proofs.Laws.{initial_sound, started_keeps, acknowledged_keeps, timed_out_keeps}
use Rattle.reno_sender.proofs.guarantees.rows_keep.Goals as goal

pub returns : goal.returns
returns c = record { initial = initial_sound; start = started_keeps; acknowledgement = acknowledged_keeps; timeout = timed_out_keeps }
