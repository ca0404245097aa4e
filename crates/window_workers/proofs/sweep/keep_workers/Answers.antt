use denote.Param.Send.{sendable}
use Rattle.window_workers.proofs.PoolSent.{job_send}
use Rattle.window_workers.proofs.sweep.keep_workers.Goals as goal

pub run_workers-requires-send-T : goal.run_workers-requires-send-T
run_workers-requires-send-T g c κs within = search (sendable, job_send) depth 30
