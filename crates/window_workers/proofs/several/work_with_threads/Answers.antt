use denote.Param.Send.{sendable}
use Rattle.window_workers.proofs.PoolSent.{gate_sync, pool_sync}
use Rattle.window_workers.proofs.several.work_with_threads.Goals as goal

pub join_mut-done-requires-send-F : goal.join_mut-done-requires-send-F
join_mut-done-requires-send-F g c κs within = search (sendable, pool_sync, gate_sync) depth 30
