use Rattle.debugger.proofs.Faults.{full_from_step, alone_from_step}
use Rattle.debugger.proofs.course.WindowedNet.into_net_at.Goals as goal

pub returns-in-Err-clause-full : goal.returns-in-Err-clause-full
returns-in-Err-clause-full c = full_from_step c.into.result c.in-Err.fault c.into.ensures c.in-Err.ensures.full

pub returns-in-Err-clause-no_worker : goal.returns-in-Err-clause-no_worker
returns-in-Err-clause-no_worker c = alone_from_step c.into.result c.in-Err.fault c.into.ensures
