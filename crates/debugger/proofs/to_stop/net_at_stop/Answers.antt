use Rattle.debugger.specs.Moves.{IsTooLong}
use Rattle.debugger.proofs.Faults.{full_of_memory, alone_of_memory}
use Rattle.debugger.proofs.to_stop.net_at_stop.Goals as goal

pub returns-in_err-net-clause-full : goal.returns-in_err-net-clause-full
returns-in_err-net-clause-full c = full_of_memory c.from_residual.result (IsTooLong c.args.checkpoints.now) c.from_residual.ensures

pub returns-in_err-net-clause-no_worker : goal.returns-in_err-net-clause-no_worker
returns-in_err-net-clause-no_worker c = alone_of_memory c.from_residual.result c.from_residual.ensures
