use Rattle.debugger.specs.Moves.{IsTooLong}
use Rattle.debugger.proofs.Faults.{not_ok, full_of_step, alone_of_step, full_of_memory, alone_of_memory}
use Rattle.debugger.proofs.reached.net_at.Goals as goal

pub returns-in_err-net-clause-on_run : goal.returns-in_err-net-clause-on_run
returns-in_err-net-clause-on_run c = not_ok c.from_residual.result _ _ c.from_residual.ensures

pub returns-in_err-net-clause-goes : goal.returns-in_err-net-clause-goes
returns-in_err-net-clause-goes c = not_ok c.from_residual.result _ _ c.from_residual.ensures

pub returns-in_err-net-clause-full : goal.returns-in_err-net-clause-full
returns-in_err-net-clause-full c = full_of_memory c.from_residual.result (IsTooLong c.args.checkpoints.now) c.from_residual.ensures

pub returns-in_err-net-clause-no_worker : goal.returns-in_err-net-clause-no_worker
returns-in_err-net-clause-no_worker c = alone_of_memory c.from_residual.result c.from_residual.ensures

pub returns-in_err-reach-clause-on_run : goal.returns-in_err-reach-clause-on_run
returns-in_err-reach-clause-on_run c = not_ok c.from_residual-in_err-reach.result _ _ c.from_residual-in_err-reach.ensures

pub returns-in_err-reach-clause-goes : goal.returns-in_err-reach-clause-goes
returns-in_err-reach-clause-goes c = not_ok c.from_residual-in_err-reach.result _ _ c.from_residual-in_err-reach.ensures

pub returns-in_err-reach-clause-full : goal.returns-in_err-reach-clause-full
returns-in_err-reach-clause-full c = full_of_step c.from_residual-in_err-reach.result c.in_err-reach.field-0.0 c.from_residual-in_err-reach.ensures c.in_err-reach.ensures.full

pub returns-in_err-reach-clause-no_worker : goal.returns-in_err-reach-clause-no_worker
returns-in_err-reach-clause-no_worker c = alone_of_step c.from_residual-in_err-reach.result c.in_err-reach.field-0.0 c.from_residual-in_err-reach.ensures
