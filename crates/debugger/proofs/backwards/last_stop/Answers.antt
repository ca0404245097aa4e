use Rattle.std.proofs.Common.{false, Ok, refl}
use Rattle.net_watch.specs.Watched.{goes_on}
use Rattle.debugger.proofs.Faults.{full_from_step, full_from_memory, full_of_memory, alone_from_step, alone_of_memory, memory_alone}
use Rattle.debugger.specs.Moves.{IsTooLong}
use Rattle.debugger.proofs.Watched.{last_found}
use Rattle.debugger.proofs.backwards.last_stop.Goals as goal

pub returns-in_err-seen-clause-full : goal.returns-in_err-seen-clause-full
returns-in_err-seen-clause-full c = full_of_memory c.from_residual.result (IsTooLong c.args.checkpoints.now) c.from_residual.ensures

pub returns-in_err-seen-clause-no_worker : goal.returns-in_err-seen-clause-no_worker
returns-in_err-seen-clause-no_worker c = alone_of_memory c.from_residual.result c.from_residual.ensures

pub returns-in-Ok-clause-full : goal.returns-in-Ok-clause-full
returns-in-Ok-clause-full c = full_from_memory

pub returns-in-Ok-clause-no_worker : goal.returns-in-Ok-clause-no_worker
returns-in-Ok-clause-no_worker c = memory_alone

pub returns-in-Ok-2-clause-ok : goal.returns-in-Ok-2-clause-ok
returns-in-Ok-2-clause-ok c =
    let start = c.args.checkpoints.now in
    let new = c.reach_watched.new in
    let sought = c.in-Ok-2.ensures.watched.holds.2 start c.requires.on_run refl in
    last_found start c.args.breaks.now c.args.net.now.position new.net.position c.args.upto false new.watch.found false new.watch.refused (goes_on (Ok c.in-Ok-2.field-0)) sought refl c.if-stops.false c.in-Ok-2.ensures.reached

pub returns-clause-full : goal.returns-clause-full
returns-clause-full c = full_from_step c.into.result c.in-Err.fault c.into.ensures c.in-Err.ensures.full

pub returns-clause-no_worker : goal.returns-clause-no_worker
returns-clause-no_worker c = alone_from_step c.into.result c.in-Err.fault c.into.ensures
