use Rattle.std.proofs.Common.{true, false, refl, subst}
use Rattle.table_run.specs.State.{State}
use Rattle.net_watch.proofs.Alone.{second_alone}
use Rattle.debugger.specs.Moves.{Passes, IsTooLong}
use Rattle.debugger.proofs.Faults.{full_from_step, full_from_memory, full_of_memory, alone_from_step, alone_of_memory, memory_alone}
use Rattle.debugger.proofs.Watched.{stop_found, too_long_there}
use Rattle.debugger.proofs.to_stop.run_to_stop.Goals as goal

pub returns-in_err-seen-clause-full : goal.returns-in_err-seen-clause-full
returns-in_err-seen-clause-full c = full_of_memory c.from_residual.result (IsTooLong c.args.checkpoints.now) c.from_residual.ensures

pub returns-in-Ok-clause-full : goal.returns-in-Ok-clause-full
returns-in-Ok-clause-full c = full_from_memory

pub returns-in-Ok-2-clause-goes : goal.returns-in-Ok-2-clause-goes
returns-in-Ok-2-clause-goes c =
    let new = c.run_by_two.new in
    let both = c.in-Ok-2.ensures.watched in
    let here = subst (λ (s : State). Passes s new.net) both.first_has.holds.1 c.in-Ok-2.ensures.first in
    let stops = second_alone _ _ _ both (λ b checkpoints. checkpoints.holds.0) in
    stop_found c.args.checkpoints.now c.args.breaks.now c.args.net.now new.net true new.second.found false new.second.refused c.in-Ok-2.field-0 here c.in-Ok-2.ensures.end (stops.holds.2 c.args.checkpoints.now c.requires refl) refl c.if-stops.false

pub returns-clause-full : goal.returns-clause-full
returns-clause-full c =
    let both = c.in-Err.ensures.watched in
    let here = subst (λ (s : State). Passes s c.run_by_two.new.net) both.first_has.holds.1 c.in-Err.ensures.first in
    full_from_step c.into.result c.in-Err.fault c.into.ensures (too_long_there c.args.checkpoints.now c.run_by_two.new.net c.in-Err.fault here c.in-Err.ensures.end)

pub returns-in_err-seen-clause-no_worker : goal.returns-in_err-seen-clause-no_worker
returns-in_err-seen-clause-no_worker c = alone_of_memory c.from_residual.result c.from_residual.ensures

pub returns-in-Ok-clause-no_worker : goal.returns-in-Ok-clause-no_worker
returns-in-Ok-clause-no_worker c = memory_alone

pub returns-clause-no_worker : goal.returns-clause-no_worker
returns-clause-no_worker c = alone_from_step c.into.result c.in-Err.fault c.into.ensures
