use Rattle.std.proofs.Common.{refl, sym, subst, arith}
use Rattle.debugger.specs.Backwards.{FindsLast}
use Rattle.debugger.proofs.Faults.{full_from_memory, memory_alone}
use Rattle.debugger.proofs.backwards.search_before.Goals as goal

pub overflow_sub-upto : goal.overflow_sub-upto
overflow_sub-upto c = omega (arith, c.requires.some)

pub nearest-requires : goal.nearest-requires
nearest-requires c = c.requires.on_run

pub last_stop-requires-clause-on_run : goal.last_stop-requires-clause-on_run
last_stop-requires-clause-on_run c = c.in-Ok.ensures.on_run

pub last_stop-requires-clause-below : goal.last_stop-requires-clause-below
last_stop-requires-clause-below c = omega (arith, c.in-Ok.ensures.below)

pub last_stop-requires-clause-position : goal.last_stop-requires-clause-position
last_stop-requires-clause-position c = c.requires.position

pub returns-in-Ok-last_stop-clause-ok : goal.returns-in-Ok-last_stop-clause-ok
returns-in-Ok-last_stop-clause-ok c = record {
  before = omega (arith, c.position-from.ensures.count, c.in-Ok.ensures.below, c.requires.some);
  last = subst (λ p. FindsLast c.args.checkpoints.now c.args.breaks.now p c.args.upto c.in-Ok-last_stop.found) (sym c.position-from.ensures.count) c.in-Ok-last_stop.ensures.ok;
}

pub returns-in-Ok-last_stop-clause-same : goal.returns-in-Ok-last_stop-clause-same
returns-in-Ok-last_stop-clause-same c = c.last_stop.ensures.same

pub returns-in-Ok-clause-full : goal.returns-in-Ok-clause-full
returns-in-Ok-clause-full c = c.in-Err-last_stop.ensures.full

pub returns-in-Ok-clause-no_worker : goal.returns-in-Ok-clause-no_worker
returns-in-Ok-clause-no_worker c = c.in-Err-last_stop.ensures.no_worker

pub returns-in-Ok-clause-same : goal.returns-in-Ok-clause-same
returns-in-Ok-clause-same c = c.last_stop.ensures.same

pub returns-clause-full : goal.returns-clause-full
returns-clause-full c = full_from_memory

pub returns-clause-no_worker : goal.returns-clause-no_worker
returns-clause-no_worker c = memory_alone

pub returns-clause-same : goal.returns-clause-same
returns-clause-same c = refl
