-- Where the fault is that the count is full, the run has more events than there may be.
use Rattle.std.proofs.Common.{◌≡◌, ◌≤◌, ◌+◌, ◌-◌, ◌++◌, ℕ, List, length, Option, ap, ◌∙◌, arith, refl, Some}
use Rattle.sim_time.specs.declared.limits.TheConstants.{MOST_EVENTS}
use Rattle.table_run.specs.State.{State, run}
use Rattle.table_run.proofs.Runs.{run_add}
use Rattle.node_core.specs.TraceLine.{TraceLine}
use Rattle.net_machine.specs.Run.{Reached}
use Rattle.window_core.specs.Full.{HasTooMany, RunsTooLong}
use Rattle.window_core.specs.Window.{WindowValue, IsWindow}
use Rattle.window_workers.specs.declared.fault.WorkersFault.{WorkersFault}
use Rattle.window_workers.specs.declared.fault.WorkersFault.TheVariants as below
use Rattle.window_workers.specs.Edges.{IsAtEdge, reached_in}
use Rattle.window_workers.specs.Laid.{IsDoneBy}
use Rattle.window_workers.specs.WindowOutcomes.{IsWorkersFault}
use Rattle.window_workers.proofs.TooMany.{at_edge}
use Rattle.window_engine.specs.declared.fault.EngineFault.{EngineFault}
use Rattle.window_engine.specs.declared.fault.EngineFault.TheVariants.{CountFull}
use Rattle.window_engine.specs.declared.run_state.WriteFault.{WriteFault}
use Rattle.window_engine.specs.declared.run_state.WriteFault.TheVariants.{Workers, Sink as Failing}
use Rattle.window_engine.specs.Outcomes.{IsOfWorkers, as_engine_fault}
use Rattle.window_engine.specs.RunStates.{Wrote, reported_as}

-- a turn has too many lines
pub turn_full : (v w : WindowValue) (until : ℕ) → IsAtEdge v → IsWindow v → IsDoneBy until v w → RunsTooLong w → HasTooMany (reached_in v)
turn_full v w until at is by long = at_edge v w is at by.position (long is.edge (by.from is.edge is.from))

-- what is so after some lines of the run is so before them
pub earlier_full : (from to : Reached) (lines : List TraceLine) → run from.state (length lines) ≡ Some (lines, to.state) → to.position ≡ from.position + length lines → to.position ≤ MOST_EVENTS → HasTooMany to → HasTooMany from
earlier_full from to lines runs at few many =
    let count : MOST_EVENTS - from.position ≡ length lines + (MOST_EVENTS - to.position) = omega (arith, at, few) in
    record {
      lines = lines ++ many.lines;
      last = many.last;
      is_run = ap (run from.state) count ∙ run_add from.state to.state many.last (length lines) (MOST_EVENTS - to.position) lines many.lines runs many.is_run;
      one_due = many.one_due;
    }

reported_by : WriteFault → WorkersFault
reported_by (Workers fault) = fault
reported_by (Failing count) = below.Failed

-- the workers' fault is that the count is full
pub workers_full : (at : Reached) (fault : WorkersFault) → (fault ≡ below.CountFull → HasTooMany at) → Workers fault ≡ Workers below.CountFull → HasTooMany at
unfolding reported_by
workers_full at fault full is = full (ap reported_by is)

-- what the workers' fault means of the engine's
pub of_workers : (workers : ℕ) (Full : Type 0) (fault : WorkersFault) → IsWorkersFault workers Full fault → IsOfWorkers workers (as_engine_fault fault)
of_workers workers Full below.NoMemory is = tt
of_workers workers Full below.CountFull is = tt
of_workers workers Full below.Failed is = is

pub full_of : (workers : ℕ) (Full : Type 0) (fault : WorkersFault) → IsWorkersFault workers Full fault → fault ≡ below.CountFull → Full
full_of workers Full below.NoMemory is e = let x : ⊥ = cc in absurd x
full_of workers Full below.CountFull is e = is
full_of workers Full below.Failed is e = let x : ⊥ = cc in absurd x

pub count_of : (fault : WorkersFault) → as_engine_fault fault ≡ CountFull → fault ≡ below.CountFull
count_of below.NoMemory e = let x : ⊥ = cc in absurd x
count_of below.CountFull e = refl
count_of below.Failed e = let x : ⊥ = cc in absurd x

pub reported_full : (until : ℕ) (from to : Reached) (n written : ℕ) (a b : Option (List ℕ)) (fault : WriteFault) → Wrote until from to n a b → to.position ≤ MOST_EVENTS → (fault ≡ Workers below.CountFull → HasTooMany to) → reported_as written fault ≡ CountFull → HasTooMany from
reported_full until from to n written a b (Workers fault) w few full is = earlier_full from to w.lines w.is_run w.position_is few (full (ap (λ (f : WorkersFault). Workers f) (count_of fault is)))
reported_full until from to n written a b (Failing count) w few full is = let x : ⊥ = cc in absurd x
