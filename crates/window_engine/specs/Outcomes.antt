-- What a fault of the engine means: whose it is.
use Rattle.std.specs.Prelude.{◌≡◌, ◌<◌, ℕ}
use Rattle.window_workers.specs.declared.fault.WorkersFault.{WorkersFault}
use Rattle.window_workers.specs.declared.fault.WorkersFault.TheVariants as below
use Rattle.window_engine.specs.declared.fault.EngineFault.{EngineFault}
use Rattle.window_engine.specs.declared.fault.EngineFault.TheVariants.{NoMemory, CountFull, NoWorker, Sink, Failed}

-- the workers' fault as the engine tells it
abbrev pub as_engine_fault : WorkersFault → EngineFault
as_engine_fault below.NoMemory = NoMemory
as_engine_fault below.CountFull = CountFull
as_engine_fault below.Failed = Failed

-- so many workers have it, and not the sink: a thread that does not start is no fault, and where one worker runs no piece can stay out
abbrev pub IsOfWorkers : ℕ → EngineFault → Type 0
IsOfWorkers workers NoMemory = Unit {0}
IsOfWorkers workers CountFull = Unit {0}
IsOfWorkers workers NoWorker = ⊥
IsOfWorkers workers Failed = 1 < workers
IsOfWorkers workers (Sink written) = ⊥

-- the workers have it, or the sink that takes their lines
abbrev pub IsOfRun : ℕ → EngineFault → Type 0
IsOfRun workers (Sink written) = Unit {0}
IsOfRun workers fault = IsOfWorkers workers fault

-- what a fault of a run means: that the count is full is told only where this is so
abbrev pub IsRunFault : ℕ → Type 0 → EngineFault → Type 0
IsRunFault workers Full fault = IsOfRun workers fault × (fault ≡ CountFull → Full)
