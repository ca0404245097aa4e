-- Which faults of a move say that the count is full, and that a worker was missing.
use Rattle.std.proofs.Common.{◌≡◌, ◌≢◌, ◌<◌, ℕ, refl, sym, ◌∙◌, Result, Ok, Err, IfOk, IfErr}
use Rattle.std.specs.Result.{IsErr, IsErrAnd}
use Rattle.net_machine.specs.declared.net.StepFault.{StepFault}
use Rattle.net_machine.specs.declared.net.StepFault.TheVariants as steps
use Rattle.debugger.specs.declared.fault.MoveFault.{MoveFault}
use Rattle.debugger.specs.declared.fault.MoveFault.TheVariants.{NoMemory, CountFull, NoWorker}
use Rattle.window_engine.specs.declared.fault.EngineFault.{EngineFault}
use Rattle.window_engine.specs.declared.fault.EngineFault.TheVariants as windows
use Rattle.window_engine.specs.Outcomes.{IsOfWorkers}
use Rattle.debugger.specs.Faults.{of_step, of_windows}

step_full : (fault : StepFault) → of_step fault ≡ CountFull → fault ≡ steps.CountFull
step_full steps.NoMemory e = cc
step_full steps.CountFull e = refl

step_alone : (fault : StepFault) → of_step fault ≢ NoWorker
step_alone steps.NoMemory e = cc
step_alone steps.CountFull e = cc

none_of_memory : NoMemory ≡ CountFull → ⊥
none_of_memory e = cc

pub memory_alone : NoMemory ≢ NoWorker
memory_alone e = cc

count_alone : CountFull ≢ NoWorker
count_alone e = cc

-- a window's fault says so only where several workers ran it
several_of : (workers : ℕ) (fault : EngineFault) → IsOfWorkers workers fault → of_windows fault ≡ NoWorker → 1 < workers
several_of workers windows.NoMemory is none = absurd (memory_alone none)
several_of workers windows.CountFull is none = absurd (count_alone none)
several_of workers windows.NoWorker is none = absurd is
several_of workers (windows.Sink written) is none = absurd is
several_of workers windows.Failed is none = is

pub several_of_windows : {T : Type 0} (workers : ℕ) (r : Result T MoveFault) (fault : EngineFault) → IsErr r × IsErrAnd r (λ e. e ≡ of_windows fault) → IsOfWorkers workers fault → IfErr r (λ e. e ≡ NoWorker → 1 < workers)
several_of_windows workers (Ok x) fault is said = tt
several_of_windows workers (Err e) fault is said = λ none. several_of workers fault said (sym is.1 ∙ none)

pub several_of_move : {T : Type 0} (workers : ℕ) (r : Result T MoveFault) (fault : MoveFault) → IsErr r × IsErrAnd r (λ e. e ≡ fault) → (fault ≡ NoWorker → 1 < workers) → IfErr r (λ e. e ≡ NoWorker → 1 < workers)
several_of_move workers (Ok x) fault is said = tt
several_of_move workers (Err e) fault is said = λ none. said (sym is.1 ∙ none)

-- no fault says that a worker was missing
pub none_missing : {T : Type 0} (workers : ℕ) (r : Result T MoveFault) → IfErr r (λ e. e ≢ NoWorker) → IfErr r (λ e. e ≡ NoWorker → 1 < workers)
none_missing workers (Ok x) none = tt
none_missing workers (Err e) none = λ is. absurd (none is)

-- where a step's fault is answered: its count is the move's
pub full_of_step : {T P : Type 0} (r : Result T MoveFault) (fault : StepFault) → IsErr r × IsErrAnd r (λ e. e ≡ of_step fault) → (fault ≡ steps.CountFull → P) → IfErr r (λ e. e ≡ CountFull → P)
full_of_step (Ok x) fault is said = tt
full_of_step (Err e) fault is said = λ full. said (step_full fault (sym is.1 ∙ full))

pub full_from_step : {P : Type 0} (e : MoveFault) (fault : StepFault) → e ≡ of_step fault → (fault ≡ steps.CountFull → P) → e ≡ CountFull → P
full_from_step e fault is said full = said (step_full fault (sym is ∙ full))

pub alone_from_step : (e : MoveFault) (fault : StepFault) → e ≡ of_step fault → e ≢ NoWorker
alone_from_step e fault is none = step_alone fault (sym is ∙ none)

-- and no worker was asked for
pub alone_of_step : {T : Type 0} (r : Result T MoveFault) (fault : StepFault) → IsErr r × IsErrAnd r (λ e. e ≡ of_step fault) → IfErr r (λ e. e ≢ NoWorker)
alone_of_step (Ok x) fault is = tt
alone_of_step (Err e) fault is = λ none. step_alone fault (sym is.1 ∙ none)

-- an error that is handed on
pub not_ok : {T E : Type 0} (r : Result T E) (P : E → Type 0) (Q : T → Type 0) → IsErr r × IsErrAnd r P → IfOk r Q
not_ok (Ok x) P Q is = absurd cc
not_ok (Err e) P Q is = tt

pub full_of_move : {T P : Type 0} (r : Result T MoveFault) (fault : MoveFault) → IsErr r × IsErrAnd r (λ e. e ≡ fault) → (fault ≡ CountFull → P) → IfErr r (λ e. e ≡ CountFull → P)
full_of_move (Ok x) fault is said = tt
full_of_move (Err e) fault is said = λ full. said (sym is.1 ∙ full)

pub full_of_memory : {T : Type 0} (r : Result T MoveFault) (P : Type 0) → IsErr r × IsErrAnd r (λ e. e ≡ NoMemory) → IfErr r (λ e. e ≡ CountFull → P)
full_of_memory (Ok x) P is = tt
full_of_memory (Err e) P is = λ full. absurd (none_of_memory (sym is.1 ∙ full))

pub full_from_memory : {P : Type 0} → NoMemory ≡ CountFull → P
full_from_memory full = absurd (none_of_memory full)

pub alone_of_memory : {T : Type 0} (r : Result T MoveFault) → IsErr r × IsErrAnd r (λ e. e ≡ NoMemory) → IfErr r (λ e. e ≢ NoWorker)
alone_of_memory (Ok x) is = tt
alone_of_memory (Err e) is = λ none. memory_alone (sym is.1 ∙ none)

-- no fault says that the count is full
pub none_full : {T : Type 0} (r : Result T MoveFault) (P : Type 0) → IfErr r (λ e. e ≢ CountFull) → IfErr r (λ e. e ≡ CountFull → P)
none_full (Ok x) P none = tt
none_full (Err e) P none = λ full. absurd (none full)
