-- The ways in which a session ends, and what they tell of its run and its streams.
use Rattle.std.specs.Prelude.{ℕ, ◌≡◌, ◌<◌, List, length, string_bytes, Result, Ok, Err}
use Rattle.table_run.specs.State.{State}
use Rattle.sessions.specs.declared.fault.SessionFault.{SessionFault}
use Rattle.sessions.specs.declared.fault.SessionFault.TheVariants.{TooLong, ReadFailed, CannotRead, WriteFailed, NoMemory, CountFull, NoWorker}
use Rattle.sessions.specs.FileName.{shown_name}
use Rattle.sessions.specs.Trace.{IsTrace, IsTraceStart, IsTooLong, IsTraceOrStart}
use Rattle.sessions.specs.Written.{IsBeginningOf}
use Rattle.window_engine.specs.Failures.{counted}

abbrev pub SessionEnded : Type 0
SessionEnded = Result (Unit {0}) SessionFault

-- the reader failed, the writer failed, memory was refused, or a worker could not be had
abbrev pub IsHindered : SessionEnded → Type 0
IsHindered (Err ReadFailed) = Unit {0}
IsHindered (Err WriteFailed) = Unit {0}
IsHindered (Err NoMemory) = Unit {0}
IsHindered (Err NoWorker) = Unit {0}
IsHindered _ = ⊥

-- what a run from a state that ended so has written: its trace; the lines of its first events, it having more than 10^15; the lines of its first events; a beginning of any of these
abbrev pub IsRunOutput : State → SessionEnded → List ℕ → Type 0
IsRunOutput s (Ok done) out = IsTrace s out
IsRunOutput s (Err CountFull) out = IsTooLong s × IsTraceStart s out
IsRunOutput s (Err NoMemory) out = IsTraceStart s out
IsRunOutput s (Err NoWorker) out = IsTraceStart s out
IsRunOutput s (Err WriteFailed) out = IsBeginningOf (IsTraceOrStart s) out
IsRunOutput s _ out = ⊥

-- reading an input ended so: it has more bytes than an input may have, or reading was hindered
abbrev pub IsReadFault : List ℕ → SessionFault → Type 0
IsReadFault input TooLong = 16777216 < length input
IsReadFault input ReadFailed = Unit {0}
IsReadFault input NoMemory = Unit {0}
IsReadFault input _ = ⊥

-- the reader's count of failures after what ended so
abbrev pub reads_after : {T : Type 0} → Result T SessionFault → ℕ → ℕ
reads_after (Err ReadFailed) n = counted n
reads_after _ n = n

-- how the end of a session over a file is told: where reading failed, it was this file that could not be read, its name as it is shown; any other end as it is
abbrev pub IsReportedOf : List ℕ → SessionEnded → SessionEnded → Type 0
IsReportedOf file (Err ReadFailed) (Err (CannotRead name)) = string_bytes name ≡ shown_name file
IsReportedOf file (Err ReadFailed) _ = ⊥
IsReportedOf file ended reported = reported ≡ ended

-- the writer's count of failures after what ended so
abbrev pub writes_after : {T : Type 0} → Result T SessionFault → ℕ → ℕ
writes_after (Err WriteFailed) n = counted n
writes_after _ n = n
