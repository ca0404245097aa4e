-- What an engine that began at a run's beginning has put out, in one call or several.
use Rattle.std.specs.Prelude.{◌≡◌, ℕ, List, length, Option, Some, Result, Ok, Err, OnOk, IfOk, IfErr, is_err}
use Rattle.std.specs.Io.KnownBytes.{Appends}
use Rattle.node_core.specs.TraceLine.{TraceLine}
use Rattle.table_run.specs.State.{State, run}
use Rattle.net_machine.specs.Run.{Reached}
use Rattle.window_engine.specs.declared.fault.EngineFault.{EngineFault}
use Rattle.trace_text.specs.End.{end_bytes}
use Rattle.window_core.specs.Full.{HasTooMany}
use Rattle.window_engine.specs.declared.fault.EngineFault.TheVariants.{CountFull, Sink}
use Rattle.window_engine.specs.declared.fault.Stop.{Stop}
use Rattle.window_engine.specs.Engines.{EngineValue, IsStop}
use Rattle.window_engine.specs.Puts.{TakesFirst}
use Rattle.sessions.specs.Ended.{SessionEnded}
use Rattle.sessions.specs.Faults.{of_engine}
use Rattle.sessions.specs.Output.{IsAllOrNothing}
use Rattle.sessions.specs.Trace.{lines_bytes}
use Rattle.sessions.specs.Written.{Writes}

-- the net before the first event
abbrev pub at_first : State → Reached
at_first s = record { state = s; position = 0 }

-- what a sink took of a text: all of it, or its first bytes where the sink failed
abbrev pub TakesAll : {T : Type 0} → Result T EngineFault → List ℕ → Option (List ℕ) → Option (List ℕ) → Type 0
TakesAll (Err (Sink written)) text old new = (count : ℕ) × TakesFirst count text old new
TakesAll _ text old new = Appends old new text

-- the run's first lines were committed, and a sink took their text; where there was no fault, the net is the one after them
pub record RunsTo {T : Type 0} (s : State) (r : Result T EngineFault) (new : Reached) (before after : Option (List ℕ)) : Type 0 where
  pub lines : List TraceLine
  pub state : State
  pub is_run : run s (length lines) ≡ Some (lines, state)
  pub position_is : new.position ≡ length lines
  pub state_is : OnOk r (new.state ≡ state)
  pub takes : TakesAll r (lines_bytes lines) before after

-- an engine was run from a state to the moment by which that ends
pub record HasRun (s : State) (end : ℕ) (r : Result Stop EngineFault) (engine : EngineValue) (before after : Option (List ℕ)) : Type 0 where
  pub runs : RunsTo s r engine.net before after
  pub stop : IfOk r (IsStop end engine.net.state)
  pub full : IfErr r (λ fault. fault ≡ CountFull → HasTooMany (at_first s))
  pub failed : engine.failed ≡ is_err r
  pub end_is : s.end ≡ end

-- a run of so many events that came to this was ended: its last line was written, or nothing where it had a fault
abbrev pub EndsRun : Result Stop EngineFault → ℕ → SessionEnded → Option (List ℕ) → Option (List ℕ) → Type 0
EndsRun (Ok stop) events ended old new = Writes (IsAllOrNothing (end_bytes events) ended) old new
EndsRun (Err fault) events ended old new = (ended ≡ Err (of_engine fault)) × (new ≡ old)
