-- The trace of a run, as bytes.
use Rattle.std.specs.Prelude.{◌≡◌, ◌≤◌, ℕ, List, ◌++◌, ◌⊎◌, Some, None}
use Rattle.std.specs.List.{flat_map, enumerate_from}
use Rattle.sim_time.specs.declared.limits.TheConstants.{MOST_EVENTS}
use Rattle.table_run.specs.State.{State, run, step}
use Rattle.node_core.specs.TraceLine.{TraceLine}
use Rattle.trace_text.specs.Line.{line_bytes}
use Rattle.trace_text.specs.End.{end_bytes}
use Rattle.window_core.specs.Full.{HasTooMany}

-- the lines' texts, numbered from 1
abbrev pub lines_bytes : List TraceLine → List ℕ
lines_bytes lines = flat_map (λ (x : ℕ × TraceLine). line_bytes x.0 x.1) (enumerate_from 1 lines)

-- the lines of the first n events of the run from a state
pub record IsTraceStart (s : State) (bytes : List ℕ) : Type 0 where
  pub n : ℕ
  pub lines : List TraceLine
  pub last : State
  pub is_run : run s n ≡ Some (lines, last)
  pub bytes_are : bytes ≡ lines_bytes lines

-- the lines of all n events of the run from a state, at most 10^15 and no further one being due, and the last line
pub record IsTrace (s : State) (bytes : List ℕ) : Type 0 where
  pub n : ℕ
  pub few : n ≤ MOST_EVENTS
  pub lines : List TraceLine
  pub last : State
  pub is_run : run s n ≡ Some (lines, last)
  pub final : step last ≡ None
  pub bytes_are : bytes ≡ lines_bytes lines ++ end_bytes n

-- the run from a state has more than 10^15 events
abbrev pub IsTooLong : State → Type 0
IsTooLong s = HasTooMany (record { state = s; position = 0 })

-- a trace, or its lines for the first events
abbrev pub IsTraceOrStart : State → List ℕ → Type 0
IsTraceOrStart s bytes = IsTrace s bytes ⊎ IsTraceStart s bytes
