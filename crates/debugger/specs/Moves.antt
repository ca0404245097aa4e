-- Where each move of the debugger goes, over the run from an initial state.
use Rattle.std.specs.Prelude.{◌≡◌, ◌≢◌, ◌<◌, ◌≤◌, ◌+◌, ◌⊎◌, ℕ, List, None, Some}
use Rattle.sim_time.specs.declared.key.Key.{Key}
use Rattle.sim_time.specs.declared.limits.TheConstants.{MOST_EVENTS}
use Rattle.node_core.specs.declared.event.Event.{Event}
use Rattle.node_core.specs.TraceLine.{TraceLine}
use Rattle.table_run.specs.State.{State, due, step, run}
use Rattle.table_run.specs.Sound.{EachEvent}
use Rattle.net_machine.specs.Run.{Reached}
use Rattle.breakpoints.specs.declared.breaks.Break.{Break}
use Rattle.breakpoints.specs.Breaks.{IsHit}

-- the run comes to this state after so many steps
pub record Passes (start : State) (at : Reached) : Type 0 where
  pub lines : List TraceLine
  pub comes : run start at.position ≡ Some (lines, at.state)

-- the run has so many steps at least
abbrev pub HasPosition : State → ℕ → Type 0
HasPosition start p = (s : State) × Passes start (record { state = s; position = p })

-- the run's end: after so many steps no event below the end is left
pub record EndsAt (start : State) (p : ℕ) : Type 0 where
  pub last : State
  pub passes : Passes start (record { state = last; position = p })
  pub none_due : due last ≡ None

-- the step to a position gives this line
pub record GivesAt (start : State) (line : TraceLine) (p : ℕ) : Type 0 where
  pub before : Reached
  pub after : State
  pub passes : Passes start before
  pub gives : step before.state ≡ Some (line, after)
  pub is_next : p ≡ before.position + 1

-- P holds of the last line of the run to a position, with the states before and after it
pub record StopsBy (P : State → TraceLine → State → Type 0) (start : State) (p : ℕ) : Type 0 where
  pub line : TraceLine
  pub given : GivesAt start line p
  pub hit : P given.before.state line given.after

-- a breakpoint matches the last line of the run to a position
abbrev pub StopsAt : State → List Break → ℕ → Type 0
StopsAt start breaks = StopsBy (IsHit breaks) start

-- at a position no event is pending below a time and below the end
pub record NonePendingBefore (start : State) (time : ℕ) (p : ℕ) : Type 0 where
  pub state : State
  pub passes : Passes start (record { state = state; position = p })
  pub none : EachEvent (λ (k : Key) (v : Event). k.time < time → state.end ≤ k.time) state.pending

-- an event is due, and it is before a time
pub record IsDueBefore (time : ℕ) (s : State) : Type 0 where
  pub key : Key
  pub event : Event
  pub due_is : due s ≡ Some (key, event)
  pub early : key.time < time

-- at each position before one some event before a time is pending below the end
abbrev pub SomeUpto : State → ℕ → ℕ → Type 0
SomeUpto start time p = (q : ℕ) → q < p → NonePendingBefore start time q → ⊥

-- the least number with a property
pub record IsLeast (P : ℕ → Type 0) (p : ℕ) : Type 0 where
  pub holds : P p
  pub least : (q : ℕ) → P q → p ≤ q

-- `step` by k from m: to m + k, or to the run's end where that comes first
abbrev pub StepGoesTo : State → ℕ → ℕ → ℕ → Type 0
StepGoesTo start m k = IsLeast (λ p. (p ≡ m + k) ⊎ EndsAt start p)

-- from m to the least position past m of whose line P holds, or to the run's end where there is none
abbrev pub RunsTo : (State → TraceLine → State → Type 0) → State → ℕ → ℕ → Type 0
RunsTo P start m = IsLeast (λ p. ((m < p) × StopsBy P start p) ⊎ EndsAt start p)

-- `run` from m: to the least position past m whose line matches, or to the run's end where there is none
abbrev pub RunGoesTo : State → List Break → ℕ → ℕ → Type 0
RunGoesTo start breaks = RunsTo (IsHit breaks) start

-- `until` a time from m: to the least position from m on at which no event before it is pending below the end
abbrev pub UntilGoesTo : State → ℕ → ℕ → ℕ → Type 0
UntilGoesTo start time m = IsLeast (λ p. (m ≤ p) × NonePendingBefore start time p)

-- the greatest number with a property
pub record IsGreatest (P : ℕ → Type 0) (p : ℕ) : Type 0 where
  pub holds : P p
  pub greatest : (q : ℕ) → P q → q ≤ p

-- `reverse` from m: to the greatest position before m whose line matches, or to 0 where there is none
abbrev pub ReverseGoesTo : State → List Break → ℕ → ℕ → Type 0
ReverseGoesTo start breaks m = IsGreatest (λ p. (p ≡ 0) ⊎ ((p < m) × StopsAt start breaks p))

-- the run has more than 10^15 events
pub record IsTooLong (start : State) : Type 0 where
  pub last : State
  pub passes : Passes start (record { state = last; position = MOST_EVENTS })
  pub one_due : due last ≢ None
