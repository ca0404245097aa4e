-- Runs of more events than there may be.
use Rattle.std.specs.Prelude.{◌≡◌, ◌≢◌, ◌<◌, ◌+◌, ◌-◌, ℕ, List, length, Some, None}
use Rattle.sim_time.specs.declared.limits.TheConstants.{MOST_EVENTS}
use Rattle.node_core.specs.TraceLine.{TraceLine}
use Rattle.table_run.specs.State.{State, due, run}
use Rattle.net_machine.specs.Run.{Reached}
use Rattle.window_law.specs.Groups.{up_to}
use Rattle.node_group.specs.Group.{state_of}
use Rattle.window_core.specs.Window.{WindowValue, IsFrom, value_at}

-- the run has more than 10^15 events: after so many in all one more is due
pub record HasTooMany (at : Reached) : Type 0 where
  pub lines : List TraceLine
  pub last : State
  pub is_run : run at.state (MOST_EVENTS - at.position) ≡ Some (lines, last)
  pub one_due : due last ≢ None

-- the state at which a window opened
abbrev pub initial_at : State → WindowValue → Reached
initial_at edge v = record { state = edge; position = v.position }

-- so for a window, at whichever state it opened
abbrev pub RunsTooLong : WindowValue → Type 0
RunsTooLong v = (edge : State) → IsFrom edge v → HasTooMany (initial_at edge v)

-- a group of a window has an event before the window's end
pub record IsDueAt (v : WindowValue) (number : ℕ) : Type 0 where
  pub within : number < length v.groups
  pub one_due : due (up_to v.until (state_of (value_at v.groups number))) ≢ None

-- how many events there are with a group's lines
abbrev pub events_with : WindowValue → ℕ → ℕ
events_with v number = v.position + length (value_at v.groups number).lines
