-- What the fault of a turn that was not taken means.
use Rattle.std.specs.Prelude.{◌≡◌, ◌<◌, ◌≤◌, ◌+◌, ℕ, true, false, length, Result, Ok, Err}
use Rattle.sim_time.specs.declared.limits.TheConstants.{MOST_EVENTS}
use Rattle.window_law.specs.Windows.{all_done, all_lines}
use Rattle.window_core.specs.declared.window.turning.TurnFault.{TurnFault}
use Rattle.window_core.specs.declared.window.turning.TurnFault.TheVariants.{NotDone, CountFull, NoMemory}
use Rattle.window_core.specs.Full.{RunsTooLong}
use Rattle.window_core.specs.Window.{WindowValue, states_of}

-- how many events there are with the lines of all groups
abbrev pub events_in : WindowValue → ℕ
events_in v = v.position + length (all_lines (states_of v.groups))

-- no group has an event before the window's end
abbrev pub WindowIsDone : WindowValue → Type 0
WindowIsDone v = all_done v.until (states_of v.groups) ≡ true

-- why a window is not turned: a group has an event before its end, or the run has more events than there may be, or there was no memory
abbrev pub IsTurnFault : WindowValue → TurnFault → Type 0
IsTurnFault v NotDone = all_done v.until (states_of v.groups) ≡ false
IsTurnFault v CountFull = WindowIsDone v × (MOST_EVENTS < events_in v) × RunsTooLong v
IsTurnFault v NoMemory = WindowIsDone v × (events_in v ≤ MOST_EVENTS)

-- what the answer to a turn tells of the window: it could be turned, or why it was not
abbrev pub IsTurnAnswer : {T : Type 0} → WindowValue → Result T TurnFault → Type 0
IsTurnAnswer v (Ok turned) = WindowIsDone v × (events_in v ≤ MOST_EVENTS)
IsTurnAnswer v (Err fault) = IsTurnFault v fault
