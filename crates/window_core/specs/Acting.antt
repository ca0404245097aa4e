-- What an action on a window does, as the window machine has it.
use Rattle.std.specs.Prelude.{◌≡◌, ◌<◌, ◌+◌, ℕ, Bool, true, false, [], Some, None}
use Rattle.sim_time.specs.declared.limits.TheConstants.{MOST_EVENTS}
use Rattle.table_run.specs.State.{State}
use Rattle.window_core.specs.declared.window.acting.Action.{Action}
use Rattle.window_core.specs.declared.window.acting.Action.TheVariants.{Fire as FireOf, Turn as TakeTurn}
use Rattle.window_core.specs.declared.window.turning.TurnFault.{TurnFault}
use Rattle.window_core.specs.declared.window.turning.TurnFault.TheVariants.{NotDone, CountFull, NoMemory}
use Rattle.node_group.specs.declared.group.GroupFault.{GroupFault}
use Rattle.node_group.specs.declared.group.GroupFault.TheVariants.{NoMemory as WithoutMemory, CountFull as WithFullCount}
use Rattle.line_merge.specs.Batches.{BatchValue}
use Rattle.window_core.specs.Faults.{IsTurnFault}
use Rattle.window_core.specs.Full.{IsDueAt, events_with}
use Rattle.window_core.specs.Window.{WindowValue, IsFrom, HasGoneOn, HasTurned, machine_of, setting_in, states_of}
use Rattle.window_law.specs.Windows.{Move, Fire, Turn, moved, none_fired}

-- no line yet, after so many events
abbrev pub nothing_after : ℕ → BatchValue
nothing_after position = record { first = position + 1; lines = [] }

-- the window machine's move
abbrev pub move_of : Action → Move
move_of (FireOf number) = Fire number
move_of TakeTurn = Turn

-- whether an action was possible, and the window after it: of a firing other groups may come, of a turn the batch that is then taken
abbrev pub HasActed : WindowValue → Action → Bool → WindowValue → Type 0
HasActed old action false new = (moved (setting_in old) (machine_of old) (move_of action) ≡ None) × (new ≡ old)
HasActed old (FireOf number) true new = (moved (setting_in old) (machine_of old) (Fire number) ≡ Some (machine_of new, [])) × (new ≡ record old { groups = new.groups }) × (events_with old number < MOST_EVENTS)
HasActed old TakeTurn true new = HasTurned old new.taken record new { taken = old.taken }

-- at which state of the run the window is open then
abbrev pub IsFromAfter : State → Action → Bool → WindowValue → Type 0
IsFromAfter edge action false new = IsFrom edge new
IsFromAfter edge (FireOf number) true new = IsFrom edge new
IsFromAfter edge TakeTurn true new = HasGoneOn edge new.taken.lines new

-- after a turn no group has fired
abbrev pub IsUnfiredAfter : Action → Bool → WindowValue → Type 0
IsUnfiredAfter action false new = Unit {0}
IsUnfiredAfter (FireOf number) true new = Unit {0}
IsUnfiredAfter TakeTurn true new = none_fired (states_of new.groups) ≡ true

-- the same fault of a turn
abbrev pub fault_of : GroupFault → TurnFault
fault_of WithoutMemory = NoMemory
fault_of WithFullCount = CountFull

-- when an action fails: it would be possible, and there are as many events as there may be, or no memory
abbrev pub IsFaultOf : WindowValue → Action → TurnFault → Type 0
IsFaultOf v action NotDone = ⊥
IsFaultOf v (FireOf number) CountFull = IsDueAt v number × (events_with v number ≡ MOST_EVENTS)
IsFaultOf v (FireOf number) NoMemory = IsDueAt v number × (events_with v number < MOST_EVENTS)
IsFaultOf v TakeTurn CountFull = IsTurnFault v CountFull
IsFaultOf v TakeTurn NoMemory = IsTurnFault v NoMemory
