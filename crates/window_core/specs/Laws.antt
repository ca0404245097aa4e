-- The law of windows of a run that cannot go on.
use Rattle.std.specs.Prelude.{◌≤◌, ◌<◌, ℕ, length}
use Rattle.sim_time.specs.declared.limits.TheConstants.{MOST_EVENTS}
use Rattle.table_run.specs.State.{State}
use Rattle.node_group.specs.declared.group.GroupFault.TheVariants as group
use Rattle.node_group.specs.Group.{GroupValue, AfterFirings}
use Rattle.node_group.specs.Faults.{IsFaultAt}
use Rattle.window_core.specs.Faults.{WindowIsDone, events_in}
use Rattle.window_core.specs.Full.{HasTooMany, initial_at}
use Rattle.window_core.specs.Window.{WindowValue, value_at, IsWindow, IsFrom}

-- a group of a window, after some firings of its own: with its lines there are 10^15 events, and one more is due before the window's end
abbrev pub FullGroupHasTooMany : Type 0
FullGroupHasTooMany = (edge : State) (v : WindowValue) → IsWindow v → IsFrom edge v → (number : ℕ) (g : GroupValue) → number < length v.groups → AfterFirings v.until (value_at v.groups number) g
    → (end : ℕ) → end ≤ v.until → IsFaultAt end g group.CountFull → HasTooMany (initial_at edge v)

-- no group has an event left before the window's end, and with all lines there are more than 10^15 events
abbrev pub FullTurnHasTooMany : Type 0
FullTurnHasTooMany = (edge : State) (v : WindowValue) → IsFrom edge v → v.position ≤ MOST_EVENTS → WindowIsDone v → MOST_EVENTS < events_in v → HasTooMany (initial_at edge v)
