-- The window, call by call: what it keeps of the state at which it opened, and what a turn gives.
use Rattle.std.specs.Prelude.{ℕ, true, min, ◌≡◌, ◌≢◌, ◌==◌, ◌≤◌, ◌<◌, ◌+◌, List, length, filter, Option, Some, None, slice_index_or, slice_set}
use Rattle.std.specs.FinMap as map
use Rattle.sim_time.specs.declared.key.Key.{Key}
use Rattle.scenario_image.specs.declared.parts.ScenarioParts.{ScenarioParts}
use Rattle.scenario_image.specs.Scenario.{IsScenario}
use Rattle.node_core.specs.declared.event.Event.{Event}
use Rattle.node_core.specs.Pending.{Events}
use Rattle.node_core.specs.TraceLine.{TraceLine}
use Rattle.table_run.specs.State.{State, no_part, part_at, due, run}
use Rattle.table_run.specs.Sound.{EachEvent}
use Rattle.table_run.specs.Laws.{ComesTo}
use Rattle.window_law.specs.Groups.{GroupState, group_at, up_to, fire, fires, fire_times}
use Rattle.window_law.specs.Windows.{Setting, WindowState, AreBelow, all_done, none_fired, in_order, all_lines, groups_delivered, opened, setting_of}
use Rattle.window_law.specs.Standing.{Stands}

-- a moment is at most the lookahead after another, where there is a lookahead
abbrev pub IsWithin : Option ℕ → ℕ → ℕ → Type 0
IsWithin None until time = Unit {0}
IsWithin (Some delay) until time = until ≤ time + delay

-- groups held a state when the window opened, and some of them have fired since; the window ends by the run's end, and by the lookahead after all that was pending
pub record IsOpenFrom (x : Setting) (edge : State) (w : WindowState) : Type 0 where
  pub start : List GroupState
  pub stands : Stands x.group edge start
  pub firings : List ℕ
  pub groups_are : w.groups ≡ fires x.group w.until firings start
  pub within : w.until ≤ x.end
  pub soon : EachEvent (λ k v. IsWithin x.ahead w.until k.time) edge.pending

abbrev pub OpensWhereGroupsStand : Type 0
OpensWhereGroupsStand = (x : Setting) (s : State) (groups : List GroupState) → Stands x.group s groups → IsOpenFrom x s (opened x groups)

abbrev pub FiringKeepsItOpen : Type 0
FiringKeepsItOpen = (x : Setting) (edge : State) (w : WindowState) → IsOpenFrom x edge w → (number : ℕ) (g : GroupState) → fire x.group number w.until (group_at w.groups number) ≡ Some g
    → IsOpenFrom x edge record { groups = slice_set w.groups number g; until = w.until }

abbrev pub LimitKeepsItOpen : Type 0
LimitKeepsItOpen = (x : Setting) (edge : State) (w : WindowState) → IsOpenFrom x edge w → none_fired w.groups ≡ true → (moment : ℕ) → IsOpenFrom x edge record { groups = w.groups; until = min w.until moment }

-- each group that comes back is the one that went out, after so many firings of its own
abbrev pub HaveFired : Setting → WindowState → List GroupState → Type 0
HaveFired x w back = (h : ℕ) → h < length back → (times : ℕ) × (group_at back h ≡ fire_times x.group h w.until times (group_at w.groups h))

abbrev pub GroupsThatFiredKeepItOpen : Type 0
GroupsThatFiredKeepItOpen = (x : Setting) (edge : State) (w : WindowState) → IsOpenFrom x edge w → (back : List GroupState) → length back ≡ length w.groups → HaveFired x w back → IsOpenFrom x edge record { groups = back; until = w.until }

-- where no group has fired they hold the state still
abbrev pub UnfiredGroupsStand : Type 0
UnfiredGroupsStand = (x : Setting) (edge : State) (w : WindowState) → IsOpenFrom x edge w → none_fired w.groups ≡ true → Stands x.group edge w.groups

-- a turn: its lines are the run's next, each before a moment, and the next window opens at the state after them
pub record IsTurned (x : Setting) (edge : State) (until : ℕ) (lines : List TraceLine) (w : WindowState) : Type 0 where
  pub state : State
  pub is_run : run edge (length lines) ≡ Some (lines, state)
  pub early : AreBelow until lines
  pub stands : Stands x.group state w.groups
  pub is_open : IsOpenFrom x state w

-- at the edge of a scenario's run, and in a window that opened there
pub record IsInRun (p : ScenarioParts) (group : ℕ → ℕ) (m : ℕ) (before : List TraceLine) (edge : State) (w : WindowState) : Type 0 where
  pub is_scenario : IsScenario p
  pub comes : ComesTo p m before edge
  pub is_open : IsOpenFrom (setting_of group p) edge w

abbrev pub TurnGivesTheRun : Type 0
TurnGivesTheRun = (p : ScenarioParts) (group : ℕ → ℕ) (m : ℕ) (before : List TraceLine) (edge : State) (w : WindowState) → IsInRun p group m before edge w
    → all_done w.until w.groups ≡ true → IsTurned (setting_of group p) edge w.until (in_order (all_lines w.groups)) (opened (setting_of group p) (groups_delivered group w.groups))

-- something is under each key of a map under which something is in another
abbrev pub AreUnder : Events → Events → Type 0
AreUnder these all = (k : Key) (v : Event) → map.get these k ≡ Some v → map.get all k ≢ None

-- a state of the run within the window at which an event of a group is due: the event's node is as the group has it, all that the group has or holds back is pending, and of the run's lines the group has those at its nodes
pub record IsDueInRun (edge : State) (until : ℕ) (group : ℕ → ℕ) (number : ℕ) (g : GroupState) (k : Key) (v : Event) : Type 0 where
  pub steps : ℕ
  pub lines : List TraceLine
  pub state : State
  pub is_run : run edge steps ≡ Some (lines, state)
  pub early : AreBelow until lines
  pub is_due : due state ≡ Some (k, v)
  pub its_own : group k.node ≡ number
  pub same_part : part_at state k.node ≡ slice_index_or g.parts k.node no_part
  pub has : AreUnder g.pending state.pending
  pub holds : AreUnder g.held state.pending
  pub lines_are : g.lines ≡ filter (λ (l : TraceLine). group l.key.node == number) lines

-- each event that a group can fire is one that the run comes to
abbrev pub EachFiringIsOfTheRun : Type 0
EachFiringIsOfTheRun = (p : ScenarioParts) (group : ℕ → ℕ) (m : ℕ) (before : List TraceLine) (edge : State) (w : WindowState) → IsInRun p group m before edge w
    → (number : ℕ) (k : Key) (v : Event) → due (up_to w.until (group_at w.groups number)) ≡ Some (k, v) → IsDueInRun edge w.until group number (group_at w.groups number) k v
