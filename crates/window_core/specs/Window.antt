-- A net's run by windows: its groups, and where the run stands.
use Rattle.std.specs.Prelude.{◌≡◌, ◌≢◌, ◌<◌, ◌≤◌, ◌+◌, ℕ, Bool, true, false, List, [], map as each, length, slice_index_or, Option, Some, None}
use Rattle.sim_time.specs.declared.limits.TheConstants.{MOST_EVENTS}
use Rattle.scenario_image.specs.declared.parts.ScenarioParts.{ScenarioParts}
use Rattle.node_core.specs.TraceLine.{TraceLine}
use Rattle.table_run.specs.State.{State, run}
use Rattle.net_machine.specs.declared.places.LinkEnds.{LinkEnds}
use Rattle.net_machine.specs.Wiring.{AreEnds, ends_at, place_at}
use Rattle.line_merge.specs.Batches.{BatchValue}
use Rattle.window_law.specs.Calls.{IsInRun}
use Rattle.node_group.specs.Group.{GroupValue, state_of, came_in}
use Rattle.window_law.specs.Groups.{GroupState}
use Rattle.node_group.specs.Held.{wire_at}
use Rattle.window_law.specs.Lookahead.{lookahead}
use Rattle.net_partition.specs.Partition.{group_in, groups_of}
use Rattle.window_law.specs.Windows.{Setting, WindowState, Turn, Fire, moved}

-- the group of each node; where each link leaves and ends; the least delay of a link between two groups; the run's end, and the window's; how many events were run to the last turn; the groups, by number, and whether they are out: then they are as they went; what the last turn gave
pub record WindowValue : Type 0 where
  pub entries : List ℕ
  pub links : List LinkEnds
  pub ahead : Option ℕ
  pub end : ℕ
  pub until : ℕ
  pub position : ℕ
  pub groups : List GroupValue
  pub out : Bool
  pub taken : BatchValue

abbrev pub no_value : GroupValue
no_value = record { number = 0; entries = []; links = []; seats = []; held = []; lines = []; until = 0; position = 0 }

-- the group of a number
abbrev pub value_at : List GroupValue → ℕ → GroupValue
value_at groups number = slice_index_or groups number no_value

abbrev pub states_of : List GroupValue → List GroupState
states_of groups = each state_of groups

-- the window as the window machine has it
abbrev pub machine_of : WindowValue → WindowState
machine_of v = record { groups = states_of v.groups; until = v.until }

abbrev pub setting_in : WindowValue → Setting
setting_in v = record { group = group_in v.entries; ahead = v.ahead; end = v.end }

-- the groups of the nodes that a link leaves and ends at
abbrev pub leaves_from : WindowValue → ℕ → ℕ
leaves_from v link = group_in v.entries (ends_at v.links link).from

abbrev pub comes_to : WindowValue → ℕ → ℕ
comes_to v link = group_in v.entries (place_at v.links link).node

-- a group of the window
pub record IsPart (v : WindowValue) (number : ℕ) (g : GroupValue) : Type 0 where
  pub number_is : g.number ≡ number
  pub entries_are : g.entries ≡ v.entries
  pub links_are : g.links ≡ v.links
  pub until_is : g.until ≡ v.until
  pub position_is : g.position ≡ v.position

-- a link leaves a node of the net and ends at one
pub record IsKnown (v : WindowValue) (link : ℕ) : Type 0 where
  pub from : (ends_at v.links link).from < length v.entries
  pub to : (place_at v.links link).node < length v.entries

-- the net is split by its groups; what came over a link from another group is what that group has handed over
pub record IsSplit (v : WindowValue) : Type 0 where
  pub count : length v.groups ≡ groups_of v.entries
  pub parts : (number : ℕ) → number < length v.groups → IsPart v number (value_at v.groups number)
  pub known : (link : ℕ) → link < length v.links → IsKnown v link
  pub across : (link : ℕ) → link < length v.links → leaves_from v link ≢ comes_to v link → came_in (value_at v.groups (comes_to v link)) link ≡ (wire_at (value_at v.groups (leaves_from v link)).held link).taken
  pub fits : v.position ≤ MOST_EVENTS

-- the window opened at this state of a scenario's run
pub record IsFrom (edge : State) (v : WindowValue) : Type 0 where
  pub scenario : ScenarioParts
  pub before : List TraceLine
  pub in_run : IsInRun scenario (group_in v.entries) v.position before edge (machine_of v)
  pub links_are : AreEnds scenario.links v.links
  pub ahead_is : v.ahead ≡ lookahead (group_in v.entries) scenario.links
  pub end_is : v.end ≡ scenario.end

-- the net is split by its groups, in a window that opened at a state of a scenario's run
pub record IsWindow (v : WindowValue) : Type 0 where
  pub split : IsSplit v
  pub edge : State
  pub from : IsFrom edge v

-- from a state of the run so many lines on, and the next window opened there
pub record HasGoneOn (edge : State) (lines : List TraceLine) (v : WindowValue) : Type 0 where
  pub state : State
  pub is_run : run edge (length lines) ≡ Some (lines, state)
  pub from : IsFrom state v

-- a turn was taken: it is that of the window machine; the batch has its lines, from the number of the next event on
pub record HasTurned (old : WindowValue) (batch : BatchValue) (new : WindowValue) : Type 0 where
  pub moved_on : moved (setting_in old) (machine_of old) Turn ≡ Some (machine_of new, batch.lines)
  pub first : batch.first ≡ old.position + 1
  pub position : new.position ≡ old.position + length batch.lines
  pub rest : new ≡ record old { until = new.until; position = new.position; groups = new.groups }

-- whether a group had an event before the window's end, and the window after it: that of the window machine
abbrev pub HasFiredOr : Bool → WindowValue → ℕ → WindowValue → Type 0
HasFiredOr true old number new = moved (setting_in old) (machine_of old) (Fire number) ≡ Some (machine_of new, [])
HasFiredOr false old number new = (moved (setting_in old) (machine_of old) (Fire number) ≡ None) × (new ≡ old)
