-- A window between a turn and the next events.
use Rattle.std.specs.Prelude.{◌≡◌, ℕ, true, false, length}
use Rattle.table_run.specs.State.{State}
use Rattle.net_machine.specs.Run.{Reached}
use Rattle.window_core.specs.Groups.{group_at}
use Rattle.window_core.specs.Partition.{group_in}
use Rattle.window_core.specs.Standing.{joined}
use Rattle.window_core.specs.Window.{WindowValue, states_of, setting_in}
use Rattle.window_core.specs.Windows.{none_fired, window_end}

-- no group is out, none has fired, and the window ends where it is to
pub record IsAtEdge (v : WindowValue) : Type 0 where
  pub inside : v.out ≡ false
  pub unfired : none_fired (states_of v.groups) ≡ true
  pub until : v.until ≡ window_end (setting_in v) (states_of v.groups)

-- how many nodes the net has
abbrev pub nodes_in : WindowValue → ℕ
nodes_in v = length (group_at (states_of v.groups) (group_in v.entries 0)).parts

-- the net that the groups are together
abbrev pub edge_of : WindowValue → State
edge_of v = joined (group_in v.entries) (nodes_in v) v.end (states_of v.groups)

abbrev pub reached_in : WindowValue → Reached
reached_in v = record { state = edge_of v; position = v.position }

-- nothing but the groups, the window's end, the number of events and the last batch may be new
pub record StaysNet (old new : WindowValue) : Type 0 where
  pub entries : new.entries ≡ old.entries
  pub ahead : new.ahead ≡ old.ahead
  pub end : new.end ≡ old.end
