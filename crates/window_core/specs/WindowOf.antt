-- The window that a window's fields are.
use Rattle.std.specs.Prelude.{◌≡◌, length}
use Rattle.window_core.specs.declared.window.Window.TheInside.{Inside}
use Rattle.net_partition.specs.Partition.{groups_of}
use Rattle.window_core.specs.Window.{WindowValue, IsWindow}

abbrev pub window_of : Inside → WindowValue
window_of w = record {
  entries = w.partition;
  links = w.links.items;
  ahead = w.ahead;
  end = w.end;
  until = w.until;
  position = w.position;
  groups = w.group_table.groups;
  out = w.group_table.out;
  taken = w.taken;
}

-- there is room to merge lines
pub record IsWindowInside (w : Inside) : Type 0 where
  pub window : IsWindow (window_of w)
  pub nexts : length w.nexts.items ≡ groups_of w.partition
  pub ranks : length w.tournament ≡ groups_of w.partition
