-- The group table that its fields are.
use Rattle.std.specs.Prelude.{◌≡◌, ◌≤◌, [], false, true, length, IfSome, if◌then◌else◌, vec_capacity}
use Rattle.window_core.specs.declared.window.group_table.GroupTable.TheInside.{Inside}
use Rattle.window_core.specs.GroupTables.{GroupTableValue, least_moment, nexts_of}
use Rattle.window_core.specs.Window.{states_of}
use Rattle.window_law.specs.Windows.{all_lines}

abbrev pub group_table_of : Inside → GroupTableValue
group_table_of r = record { groups = if r.out then r.lent.value.items else r.group_states.items; out = r.out }

-- what is kept of the groups that are in; and there is room to hand them out, and to have them back
pub record IsGroupTable (r : Inside) : Type 0 where
  pub few : length r.nexts.items ≤ 64
  pub size : length r.nexts.items ≡ length (group_table_of r).groups
  pub nexts : r.out ≡ false → r.nexts.items ≡ nexts_of (states_of r.group_states.items)
  pub least : IfSome r.least (λ least. least ≡ least_moment r.nexts.items)
  pub reported : r.out ≡ false → r.reported ≡ length (all_lines (states_of r.group_states.items))
  pub room_out : r.out ≡ false → (r.groups.items ≡ []) × (length r.nexts.items ≤ vec_capacity r.groups)
  pub room_back : r.out ≡ true → (r.group_states.items ≡ []) × (length r.nexts.items ≤ vec_capacity r.group_states)
