-- The group that a share's fields are.
use Rattle.std.specs.Prelude.{◌≡◌, ◌≤◌, [], map as each, take, length, replicate}
use Rattle.node_core.specs.TraceLine.{shown}
use Rattle.node_group.specs.declared.group_state.GroupState.TheInside.{Inside}
use Rattle.node_group.specs.Group.{GroupValue, IsGroup}

abbrev pub group_of : Inside → GroupValue
group_of s = record {
  number = s.number;
  entries = s.partition.value;
  links = s.links.items;
  seats = s.area.nodes_by_number;
  held = s.area.exits;
  lines = each shown (take s.count s.lines.items);
  until = s.until.value;
  position = s.position;
}

-- the lines that count are there, and nothing is on its way between nodes
pub record IsGroupState (s : Inside) : Type 0 where
  pub is_group : IsGroup (group_of s)
  pub count : s.count ≤ length s.lines.items
  pub out_empty : s.out ≡ replicate 16 []
