-- The nodes of groups, put together again.
use Rattle.std.specs.Prelude.{◌≡◌, ◌<◌, ℕ, List, length, is_some, true, slice_index_or, None}
use Rattle.node_core.specs.Node.{NodeState}
use Rattle.net_machine.specs.Nodes.{node_at}
use Rattle.node_group.specs.Group.{GroupValue, member}
use Rattle.net_partition.specs.Partition.{group_in}
use Rattle.window_core.specs.Window.{value_at}

-- the group of a node
abbrev pub group_with : List ℕ → List GroupValue → ℕ → GroupValue
group_with entries groups node = value_at groups (group_in entries node)

-- each node is seated in its group
pub record AreSeated (entries : List ℕ) (groups : List GroupValue) : Type 0 where
  pub few : (node : ℕ) → group_in entries node < length groups
  pub sizes : (node : ℕ) → length (group_with entries groups node).seats ≡ length entries
  pub each_seat : (node : ℕ) → node < length entries → is_some (slice_index_or (group_with entries groups node).seats node None) ≡ true

-- so many nodes, each as its group has it
pub record AreTogether (entries : List ℕ) (groups : List GroupValue) (count : ℕ) (nodes : List NodeState) : Type 0 where
  pub size : length nodes ≡ count
  pub each_node : (node : ℕ) → node < count → node_at nodes node ≡ member (group_with entries groups node) node
