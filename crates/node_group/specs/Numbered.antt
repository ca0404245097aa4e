-- The nodes of a group in a row, and for each number of the net which of them it is.
use Rattle.std.specs.Prelude.{◌≡◌, ◌<◌, ℕ, List, map as each, length, slice_index_or}
use Rattle.std.specs.List.{slice_get}
use Rattle.node_core.specs.Node.{NodeState}
use Rattle.net_machine.specs.Nodes.{node_at, IsPlaced}
use Rattle.node_group.specs.Seats.{Seats, seated}

-- so the seats: nobody is seated where the number is past the last of the nodes
abbrev pub seats_of : List NodeState → List ℕ → Seats
seats_of nodes index = each (λ k. slice_get nodes k) index

-- each of the nodes is found by its number
abbrev pub AreFound : List NodeState → List ℕ → Type 0
AreFound nodes index = (k : ℕ) → k < length nodes → slice_index_or index (node_at nodes k).number (length nodes) ≡ k

-- their numbers rise
abbrev pub AreRising : List NodeState → Type 0
AreRising nodes = (i j : ℕ) → i < j → j < length nodes → (node_at nodes i).number < (node_at nodes j).number

-- each node sits at its number, in rising number, and each key names its node
pub record AreNodesByNumber (nodes : List NodeState) (index : List ℕ) : Type 0 where
  pub placed : IsPlaced (seated (seats_of nodes index))
  pub found : AreFound nodes index
  pub rising : AreRising nodes
