-- Where the links of a scenario leave and end, and that nodes are joined by them so.
use Rattle.std.specs.Prelude.{◌≡◌, ◌<◌, ◌≤◌, ◌==◌, ℕ, List, [], length, count_by, take, slice_index_or}
use Rattle.scenario_image.specs.declared.parts.LinkPart.{LinkPart}
use Rattle.sim_time.specs.declared.queue_kind.QueueKind.TheVariants.{DropTail}
use Rattle.node_core.specs.Part.{LinkState, link_at}
use Rattle.node_core.specs.EventQueueState.{Incoming, incoming_at}
use Rattle.node_core.specs.Node.{NodeState}
use Rattle.net_machine.specs.declared.places.EndPlace.{EndPlace}
use Rattle.net_machine.specs.declared.places.LinkEnds.{LinkEnds}
use Rattle.net_machine.specs.Nodes.{node_at}

abbrev pub no_link_part : LinkPart
no_link_part = record { from = 0; to = 0; rate = 0; delay = 0; queue = DropTail; capacity = 0; lose = [] }

abbrev pub link_part : List LinkPart → ℕ → LinkPart
link_part links number = slice_index_or links number no_link_part

-- the node that a link leaves, and which of its outgoing links it is
abbrev pub from_of : List LinkPart → ℕ → ℕ
from_of links number = (link_part links number).from

abbrev pub exit_of : List LinkPart → ℕ → ℕ
exit_of links number = count_by (λ (link : LinkPart). link.from == from_of links number) (take number links)

-- the node at which a link ends, and which of its incoming links it is
abbrev pub to_of : List LinkPart → ℕ → ℕ
to_of links number = (link_part links number).to

abbrev pub entry_of : List LinkPart → ℕ → ℕ
entry_of links number = count_by (λ (link : LinkPart). link.to == to_of links number) (take number links)

-- the sending side of a link, and the incoming link at its end
abbrev pub leaving_at : List LinkPart → List NodeState → ℕ → LinkState
leaving_at links nodes number = link_at (node_at nodes (from_of links number)).part.links (exit_of links number)

abbrev pub coming_at : List LinkPart → List NodeState → ℕ → Incoming
coming_at links nodes number = incoming_at (node_at nodes (to_of links number)).incoming (entry_of links number)

-- a link leaves its node and comes to its end, and all that it has sent has come
pub record IsNetWire (links : List LinkPart) (nodes : List NodeState) (number : ℕ) : Type 0 where
  pub leaves : (leaving_at links nodes number).port.link ≡ number
  pub ends : (leaving_at links nodes number).to ≡ to_of links number
  pub within : to_of links number < length nodes
  pub entry : entry_of links number < length (node_at nodes (to_of links number)).incoming
  pub over : (coming_at links nodes number).link ≡ number
  pub came : (coming_at links nodes number).came ≡ (leaving_at links nodes number).port.sent

-- a link comes to a node as one of those that end there, and all that it has sent has come
pub record IsJoined (links : List LinkPart) (nodes : List NodeState) (number : ℕ) : Type 0 where
  pub entry : entry_of links number < length (node_at nodes (to_of links number)).incoming
  pub over : (coming_at links nodes number).link ≡ number
  pub came : (coming_at links nodes number).came ≡ (leaving_at links nodes number).port.sent

-- an outgoing link of a node is the scenario's of its number
pub record IsExit (links : List LinkPart) (nodes : List NodeState) (node index : ℕ) : Type 0 where
  pub known : (link_at (node_at nodes node).part.links index).port.link < length links
  pub from_here : from_of links (link_at (node_at nodes node).part.links index).port.link ≡ node
  pub exit_here : exit_of links (link_at (node_at nodes node).part.links index).port.link ≡ index

-- nodes are joined by the links
pub record IsWired (links : List LinkPart) (nodes : List NodeState) : Type 0 where
  pub few : (node : ℕ) → length (node_at nodes node).part.links ≤ 16
  pub exits : (node index : ℕ) → index < length (node_at nodes node).part.links → IsExit links nodes node index
  pub wires : (number : ℕ) → number < length links → IsNetWire links nodes number

abbrev pub no_ends : LinkEnds
no_ends = record { from = 0; to = record { node = 0; index = 0 }; delay = 0 }

abbrev pub ends_at : List LinkEnds → ℕ → LinkEnds
ends_at ends number = slice_index_or ends number no_ends

-- a link's ends and its delay
abbrev pub link_ends : List LinkPart → ℕ → LinkEnds
link_ends links number = record { from = from_of links number; to = record { node = to_of links number; index = entry_of links number }; delay = (link_part links number).delay }

-- for each link its ends
pub record AreEnds (links : List LinkPart) (ends : List LinkEnds) : Type 0 where
  pub size : length ends ≡ length links
  pub each_link : (number : ℕ) → number < length links → ends_at ends number ≡ link_ends links number

-- where a link ends
abbrev pub place_at : List LinkEnds → ℕ → EndPlace
place_at ends number = (ends_at ends number).to
