-- A packet that leaves a node of a group: to another node of it, or over a link that ends at another group's.
use Rattle.std.specs.Prelude.{◌≡◌, ◌<◌, ◌≤◌, ◌+◌, ◌^◌, ◌++◌, ℕ, Bool, true, false, List, All, length, slice_index_or, slice_set, is_some, Some, None}
use Rattle.std.specs.List.Sorted.{IsStrictlyIncreasing}
use Rattle.packet_chain.specs.Stamped.{Stamped}
use Rattle.tournament.specs.Keyed.{apply, entering, EachKey}
use Rattle.node_core.specs.Node.{NodeState, delivered}
use Rattle.node_core.specs.WireState.{WireState, arrivals, came_over, pending_on, stamps_of}
use Rattle.net_machine.specs.declared.places.LinkEnds.{LinkEnds}
use Rattle.net_machine.specs.Nodes.{node_at, IsPlaced}
use Rattle.net_machine.specs.Wiring.{place_at}
use Rattle.net_machine.specs.Region.{CanCome}
use Rattle.node_group.specs.declared.area.Area.{Area}
use Rattle.node_group.specs.Seats.{Seats, seated, taken_nodes, number_at}
use Rattle.node_group.specs.Held.{wire_at, held_on}

-- whether a node is the group's
abbrev pub is_seated : Seats → ℕ → Bool
is_seated seats node = is_some (slice_index_or seats node None)

-- the nodes of an area, the number of the one at a place of its row, and a node in the place of that of its number
abbrev pub nodes_of : Area → List NodeState
nodes_of a = seated a.nodes_by_number

abbrev pub number_of : Area → ℕ → ℕ
number_of a at = number_at a.nodes_by_number at

abbrev pub with_node : Area → ℕ → NodeState → Area
with_node a number node = record a { nodes_by_number = slice_set a.nodes_by_number number (Some node) }

-- packets can join the outgoing messages of a link
pub record CanWait (held : List WireState) (link : ℕ) (packets : List Stamped) : Type 0 where
  pub within : link < length held
  pub rising : IsStrictlyIncreasing (stamps_of packets)
  pub later : All (λ stamp. EachKey (λ k. k.time < stamp) (pending_on (wire_at held link))) (stamps_of packets)
  pub few : came_over (wire_at held link) + length packets ≤ 2 ^ 50

-- what left over a link can go on to where the link ends
pub record CanPass (links : List LinkEnds) (a : Area) (link : ℕ) (packets : List Stamped) : Type 0 where
  pub end_known : (place_at links link).node < length a.nodes_by_number
  pub inside : is_seated a.nodes_by_number (place_at links link).node ≡ true → CanCome links (nodes_of a) link packets
  pub across : is_seated a.nodes_by_number (place_at links link).node ≡ false → CanWait a.exits link packets

-- packets have come to the end of a link
pub record HasCome (links : List LinkEnds) (seats new : Seats) (link : ℕ) (packets : List Stamped) : Type 0 where
  pub nodes : seated new ≡ slice_set (seated seats) (place_at links link).node (delivered (node_at (seated seats) (place_at links link).node) (place_at links link).index packets)
  pub placed : IsPlaced (seated new)
  pub same_seats : taken_nodes new ≡ taken_nodes seats

-- packets have joined the outgoing messages of a link
pub record Waits (held new : List WireState) (link : ℕ) (packets : List Stamped) : Type 0 where
  pub wires : new ≡ slice_set held link (record (wire_at held link) { under_way = (wire_at held link).under_way ++ packets })
  pub pending : held_on new ≡ apply (entering (arrivals (wire_at held link).node link (came_over (wire_at held link)) packets)) (held_on held)

-- what left over a link has gone on
pub record HasPassed (links : List LinkEnds) (a : Area) (link : ℕ) (packets : List Stamped) (new : Area) : Type 0 where
  pub come : is_seated a.nodes_by_number (place_at links link).node ≡ true → HasCome links a.nodes_by_number new.nodes_by_number link packets
  pub exits_stay : is_seated a.nodes_by_number (place_at links link).node ≡ true → new.exits ≡ a.exits
  pub members_stay : is_seated a.nodes_by_number (place_at links link).node ≡ false → new.nodes_by_number ≡ a.nodes_by_number
  pub waits : is_seated a.nodes_by_number (place_at links link).node ≡ false → Waits a.exits new.exits link packets
