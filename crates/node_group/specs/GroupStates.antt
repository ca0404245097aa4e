-- The group states of a net that is split into groups.
use Rattle.std.specs.Prelude.{◌≡◌, ◌≢◌, ◌<◌, ◌≤◌, ◌==◌, ◌^◌, ℕ, if◌then◌else◌, List, [], length, count_by, take, replicate, slice_index_or, vec_capacity, Some, None}
use Rattle.std.specs.List.{slice_get}
use Rattle.node_core.specs.Node.{NodeState}
use Rattle.node_core.specs.EventQueueState.{incoming_at}
use Rattle.node_core.specs.Part.{link_at}
use Rattle.node_core.specs.WireState.{WireState}
use Rattle.net_machine.specs.declared.places.LinkEnds.{LinkEnds}
use Rattle.net_machine.specs.Nodes.{node_at}
use Rattle.net_machine.specs.Wiring.{ends_at, place_at}
use Rattle.node_group.specs.declared.group_state.GroupStateParts.{GroupStateParts}
use Rattle.net_partition.specs.Partition.{group_in}
use Rattle.node_group.specs.Seats.{Seats}
use Rattle.node_group.specs.Numbered.{AreFound, AreRising}
use Rattle.node_group.specs.Held.{wire_at}
use Rattle.node_group.specs.Group.{GroupValue}

-- a group's nodes, each in its seat
pub record AreSeatsOf (entries : List ℕ) (number : ℕ) (nodes : List NodeState) (seats : Seats) : Type 0 where
  pub count : length seats ≡ length entries
  pub each_seat : (i : ℕ) → i < length entries → slice_index_or seats i None ≡ (if group_in entries i == number then Some (node_at nodes i) else None)

-- of each link all that came to its end, and nothing under way
abbrev pub idle_wire : List LinkEnds → List NodeState → ℕ → WireState
idle_wire links nodes link = record { node = (place_at links link).node; link = link; taken = (incoming_at (node_at nodes (place_at links link).node).incoming (place_at links link).index).came; under_way = [] }

pub record AreIdle (links : List LinkEnds) (nodes : List NodeState) (held : List WireState) : Type 0 where
  pub count : length held ≡ length links
  pub each_wire : (link : ℕ) → link < length links → wire_at held link ≡ idle_wire links nodes link

-- which of the outgoing links of its node a link is
abbrev pub exit_in : List LinkEnds → ℕ → ℕ
exit_in links link = count_by (λ (ends : LinkEnds). ends.from == (ends_at links link).from) (take link links)

-- how many packets a link has sent
abbrev pub sent_over : List LinkEnds → List NodeState → ℕ → ℕ
sent_over links nodes link = (link_at (node_at nodes (ends_at links link).from).part.links (exit_in links link)).port.sent

-- nodes that links join, all of which has come: a link leaves one of them, and what it sent is what came over it
pub record AreJoined (links : List LinkEnds) (nodes : List NodeState) : Type 0 where
  pub few : length links < 65535
  pub from : (link : ℕ) → link < length links → (ends_at links link).from < length nodes
  pub came : (link : ℕ) → link < length links → (idle_wire links nodes link).taken ≡ sent_over links nodes link
  pub most : (link : ℕ) → link < length links → sent_over links nodes link ≤ 2 ^ 50

-- for each link how many packets it has sent
pub record HaveSent (links : List LinkEnds) (nodes : List NodeState) (sent : List ℕ) : Type 0 where
  pub count : length sent ≡ length links
  pub each_link : (link : ℕ) → link < length links → slice_index_or sent link 0 ≡ sent_over links nodes link

-- where a node is that has not joined
abbrev pub nowhere : ℕ
nowhere = 4294967295

-- how many nodes are in a group
abbrev pub size_of : ℕ → List ℕ → ℕ
size_of number entries = count_by (λ entry. entry == number) entries

-- room for the state of a group: no node has joined, there is room for all that will, and nothing is on its way
pub record IsRoom (entries : List ℕ) (links : List LinkEnds) (nodes : List NodeState) (number : ℕ) (room : GroupStateParts) : Type 0 where
  pub links_are : room.links.items ≡ links
  pub empty : room.nodes_by_number.nodes.items ≡ []
  pub nobody : room.nodes_by_number.index.items ≡ replicate (length entries) nowhere
  pub size : length room.nodes_by_number.timetable ≡ size_of number entries
  pub few : length room.nodes_by_number.timetable ≤ 2 ^ 12
  pub capacity : length room.nodes_by_number.timetable ≤ vec_capacity room.nodes_by_number.nodes
  pub idle : AreIdle links nodes room.exits
  pub out_empty : room.out ≡ replicate 16 []

abbrev pub AreRooms : List ℕ → List LinkEnds → List NodeState → List GroupStateParts → Type 0
AreRooms entries links nodes rooms = (number : ℕ) (d : GroupStateParts) → number < length rooms → IsRoom entries links nodes number (slice_index_or rooms number d)

-- of the nodes of a group those below a number have joined, in rising number, and there is room for the others
pub record HaveJoined (next : ℕ) (entries : List ℕ) (nodes : List NodeState) (number : ℕ) (joined : List NodeState) (index : List ℕ) (room : ℕ) : Type 0 where
  pub count : length index ≡ length entries
  pub before : (i : ℕ) → i < length entries → i < next → group_in entries i ≡ number → slice_get joined (slice_index_or index i nowhere) ≡ Some (node_at nodes i)
  pub others : (i : ℕ) → i < length entries → group_in entries i ≢ number → slice_index_or index i nowhere ≡ nowhere
  pub behind : (i : ℕ) → i < length entries → next ≤ i → slice_index_or index i nowhere ≡ nowhere
  pub found : AreFound joined index
  pub rising : AreRising joined
  pub below : (k : ℕ) → k < length joined → (node_at joined k).number < next
  pub size : length joined ≡ size_of number (take next entries)
  pub fits : size_of number entries ≡ room
  pub few : room ≤ 2 ^ 12

-- a room in which the nodes below a number have joined
pub record IsSeatedBelow (next : ℕ) (entries : List ℕ) (links : List LinkEnds) (nodes : List NodeState) (number : ℕ) (room : GroupStateParts) : Type 0 where
  pub links_are : room.links.items ≡ links
  pub joined : HaveJoined next entries nodes number room.nodes_by_number.nodes.items room.nodes_by_number.index.items (length room.nodes_by_number.timetable)
  pub capacity : length room.nodes_by_number.timetable ≤ vec_capacity room.nodes_by_number.nodes
  pub idle : AreIdle links nodes room.exits
  pub out_empty : room.out ≡ replicate 16 []

-- so for the room of each group
abbrev pub AreSeatedBelow : ℕ → List ℕ → List LinkEnds → List NodeState → List GroupStateParts → Type 0
AreSeatedBelow next entries links nodes rooms = (number : ℕ) (d : GroupStateParts) → number < length rooms → IsSeatedBelow next entries links nodes number (slice_index_or rooms number d)

-- the state of a group, with no outgoing message and no line
pub record IsGroupStateOf (entries : List ℕ) (links : List LinkEnds) (nodes : List NodeState) (until position number : ℕ) (g : GroupValue) : Type 0 where
  pub number_is : g.number ≡ number
  pub entries_are : g.entries ≡ entries
  pub links_are : g.links ≡ links
  pub seats : AreSeatsOf entries number nodes g.seats
  pub wires : AreIdle links nodes g.held
  pub no_lines : g.lines ≡ []
  pub until_is : g.until ≡ until
  pub position_is : g.position ≡ position

-- so for each group
abbrev pub AreGroupStatesOf : List ℕ → List LinkEnds → List NodeState → ℕ → ℕ → List GroupValue → Type 0
AreGroupStatesOf entries links nodes until position group_states = (number : ℕ) (d : GroupValue) → number < length group_states → IsGroupStateOf entries links nodes until position number (slice_index_or group_states number d)
