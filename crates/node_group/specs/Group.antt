-- A group of nodes on its way through a window: what it is, what it keeps, and what its firings leave.
use Rattle.std.specs.Prelude.{◌≡◌, ◌≢◌, ◌<◌, ◌≤◌, ◌+◌, ◌==◌, ℕ, Bool, true, false, List, [], map as each, length, Some, None}
use Rattle.scenario_image.specs.declared.parts.ScenarioParts.{ScenarioParts}
use Rattle.sim_time.specs.declared.key.Key.{Key}
use Rattle.sim_time.specs.declared.limits.TheConstants.{MOST_EVENTS}
use Rattle.tournament.specs.Keyed.{least, next_key, EachKey}
use Rattle.node_core.specs.declared.event.Event.{Event}
use Rattle.node_core.specs.EventQueueState.{Incoming, incoming_at}
use Rattle.node_core.specs.Node.{NodeState}
use Rattle.node_core.specs.Part.{LinkState, link_at}
use Rattle.node_core.specs.TraceLine.{TraceLine}
use Rattle.node_core.specs.WireState.{WireState, came_over}
use Rattle.table_run.specs.State.{State, due}
use Rattle.net_machine.specs.declared.places.LinkEnds.{LinkEnds}
use Rattle.net_machine.specs.Nodes.{node_at, net_pending, parts_of, IsPlaced, IsFirst}
use Rattle.net_machine.specs.Wiring.{AreEnds, ends_at, place_at}
use Rattle.net_partition.specs.Partition.{group_in}
use Rattle.node_group.specs.Seats.{Seats, seated, taken_nodes}
use Rattle.node_group.specs.Held.{wire_at, held_on, AreByLink}
use Rattle.window_law.specs.Groups.{GroupState, group_at, up_to, fire, fire_times}
use Rattle.window_law.specs.Windows.{WindowState}
use Rattle.window_law.specs.Calls.{IsInRun}

-- which group it is; the group of each node; where each link of the net leaves and ends; its nodes, at their numbers; what it holds back for others, by link; its lines since the last turn; no event at or past `until` may be run before the next turn; how many events the run had at the last one
pub record GroupValue : Type 0 where
  pub number : ℕ
  pub entries : List ℕ
  pub links : List LinkEnds
  pub seats : Seats
  pub held : List WireState
  pub lines : List TraceLine
  pub until : ℕ
  pub position : ℕ

-- the group as the window machine has it
abbrev pub state_of : GroupValue → GroupState
state_of g = record { parts = parts_of (seated g.seats); pending = net_pending (seated g.seats); held = held_on g.held; lines = g.lines }

-- the groups of the nodes that a link leaves and ends at
abbrev pub group_from : GroupValue → ℕ → ℕ
group_from g link = group_in g.entries (ends_at g.links link).from

abbrev pub group_to : GroupValue → ℕ → ℕ
group_to g link = group_in g.entries (place_at g.links link).node

-- a node of the group, and an outgoing link of it
abbrev pub member : GroupValue → ℕ → NodeState
member g node = node_at (seated g.seats) node

abbrev pub exit_at : GroupValue → ℕ → ℕ → LinkState
exit_at g node index = link_at (member g node).part.links index

-- the end of a link, where that is at a node of the group
abbrev pub entry_at : GroupValue → ℕ → Incoming
entry_at g link = incoming_at (member g (place_at g.links link).node).incoming (place_at g.links link).index

-- how many packets have come to the end of a link
abbrev pub came_in : GroupValue → ℕ → ℕ
came_in g link = (entry_at g link).came

-- an outgoing link of a node is the net's of its number; what it has sent has come to its end inside the group, or is an outgoing message for another or was
pub record IsOwnExit (g : GroupValue) (node index : ℕ) : Type 0 where
  pub known : (exit_at g node index).port.link < length g.links
  pub from_here : (ends_at g.links (exit_at g node index).port.link).from ≡ node
  pub to_there : (exit_at g node index).to ≡ (place_at g.links (exit_at g node index).port.link).node
  pub once : (other : ℕ) → other < length (member g node).part.links → (exit_at g node other).port.link ≡ (exit_at g node index).port.link → other ≡ index
  pub inside : group_to g (exit_at g node index).port.link ≡ g.number → came_in g (exit_at g node index).port.link ≡ (exit_at g node index).port.sent
  pub across : group_to g (exit_at g node index).port.link ≢ g.number → came_over (wire_at g.held (exit_at g node index).port.link) ≡ (exit_at g node index).port.sent

-- a link that ends at a node of the group is the incoming one that the net says
pub record IsOwnEntry (g : GroupValue) (link : ℕ) : Type 0 where
  pub within : (place_at g.links link).index < length (member g (place_at g.links link).node).incoming
  pub over : (entry_at g link).link ≡ link

-- a group of a net: it has just the nodes of its number, joined by the net's links, and a wire for each link; of the packets that come over a link it counts those that came
pub record IsGroup (g : GroupValue) : Type 0 where
  pub seats_are : taken_nodes g.seats ≡ each (λ entry. entry == g.number) g.entries
  pub placed : IsPlaced (seated g.seats)
  pub few : (node : ℕ) → length (member g node).part.links ≤ 16
  pub ends_known : (link : ℕ) → link < length g.links → (place_at g.links link).node < length g.entries
  pub exits : (node index : ℕ) → index < length (member g node).part.links → IsOwnExit g node index
  pub entries_are : (link : ℕ) → link < length g.links → group_to g link ≡ g.number → IsOwnEntry g link
  pub counted : (link : ℕ) → link < length g.links → EachKey (λ k. k.source ≡ link + 1 → k.number ≤ came_in g link) (net_pending (seated g.seats))
  pub wires : length g.held ≡ length g.links
  pub by_link : AreByLink g.held
  pub ends_there : (link : ℕ) → link < length g.links → (wire_at g.held link).node ≡ (place_at g.links link).node
  pub fits : g.position + length g.lines ≤ MOST_EVENTS

-- the group is that of its number in a window that opened at a state of a scenario's run
pub record IsGroupIn (p : ScenarioParts) (before : List TraceLine) (edge : State) (w : WindowState) (g : GroupValue) : Type 0 where
  pub in_run : IsInRun p (group_in g.entries) g.position before edge w
  pub within : g.number < length w.groups
  pub is_it : group_at w.groups g.number ≡ state_of g
  pub same_end : w.until ≡ g.until
  pub links_are : AreEnds p.links g.links

-- of some window of some scenario's run
pub record IsOnRun (g : GroupValue) : Type 0 where
  pub scenario : ScenarioParts
  pub before : List TraceLine
  pub edge : State
  pub window : WindowState
  pub is_group : IsGroupIn scenario before edge window g

-- a wire without what is under way over it
abbrev pub bare : WireState → WireState
bare w = record w { under_way = [] }

-- a group after some firings of its own below a moment: its nodes, what it holds back and its lines may be new, and from other groups nothing came
pub record AfterFirings (end : ℕ) (old new : GroupValue) : Type 0 where
  pub times : ℕ
  pub state : state_of new ≡ fire_times (group_in old.entries) old.number end times (state_of old)
  pub rest : new ≡ record old { seats = new.seats; held = new.held; lines = new.lines }
  pub seats_stay : taken_nodes new.seats ≡ taken_nodes old.seats
  pub from_others : (link : ℕ) → link < length old.links → group_from old link ≢ old.number → came_in new link ≡ came_in old link
  pub wires_stay : each bare new.held ≡ each bare old.held

-- whether an event was below a moment, and the group after it
abbrev pub Fired : ℕ → GroupValue → Bool → GroupValue → Type 0
Fired end old false new = (due (up_to end (state_of old)) ≡ None) × (new ≡ old)
Fired end old true new = fire (group_in old.entries) old.number end (state_of old) ≡ Some (state_of new)

-- a group whose node's least event, the least of all, is below a moment, where one more may be run
pub record IsDueBelow (end : ℕ) (g : GroupValue) (place : ℕ) : Type 0 where
  pub is : IsGroup g
  pub on : IsOnRun g
  pub below : end ≤ g.until
  pub first : IsFirst (seated g.seats) place
  pub fits : g.position + length g.lines < MOST_EVENTS
  pub soon : (k : Key) (v : Event) → least (member g place).pending ≡ Some (k, v) → k.time < end
  pub pending : next_key (member g place).pending ≢ None

-- a firing of a group
pub record IsFiring (end : ℕ) (g new : GroupValue) : Type 0 where
  pub fires : fire (group_in g.entries) g.number end (state_of g) ≡ Some (state_of new)
  pub is_group : IsGroup new
  pub on_run : IsOnRun new
  pub after : AfterFirings end g new
