-- Groups that are about to be brought together by a turn, and what that leaves of them.
use Rattle.std.specs.Prelude.{◌≡◌, ◌≢◌, ◌<◌, ◌≤◌, ◌+◌, ◌==◌, if◌then◌else◌, ℕ, true, false, List, [], All, length, slice_set}
use Rattle.sim_time.specs.declared.limits.TheConstants.{MOST_EVENTS}
use Rattle.tournament.specs.Keyed.{EachKey, apply, entering}
use Rattle.node_core.specs.Pending.{Events}
use Rattle.node_core.specs.WireState.{WireState, arrivals_on, came_over, stamps_of}
use Rattle.net_machine.specs.declared.places.LinkEnds.{LinkEnds}
use Rattle.net_machine.specs.Nodes.{net_pending, parts_of}
use Rattle.net_machine.specs.Wiring.{ends_at, place_at}
use Rattle.node_group.specs.Group.{GroupValue, IsGroup, group_from, group_to, came_in}
use Rattle.node_group.specs.Held.{wire_at, is_idle, AreByLink}
use Rattle.net_partition.specs.Partition.{group_in, groups_of}
use Rattle.node_group.specs.Seats.{seated, taken_nodes}
use Rattle.window_core.specs.Window.{WindowValue, value_at, states_of}
use Rattle.window_law.specs.Windows.{all_done, all_lines, groups_delivered}

-- a turn can be taken, with so many lines
pub record CanTurn (v : WindowValue) (count : ℕ) : Type 0 where
  pub done : all_done v.until (states_of v.groups) ≡ true
  pub are_groups : All IsGroup v.groups
  pub count_is : count ≡ length (all_lines (states_of v.groups))
  pub fits : v.position + count ≤ MOST_EVENTS

-- the groups of the nodes that a link leaves and ends at
abbrev pub from_group : List ℕ → List LinkEnds → ℕ → ℕ
from_group entries links link = group_in entries (ends_at links link).from

abbrev pub to_group : List ℕ → List LinkEnds → ℕ → ℕ
to_group entries links link = group_in entries (place_at links link).node

-- what a group holds back of a link
abbrev pub held_over : List GroupValue → ℕ → ℕ → WireState
held_over groups number link = wire_at (value_at groups number).held link

-- what is pending at a group's nodes
abbrev pub pending_in : GroupValue → Events
pending_in g = net_pending (seated g.seats)

-- a group of a net that has given its lines, with a wire for each link
pub record IsShape (entries : List ℕ) (links : List LinkEnds) (number : ℕ) (g : GroupValue) : Type 0 where
  pub number_is : g.number ≡ number
  pub entries_are : g.entries ≡ entries
  pub links_are : g.links ≡ links
  pub wires : length g.held ≡ length links
  pub by_link : AreByLink g.held
  pub ends_there : (link : ℕ) → link < length links → (wire_at g.held link).node ≡ (place_at links link).node
  pub no_lines : g.lines ≡ []

-- what a group sent over a link comes later than all that is pending over it at its end
abbrev pub ComesLater : WireState → GroupValue → Type 0
ComesLater w g = All (λ stamp. EachKey (λ k. k.source ≡ w.link + 1 → k.time < stamp) (pending_in g)) (stamps_of w.under_way)

-- each group holds back only what left it for other groups; that comes to its end behind what came before
pub record AreReady (entries : List ℕ) (links : List LinkEnds) (groups : List GroupValue) : Type 0 where
  pub count : length groups ≡ groups_of entries
  pub leaves : (link : ℕ) → link < length links → (ends_at links link).from < length entries
  pub comes : (link : ℕ) → link < length links → (place_at links link).node < length entries
  pub shapes : (number : ℕ) → number < length groups → IsShape entries links number (value_at groups number)
  pub own : (number link : ℕ) → number < length groups → from_group entries links link ≢ number → (held_over groups number link).under_way ≡ []
  pub inside : (number link : ℕ) → number < length groups → to_group entries links link ≡ from_group entries links link → (held_over groups number link).under_way ≡ []
  pub across : (link : ℕ) → link < length links → from_group entries links link ≢ to_group entries links link → came_in (value_at groups (to_group entries links link)) link ≡ (held_over groups (from_group entries links link) link).taken
  pub later : (link : ℕ) → link < length links → from_group entries links link ≢ to_group entries links link → ComesLater (held_over groups (from_group entries links link) link) (value_at groups (to_group entries links link))

-- a link from a group to another, over which outgoing messages may come: they are behind what came before
pub record CanHand (groups : List GroupValue) (from to link : ℕ) : Type 0 where
  pub from_in : from < length groups
  pub to_in : to < length groups
  pub apart : from ≢ to
  pub leaves : link < length (value_at groups from).links
  pub comes : link < length (value_at groups to).links
  pub from_another : group_from (value_at groups to) link ≢ (value_at groups to).number
  pub to_it : group_to (value_at groups to) link ≡ (value_at groups to).number
  pub number : (held_over groups from link).link ≡ link
  pub node : (held_over groups from link).node ≡ (place_at (value_at groups to).links link).node
  pub came : came_in (value_at groups to) link ≡ (held_over groups from link).taken
  pub later : ComesLater (held_over groups from link) (value_at groups to)

-- a wire without what was under way over it, which has come
abbrev pub handed : WireState → WireState
handed w = record w { taken = came_over w; under_way = [] }

-- a group of which whatever it holds back of any link may come to another
pub record CanHandEach (entries : List ℕ) (links : List LinkEnds) (groups : List GroupValue) (from : ℕ) : Type 0 where
  pub within : from < length groups
  pub comes : (link : ℕ) → link < length links → (place_at links link).node < length entries
  pub wires : length (value_at groups from).held ≡ length links
  pub can : (link : ℕ) → link < length links → is_idle (held_over groups from link) ≡ false → CanHand groups from (to_group entries links link) link

-- they have come, and are outgoing no more
pub record WasHanded (old new : List GroupValue) (from to link : ℕ) : Type 0 where
  pub size : length new ≡ length old
  pub from_is : value_at new from ≡ record (value_at old from) { held = slice_set (value_at old from).held link (handed (held_over old from link)) }
  pub to_is : value_at new to ≡ record (value_at old to) { seats = (value_at new to).seats }
  pub others : (h : ℕ) → h ≢ from → h ≢ to → value_at new h ≡ value_at old h
  pub parts : parts_of (seated (value_at new to).seats) ≡ parts_of (seated (value_at old to).seats)
  pub seats_stay : taken_nodes (value_at new to).seats ≡ taken_nodes (value_at old to).seats
  pub pending : pending_in (value_at new to) ≡ apply (entering (arrivals_on (held_over old from link))) (pending_in (value_at old to))
  pub came : (l : ℕ) → l < length (value_at old to).links → group_to (value_at old to) l ≡ (value_at old to).number → came_in (value_at new to) l ≡ (if l == link then came_over (held_over old from link) else came_in (value_at old to) l)

-- a group's outgoing messages of a link have come to the group at the link's end
pub record HasHandedOne (entries : List ℕ) (links : List LinkEnds) (old new : List GroupValue) (from link : ℕ) : Type 0 where
  pub within : link < length links
  pub busy : is_idle (held_over old from link) ≡ false
  pub was : WasHanded old new from (to_group entries links link) link

-- the groups have their messages, and none is outgoing; their nodes are as they were
pub record HasHanded (entries : List ℕ) (links : List LinkEnds) (old new : List GroupValue) : Type 0 where
  pub size : length new ≡ length old
  pub same : (number : ℕ) → value_at new number ≡ record (value_at old number) { seats = (value_at new number).seats; held = (value_at new number).held }
  pub states : states_of new ≡ groups_delivered (group_in entries) (states_of old)
  pub across : (link : ℕ) → link < length links → from_group entries links link ≢ to_group entries links link → came_in (value_at new (to_group entries links link)) link ≡ (held_over new (from_group entries links link) link).taken
