-- What a group holds back: for each link of the net the packets that left over it for another group, since the last turn.
use Rattle.std.specs.Prelude.{◌≡◌, ◌==◌, ◌<◌, ◌≤◌, ◌+◌, ◌^◌, ℕ, Bool, true, false, List, [], All, map as each, count_by, length, slice_index_or, slice_set}
use Rattle.std.specs.List.{Contains}
use Rattle.std.specs.List.Sorted.{IsStrictlyIncreasing}
use Rattle.packet_chain.specs.Stamped.{Stamped}
use Rattle.tournament.specs.Gathered.{gathered}
use Rattle.node_core.specs.Pending.{Events}
use Rattle.node_core.specs.WireState.{WireState, came_over, pending_on, stamps_of}

abbrev pub no_wire : WireState
no_wire = record { node = 0; link = 0; taken = 0; under_way = [] }

abbrev pub wire_at : List WireState → ℕ → WireState
wire_at wires link = slice_index_or wires link no_wire

-- all outgoing messages, which are arrivals, under their keys
abbrev pub held_on : List WireState → Events
held_on wires = gathered (each pending_on wires)

-- the wires are those of the links, by number
abbrev pub AreByLink : List WireState → Type 0
AreByLink wires = (link : ℕ) → link < length wires → (wire_at wires link).link ≡ link

-- whether nothing is under way over a wire
abbrev pub is_idle : WireState → Bool
is_idle w = length w.under_way == 0

-- each wire over which something is under way is in the list of these links, and there is room in it for each other one
pub record AreListed (wires : List WireState) (links : List ℕ) (room : ℕ) : Type 0 where
  pub by_link : AreByLink wires
  pub known : All (λ link. link < length wires) links
  pub listed : (link : ℕ) → link < length wires → is_idle (wire_at wires link) ≡ false → Contains links link
  pub fits : length links + count_by is_idle wires ≤ room

-- nothing is under way over any wire
abbrev pub WiresAreEmpty : List WireState → Type 0
WiresAreEmpty wires = (link : ℕ) → link < length wires → is_idle (wire_at wires link) ≡ true

-- these packets were under way over a link, and now nothing is
pub record IsReleased (old new : List WireState) (link : ℕ) (packets : List Stamped) : Type 0 where
  pub within : link < length old
  pub busy : is_idle (wire_at old link) ≡ false
  pub packets_are : packets ≡ (wire_at old link).under_way
  pub rising : IsStrictlyIncreasing (stamps_of packets)
  pub few : came_over (wire_at old link) ≤ 2 ^ 50
  pub wires : new ≡ slice_set old link (record (wire_at old link) { taken = came_over (wire_at old link); under_way = [] })
