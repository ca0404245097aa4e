-- A wire: what a link has sent and has not arrived.
use Rattle.std.specs.Prelude.{◌≤◌, ◌<◌, ◌+◌, ◌^◌, ℕ, List, [], ◌∷◌, length, map}
use Rattle.std.specs.List.Sorted.{IsStrictlyIncreasing}
use Rattle.sim_time.specs.declared.key.Key.{Key}
use Rattle.packet_chain.specs.Stamped.{Stamped}
use Rattle.tournament.specs.Keyed.{map_of_keys}
use Rattle.node_core.specs.declared.event.Event.{Event}
use Rattle.node_core.specs.declared.event.Event.TheVariants.{Arrive}
use Rattle.node_core.specs.Pending.{Events}
use Rattle.node_core.specs.Timers.{arrival_key}

-- the node at its end, the link, how many packets have arrived, and the others with the moments at which they arrive
pub record WireState : Type 0 where
  pub node : ℕ
  pub link : ℕ
  pub taken : ℕ
  pub under_way : List Stamped

-- when packets arrive
abbrev pub stamps_of : List Stamped → List ℕ
stamps_of = map (λ packet. packet.1)

-- the arrivals of packets, after so many others
abbrev pub arrivals : ℕ → ℕ → ℕ → List Stamped → List (Key × Event)
arrivals node link before [] = []
arrivals node link before (first ∷ rest) = (arrival_key node link first.1 (before + 1), Arrive first.0) ∷ arrivals node link (before + 1) rest

abbrev pub arrivals_on : WireState → List (Key × Event)
arrivals_on w = arrivals w.node w.link w.taken w.under_way

-- the arrivals as a map
abbrev pub pending_on : WireState → Events
pending_on w = map_of_keys (arrivals_on w)

-- how many packets have come onto it
abbrev pub came_over : WireState → ℕ
came_over w = w.taken + length w.under_way

-- the first packet has arrived
abbrev pub without_first_arrival : WireState → List Stamped → WireState
without_first_arrival w [] = w
without_first_arrival w (first ∷ rest) = record w { taken = w.taken + 1; under_way = rest }

abbrev pub after_pop : WireState → WireState
after_pop w = without_first_arrival w w.under_way

-- arrivals strictly rise, and the numbers of their keys fit
pub record IsWire (w : WireState) : Type 0 where
  pub rising : IsStrictlyIncreasing (stamps_of w.under_way)
  pub link : w.link < 65535
  pub count : came_over w ≤ 2 ^ 50
