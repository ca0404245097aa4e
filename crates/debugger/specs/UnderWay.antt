-- How many packets of each flow are known to be under way, and where that tells that no flow becomes stalled.
use Rattle.std.specs.Prelude.{◌≡◌, ◌≢◌, ◌==◌, ◌≤◌, ℕ, ◌+◌, ◌-◌, min, nat_lt, Bool, true, false, not, ◌&&◌, ◌||◌, List, [], ◌∷◌, length, slice_index_or, slice_set, Option, None, Some, ⊤}
use Rattle.std.specs.List.{list_any, AllByRecursion}
use Rattle.std.specs.FinMap as map
use Rattle.sim_time.specs.declared.key.Key.{Key}
use Rattle.packet_chain.specs.declared.packet.Packet.{Packet}
use Rattle.port.specs.declared.acts.Act.{Act}
use Rattle.port.specs.declared.acts.Act.TheVariants.{Tx, Dropped}
use Rattle.node_core.specs.declared.event.Event.{Event}
use Rattle.node_core.specs.declared.event.Event.TheVariants.{Start, Rto, DelAck, Free, Arrive}
use Rattle.node_core.specs.declared.line.After.{After}
use Rattle.node_core.specs.declared.line.After.TheVariants.{AtSender, AtReceiver, AtRouter}
use Rattle.node_core.specs.TraceLine.{TraceLine}
use Rattle.table_run.specs.State.{State}
use Rattle.breakpoints.specs.Breaks.{is_drop}

-- a packet of a flow is pending to arrive under a key
abbrev pub ArrivesUnder : ℕ → State → Key → Type 0
ArrivesUnder flow s q = (x : Packet) × (map.get s.pending q ≡ Some (Arrive x)) × ((x.flow == flow) ≡ true)

-- no key is there twice
abbrev pub KeysAreApart : List Key → Type 0
KeysAreApart [] = ⊤
KeysAreApart (q ∷ qs) = AllByRecursion (λ r. q ≢ r) qs × KeysAreApart qs

-- so many packets of a flow at least are under way
pub record HasUnderWay (flow count : ℕ) (s : State) : Type 0 where
  pub keys : List Key
  pub enough : count ≤ length keys
  pub apart : KeysAreApart keys
  pub each : AllByRecursion (ArrivesUnder flow s) keys

-- of each flow as many are under way as are counted, or more
abbrev pub AreUnderWay : List ℕ → State → Type 0
AreUnderWay counts s = (flow : ℕ) → HasUnderWay flow (slice_index_or counts flow 0) s

-- one fewer of a flow
abbrev pub one_less : List ℕ → ℕ → List ℕ
one_less counts flow = slice_set counts flow (slice_index_or counts flow 0 - 1)

-- one more, up to what a word holds
abbrev pub one_more_packet : List ℕ → ℕ → List ℕ
one_more_packet counts flow = slice_set counts flow (min (slice_index_or counts flow 0 + 1) 18446744073709551615)

-- a packet that arrives is no more under way
abbrev pub after_event : List ℕ → Event → List ℕ
after_event counts (Start flow) = counts
after_event counts (Rto flow) = counts
after_event counts (DelAck flow) = counts
after_event counts (Free link) = counts
after_event counts (Arrive packet) = one_less counts packet.flow

-- the flow of the packet that begins to be sent
abbrev pub sent_flow : List Act → Option ℕ
sent_flow [] = None
sent_flow (Tx link packet ∷ acts) = Some packet.flow
sent_flow (Dropped link reason packet ∷ acts) = sent_flow acts

-- it is under way
abbrev pub after_sending : List ℕ → Option ℕ → List ℕ
after_sending counts None = counts
after_sending counts (Some flow) = one_more_packet counts flow

-- what is counted after a line
abbrev pub counts_after : List ℕ → TraceLine → List ℕ
counts_after counts line = after_sending (after_event counts line.event) (sent_flow line.acts)

-- a packet of a flow is known to be under way
abbrev pub is_known : List ℕ → ℕ → Bool
is_known counts flow = nat_lt 0 (slice_index_or counts flow 0)

abbrev pub is_at_router : After → Bool
is_at_router (AtSender fields) = false
is_at_router (AtReceiver next) = false
is_at_router AtRouter = true

-- a packet that comes to a router, which drops none, goes on: it waits there, or begins to be sent
abbrev pub is_passed_on : After → List Act → Bool
is_passed_on after acts = is_at_router after && not (list_any is_drop acts)

-- what is counted tells that no flow becomes stalled by an event: its own flow goes on, or it leaves no flow with less
abbrev pub leaves_moving : List ℕ → After → List Act → Event → Bool
leaves_moving counts after acts (Start flow) = is_known counts flow
leaves_moving counts after acts (Rto flow) = true
leaves_moving counts after acts (DelAck flow) = true
leaves_moving counts after acts (Free link) = not (list_any is_drop acts)
leaves_moving counts after acts (Arrive packet) = is_known counts packet.flow || is_passed_on after acts

-- the flow of the packet whose arrival an event is
abbrev pub arriving_flow : Event → Option ℕ
arriving_flow (Start flow) = None
arriving_flow (Rto flow) = None
arriving_flow (DelAck flow) = None
arriving_flow (Free link) = None
arriving_flow (Arrive packet) = Some packet.flow

-- each packet whose arrival is pending is counted
abbrev pub all_counted : List ℕ → List (Key × Event) → List ℕ
all_counted counts [] = counts
all_counted counts (entry ∷ pending) = all_counted (after_sending counts (arriving_flow entry.1)) pending
