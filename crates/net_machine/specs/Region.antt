-- A region, which is some of a net's nodes: what an event of one of them needs, and what it leaves.
use Rattle.std.specs.Prelude.{◌≡◌, ◌≢◌, ◌<◌, ◌≤◌, ◌+◌, ◌^◌, ℕ, List, [], ◌∷◌, All, length, slice_set, Option, Some, None}
use Rattle.std.specs.List.Sorted.{IsStrictlyIncreasing}
use Rattle.sim_time.specs.declared.key.Key.{Key}
use Rattle.packet_chain.specs.Stamped.{Stamped}
use Rattle.tournament.specs.Keyed.{least, next_key, EachKey}
use Rattle.node_core.specs.declared.event.Event.{Event}
use Rattle.node_core.specs.EventQueueState.{incoming_at}
use Rattle.node_core.specs.WireState.{stamps_of}
use Rattle.node_core.specs.Part.{link_at}
use Rattle.node_core.specs.Row.{Effect, Leaving, row}
use Rattle.node_core.specs.Ready.{IsRunnable}
use Rattle.node_core.specs.TraceLine.{TraceLine}
use Rattle.node_core.specs.Node.{NodeState, fired, delivered}
use Rattle.table_run.specs.State.{line_of}
use Rattle.net_machine.specs.declared.places.LinkEnds.{LinkEnds}
use Rattle.net_machine.specs.Nodes.{node_at}
use Rattle.net_machine.specs.Wiring.{place_at}

-- what an event does at a node, and the node after it
abbrev pub effect_at : List NodeState → ℕ → Key → Event → Effect
effect_at nodes place k v = row (node_at nodes place).part k v

abbrev pub node_after : List NodeState → ℕ → Key → Event → NodeState
node_after nodes place k v = fired (node_at nodes place) k (effect_at nodes place k v)

-- the link over which a packet leaves, and the packet with its arrival
abbrev pub link_left : Effect → Leaving → ℕ
link_left effect leaving = (link_at effect.part.links leaving.index).port.link

abbrev pub packet_left : Leaving → List Stamped
packet_left leaving = (leaving.departure.packet, leaving.departure.arrival) ∷ []

-- a packet leaves by a link of the node, of which there are few, and which is one of the net
pub record IsOver (links : List LinkEnds) (effect : Effect) (leaving : Leaving) : Type 0 where
  pub has_link : leaving.index < length effect.part.links
  pub has_chain : leaving.index < 16
  pub known : link_left effect leaving < length links

-- a node can run its least event
pub record CanRun (links : List LinkEnds) (nodes : List NodeState) (place : ℕ) : Type 0 where
  pub within : place < length nodes
  pub pending : next_key (node_at nodes place).pending ≢ None
  pub runnable : (k : Key) (v : Event) → least (node_at nodes place).pending ≡ Some (k, v) → IsRunnable (node_at nodes place).part k v
  pub few : length (node_at nodes place).part.links ≤ 16
  pub leaves : (k : Key) (v : Event) (leaving : Leaving) → least (node_at nodes place).pending ≡ Some (k, v) → (effect_at nodes place k v).leaving ≡ Some leaving → IsOver links (effect_at nodes place k v) leaving

-- what leaves a node by its least event can go on: then, with that node as it is after the event
abbrev pub CanGoOn : {S : Type 0} → (S → List NodeState) → (S → ℕ → NodeState → S) → (S → ℕ → List Stamped → Type 0) → S → ℕ → Type 0
CanGoOn nodes put can_take s place =
    (k : Key) (v : Event) (leaving : Leaving) → least (node_at (nodes s) place).pending ≡ Some (k, v) → (effect_at (nodes s) place k v).leaving ≡ Some leaving
    → can_take (put s place (node_after (nodes s) place k v)) (link_left (effect_at (nodes s) place k v) leaving) (packet_left leaving)

-- what left, if anything, has gone on
abbrev pub GoneOn : {S : Type 0} → (S → ℕ → List Stamped → S → Type 0) → Effect → Option Leaving → S → S → Type 0
GoneOn takes effect None s new = new ≡ s
GoneOn takes effect (Some leaving) s new = takes s (link_left effect leaving) (packet_left leaving) new

-- a node of a region has run its least event, which was told, and what left it has gone on
pub record HasHappened {S : Type 0} (nodes : S → List NodeState) (put : S → ℕ → NodeState → S) (takes : S → ℕ → List Stamped → S → Type 0) (old new : S) (place : ℕ) (line : TraceLine) : Type 0 where
  pub is_least : least (node_at (nodes old) place).pending ≡ Some (line.key, line.event)
  pub reported : line ≡ line_of (line.key, line.event) (effect_at (nodes old) place line.key line.event)
  pub goes : GoneOn takes (effect_at (nodes old) place line.key line.event) (effect_at (nodes old) place line.key line.event).leaving (put old place (node_after (nodes old) place line.key line.event)) new

-- packets can come to the end of a link, after all that came over it
pub record CanCome (links : List LinkEnds) (nodes : List NodeState) (link : ℕ) (packets : List Stamped) : Type 0 where
  pub there : (place_at links link).node < length nodes
  pub within : (place_at links link).index < length (node_at nodes (place_at links link).node).incoming
  pub rising : IsStrictlyIncreasing (stamps_of packets)
  pub later : All (λ stamp. EachKey (λ k. k.source ≡ (incoming_at (node_at nodes (place_at links link).node).incoming (place_at links link).index).link + 1 → k.time < stamp) (node_at nodes (place_at links link).node).pending) (stamps_of packets)
  pub few : (incoming_at (node_at nodes (place_at links link).node).incoming (place_at links link).index).came + length packets ≤ 2 ^ 50

-- they have come there
abbrev pub come_over : List LinkEnds → List NodeState → ℕ → List Stamped → List NodeState
come_over links nodes link packets = slice_set nodes (place_at links link).node (delivered (node_at nodes (place_at links link).node) (place_at links link).index packets)
