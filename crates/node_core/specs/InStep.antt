-- A node's timers, as what it does and its links have them.
use Rattle.std.specs.Prelude.{◌≡◌, ◌<◌, ◌≤◌, ℕ, List, ◌∷◌, length, map, slice_index_or, Option, None}
use Rattle.node_core.specs.declared.role.Role.{Role}
use Rattle.node_core.specs.declared.role.Role.TheVariants.{Sends, Receives, Routes}
use Rattle.node_core.specs.Part.{LinkState}
use Rattle.node_core.specs.EventQueueState.{EventQueueState}

abbrev pub flow_of : Role → ℕ
flow_of (Sends flow fields) = flow
flow_of (Receives flow state) = flow
flow_of (Routes table) = 0

-- when the retransmission timer ends: at a sender only
abbrev pub rto_deadline : Role → Option ℕ
rto_deadline (Sends flow fields) = fields.deadline
rto_deadline (Receives flow state) = None
rto_deadline (Routes table) = None

-- when a delayed acknowledgement is due: at a receiver only
abbrev pub delayed_of : Role → Option ℕ
delayed_of (Sends flow fields) = None
delayed_of (Receives flow state) = state.timer
delayed_of (Routes table) = None

-- a sender and a receiver have a link
abbrev pub HasItsLink : Role → List LinkState → Type 0
HasItsLink (Sends flow fields) links = 0 < length links
HasItsLink (Receives flow state) links = 0 < length links
HasItsLink (Routes table) links = Unit {0}

-- when each link is free again
abbrev pub frees_of : List LinkState → List (Option ℕ)
frees_of = map (λ (link : LinkState). link.port.next_free)

abbrev pub numbers_of : List LinkState → List ℕ
numbers_of = map (λ (link : LinkState). link.port.link)

-- the timers by their numbers, where the flow's start is this
abbrev pub timers_of : Option ℕ → Role → List LinkState → List (Option ℕ)
timers_of start role links = start ∷ rto_deadline role ∷ delayed_of role ∷ frees_of links

-- the timers are the start, the sender's deadline, the receiver's timer and when each link is free; the owner is the node with its flow and its links' numbers, of which there are not too many
pub record IsInStep (role : Role) (links : List LinkState) (event_queue : EventQueueState) : Type 0 where
  pub timers : event_queue.timers ≡ timers_of (slice_index_or event_queue.timers 0 None) role links
  pub exits : event_queue.owner.exits ≡ numbers_of links
  pub flow : event_queue.owner.flow ≡ flow_of role
  pub linked : HasItsLink role links
  pub few : length links ≤ 1024
