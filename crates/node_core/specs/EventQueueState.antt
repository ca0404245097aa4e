-- A node's event queue: what is pending at it, kept in slots, one for each timer and one for each incoming link.
use Rattle.std.specs.Prelude.{◌≡◌, ◌≢◌, ◌<◌, ◌≤◌, ◌+◌, ◌-◌, ◌==◌, ◌^◌, if◌then◌else◌, ℕ, Bool, true, All, EachIndex, List, [], ◌∷◌, ◌++◌, map, length, replicate, slice_index, slice_index_or, slice_set, Option, None, Some}
use Rattle.std.specs.List.{position_or_len}
use Rattle.std.specs.List.Sorted.{IsStrictlyIncreasing}
use Rattle.sim_time.specs.declared.key.Key.{Key}
use Rattle.packet_chain.specs.Stamped.{Stamped}
use Rattle.tournament.specs.Keyed.{next_key, changed, apply, entering, nothing_due, EachKey}
use Rattle.tournament.specs.Gathered.{gathered}
use Rattle.tournament.specs.Timed.{times_of}
use Rattle.node_core.specs.declared.event.Event.{Event}
use Rattle.node_core.specs.declared.event.Event.TheVariants.{Start, Rto, DelAck, Free, Arrive}
use Rattle.node_core.specs.Pending.{Events}
use Rattle.node_core.specs.declared.timer.Timer.{Timer}
use Rattle.node_core.specs.declared.timer.Timer.TheVariants.{Start as FlowStarts, Retransmission, DelayedAcknowledgement}
use Rattle.node_core.specs.Timers.{first_free, timer_number, numbered_key}
use Rattle.node_core.specs.WireState.{WireState, pending_on, came_over, arrivals, stamps_of}

-- an incoming link: its number, and how many packets have come to the node over it, those that are still to be taken among them
pub record Incoming : Type 0 where
  pub link : ℕ
  pub came : ℕ

-- whose timers they are: the node, its flow, and its outgoing links' numbers
pub record Owner : Type 0 where
  pub node : ℕ
  pub flow : ℕ
  pub exits : List ℕ

-- what a timer of a number announces
abbrev pub timer_event : Owner → ℕ → Event
timer_event owner number =
    if number == timer_number FlowStarts then Start owner.flow
    else (if number == timer_number Retransmission then Rto owner.flow
    else (if number == timer_number DelayedAcknowledgement then DelAck owner.flow
    else Free (slice_index_or owner.exits (number - first_free) 0)))

-- when each timer is due, by its number, where it is set; the incoming links in their order; what is pending
pub record EventQueueState : Type 0 where
  pub owner : Owner
  pub timers : List (Option ℕ)
  pub incoming : List Incoming
  pub pending : Events

-- when a timer is due, where it is set
abbrev pub timer_at : EventQueueState → Timer → Option ℕ
timer_at event_queue timer = slice_index_or event_queue.timers (timer_number timer) None

-- what a timer's slot has
abbrev pub timer_map : Owner → ℕ → Option ℕ → Events
timer_map owner number None = nothing_due Event
timer_map owner number (Some time) = changed (nothing_due Event) (numbered_key owner.node number time) (Some (timer_event owner number))

abbrev pub timer_maps : Owner → ℕ → List (Option ℕ) → List Events
timer_maps owner from [] = []
timer_maps owner from (timer ∷ timers) = timer_map owner from timer ∷ timer_maps owner (from + 1) timers

-- the slots: timers, then incoming links
abbrev pub slots : Owner → List (Option ℕ) → List WireState → List Events
slots owner timers wires = timer_maps owner 0 timers ++ map pending_on wires

abbrev pub incoming_of : WireState → Incoming
incoming_of w = record { link = w.link; came = came_over w }

abbrev pub event_queue_state : Owner → List (Option ℕ) → List WireState → EventQueueState
event_queue_state owner timers wires = record { owner = owner; timers = timers; incoming = map incoming_of wires; pending = gathered (slots owner timers wires) }

-- the first place at which a number stands
abbrev pub index_of : List ℕ → ℕ → ℕ
index_of [] x = 0
index_of (y ∷ ys) x = if y == x then 0 else index_of ys x + 1

-- the slot of a key: a timer's number, or behind the timers the place of the link
abbrev pub slot_of : ℕ → List ℕ → Key → ℕ
slot_of timers links key = if key.source == 0 then key.number else timers + index_of links (key.source - 1)

abbrev pub no_wire_here : WireState
no_wire_here = record { node = 0; link = 0; taken = 0; under_way = [] }

abbrev pub wire_of_link : List WireState → ℕ → WireState
wire_of_link wires j = slice_index_or wires j no_wire_here

-- the timetable has the time of each slot's next key, the links' numbers rise, and each link ends at the node
pub record IsEventQueue (owner : Owner) (timers : List (Option ℕ)) (wires : List WireState) (times : List (Option ℕ)) : Type 0 where
  pub ranked : times ≡ times_of (map next_key (slots owner timers wires))
  pub rising : IsStrictlyIncreasing (map (λ (w : WireState). w.link) wires)
  pub at_node : (j : ℕ) → j < length wires → (wire_of_link wires j).node ≡ owner.node

-- the timers after the event of a key: its own is no longer set
abbrev pub cleared : Key → List (Option ℕ) → List (Option ℕ)
cleared key timers = if key.source == 0 then slice_set timers key.number None else timers

abbrev pub no_incoming : Incoming
no_incoming = record { link = 0; came = 0 }

-- the incoming link of an index
abbrev pub incoming_at : List Incoming → ℕ → Incoming
incoming_at incoming index = slice_index_or incoming index no_incoming

-- which of the incoming links has this number, counted from 0; how many there are, where none has
abbrev pub incoming_index : List Incoming → ℕ → ℕ
incoming_index incoming link = position_or_len (λ (over : Incoming). over.link == link) incoming

-- packets can come over the incoming link of an index: it is there, they arrive one after another and behind all that is under way over it, and are not too many
pub record CanArrive (pending : Events) (incoming : List Incoming) (index : ℕ) (sent : List Stamped) : Type 0 where
  pub within : index < length incoming
  pub rising : IsStrictlyIncreasing (stamps_of sent)
  pub later : All (λ stamp. EachKey (λ k. k.source ≡ (incoming_at incoming index).link + 1 → k.time < stamp) pending) (stamps_of sent)
  pub few : (incoming_at incoming index).came + length sent ≤ 2 ^ 50

-- packets come over an incoming link, and are pending from now on
abbrev pub come_over : EventQueueState → ℕ → List Stamped → EventQueueState
come_over event_queue index packets =
    let over = incoming_at event_queue.incoming index in
    record event_queue {
      incoming = slice_set event_queue.incoming index (record over { came = over.came + length packets });
      pending = apply (entering (arrivals event_queue.owner.node over.link over.came packets)) event_queue.pending;
    }

-- links that can end at a node that has so many others: not too many, each with a number that fits, and in rising number
pub record CanComeIn (exits : ℕ) (links : List ℕ) : Type 0 where
  pub few : exits + length links ≤ 4093
  pub fit : EachIndex links (λ j. slice_index links j < 65535)
  pub rising : IsStrictlyIncreasing links

-- packets have come over an incoming link, none is left of them; where others were under way before them, the least key is the one that was
pub record HasCome (old new : EventQueueState) (index : ℕ) (sent left : List Stamped) (behind : Bool) : Type 0 where
  pub state : new ≡ come_over old index sent
  pub emptied : left ≡ []
  pub stays : behind ≡ true → next_key new.pending ≡ next_key old.pending

-- a link over which nothing has come
abbrev pub fresh_wire : ℕ → ℕ → WireState
fresh_wire node link = record { node = node; link = link; taken = 0; under_way = [] }

-- no timer is set, and nothing has come
abbrev pub fresh_event_queue : Owner → List ℕ → EventQueueState
fresh_event_queue owner links = record {
  owner = owner;
  timers = replicate (first_free + length owner.exits) None;
  incoming = map (λ (link : ℕ). record { link = link; came = 0 }) links;
  pending = nothing_due Event;
}

-- the timer of a number is set for this key
pub record IsTimer (event_queue : EventQueueState) (key : Key) (number : ℕ) : Type 0 where
  pub source : key.source ≡ 0
  pub number_is : key.number ≡ number
  pub within : number < length event_queue.timers
  pub set_for : slice_index_or event_queue.timers number None ≡ Some key.time

-- what an event that is the next says of the timers: an arrival is none of them
abbrev pub IsDueAs : EventQueueState → Key → Event → Type 0
IsDueAs event_queue key (Start flow) = IsTimer event_queue key (timer_number FlowStarts)
IsDueAs event_queue key (Rto flow) = IsTimer event_queue key (timer_number Retransmission)
IsDueAs event_queue key (DelAck flow) = IsTimer event_queue key (timer_number DelayedAcknowledgement)
IsDueAs event_queue key (Free link) = (first_free ≤ key.number) × IsTimer event_queue key key.number
IsDueAs event_queue key (Arrive packet) = key.source ≢ 0

-- an event that is the next is the node's own, and a timer or an arrival
pub record IsDue (event_queue : EventQueueState) (key : Key) (event : Event) : Type 0 where
  pub at_node : key.node ≡ event_queue.owner.node
  pub due : IsDueAs event_queue key event
