-- What has been done at a node once an event is carried out.
use Rattle.std.specs.Prelude.{◌≡◌, ◌<◌, ◌≤◌, ℕ, List, ◌∷◌, ◌++◌, All, length, slice_set, Option, None, Some}
use Rattle.std.specs.Option.{option_map}
use Rattle.std.specs.List.{AllByRecursion}
use Rattle.sim_time.specs.Moment.{IsMoment}
use Rattle.sim_time.specs.declared.key.Key.{Key}
use Rattle.sim_time.specs.declared.limits.TheConstants.{MOST_EVENTS}
use Rattle.packet_chain.specs.Stamped.{Stamped}
use Rattle.tournament.specs.Keyed.{least, next_key}
use Rattle.port.specs.declared.acts.Act.{Act}
use Rattle.port.specs.Port.{PortStep, offered_all, taken}
use Rattle.node_core.specs.declared.timer.Timer.TheVariants.{Start as FlowStarts, Retransmission, DelayedAcknowledgement}
use Rattle.node_core.specs.declared.decision.Decision.{Decision}
use Rattle.node_core.specs.declared.decision.Decision.TheVariants.{Leave, PassOn, TakeNext, Send}
use Rattle.node_core.specs.declared.event.Event.{Event}
use Rattle.node_core.specs.Timers.{timer_number}
use Rattle.node_core.specs.EventQueueState.{EventQueueState, IsDueAs, timer_at}
use Rattle.node_core.specs.Decided.{arriving, sent_by_end}
use Rattle.node_core.specs.InStep.{IsInStep, frees_of, numbers_of}
use Rattle.node_core.specs.declared.line.Line.{Line}
use Rattle.node_core.specs.declared.role.Role.{Role}
use Rattle.node_core.specs.Node.{put_out}
use Rattle.node_core.specs.Part.{LinkState, link_at}
use Rattle.node_core.specs.Passing.{passed, after_take, moved_to}
use Rattle.node_core.specs.Ready.{CanHandle, LinkCan}
use Rattle.node_core.specs.Row.{Leaving, leaving_over, row}
use Rattle.node_core.specs.Running.{HasRun, part}
use Rattle.node_core.specs.TraceLine.{IsSameEvent}

-- the event of a key is the next, the event queue is in step with the links, sums stay in their types, and what leaves has a chain with room
pub record IsNextEvent (key : Key) (event : Event) (links : List LinkState) (event_queue : EventQueueState) (chains : List (List Stamped)) : Type 0 where
  pub moment : IsMoment key.time
  pub is_least : least event_queue.pending ≡ Some (key, event)
  pub next : next_key event_queue.pending ≡ Some key
  pub at_node : key.node ≡ event_queue.owner.node
  pub due : IsDueAs event_queue key event
  pub timers : event_queue.timers ≡ timer_at event_queue FlowStarts ∷ timer_at event_queue Retransmission ∷ timer_at event_queue DelayedAcknowledgement ∷ frees_of links
  pub exits : event_queue.owner.exits ≡ numbers_of links
  pub few : length links ≤ 1024
  pub can : AllByRecursion LinkCan links
  pub chained : length links ≤ length chains
  pub room : All (λ chain. length chain < MOST_EVENTS) chains

-- packets have passed the link of an index; the event queue was this, once the event had left and the timer had moved
pub record HasPassed (index : ℕ) (step : PortStep) (links new : List LinkState) (middle after : EventQueueState) (chains filled : List (List Stamped)) (before done : List Act) (left : Option ℕ) : Type 0 where
  pub links_are : new ≡ slice_set links index (record (link_at links index) { port = step.port })
  pub event_queue_is : after ≡ passed middle index step
  pub out_is : filled ≡ put_out (leaving_over index step.departure) chains
  pub acts_are : done ≡ before ++ step.acts
  pub left_is : left ≡ option_map (λ (leaving : Leaving). leaving.index) (leaving_over index step.departure)

-- nothing has been done but that the event has left
pub record HasLeft (links new : List LinkState) (middle after : EventQueueState) (chains filled : List (List Stamped)) (before done : List Act) (left : Option ℕ) : Type 0 where
  pub links_are : new ≡ links
  pub event_queue_is : after ≡ middle
  pub out_is : filled ≡ chains
  pub acts_are : done ≡ before
  pub left_is : left ≡ None

-- what was decided of an event has been done
abbrev pub IsCarriedOut : Key → Event → Decision → List LinkState → List LinkState → EventQueueState → EventQueueState → List (List Stamped) → List (List Stamped) → List Act → List Act → Option ℕ → Type 0
IsCarriedOut key event Leave links new event_queue after chains filled before done left = HasLeft links new (after_take event_queue key) after chains filled before done left
IsCarriedOut key event (PassOn index) links new event_queue after chains filled before done left =
    HasPassed index (offered_all key.time (link_at links index).port (arriving event)) links new (after_take event_queue key) after chains filled before done left
IsCarriedOut key event (TakeNext index) links new event_queue after chains filled before done left =
    HasPassed index (taken key.time (link_at links index).port) links new (after_take event_queue key) after chains filled before done left
IsCarriedOut key event (Send sending) links new event_queue after chains filled before done left =
    HasPassed 0 (offered_all key.time (link_at links 0).port (sent_by_end sending)) links new (moved_to (after_take event_queue key) (timer_number sending.timer) sending.time) after chains filled before done left

-- the event of a key is the next at a node, and can be run
pub record CanFire (role : Role) (links : List LinkState) (event_queue : EventQueueState) (key : Key) (event : Event) (chains : List (List Stamped)) : Type 0 where
  pub in_step : IsInStep role links event_queue
  pub next : IsNextEvent key event links event_queue chains
  pub runs : CanHandle (part role links) key.time event

-- the event of a line has been run: what is left of its node and of the chains, what the line tells, and over which link a packet left
pub record EventIsRun (role new : Role) (links all : List LinkState) (before after : EventQueueState) (chains filled : List (List Stamped)) (line reported : Line) (left : Option ℕ) : Type 0 where
  pub has_run : HasRun line.key (row (part role links) line.key line.event) new all before after chains filled
  pub did : reported.acts.acts ≡ line.acts.acts ++ (row (part role links) line.key line.event).acts
  pub leaves : left ≡ option_map (λ (leaving : Leaving). leaving.index) (row (part role links) line.key line.event).leaving
  pub same_event : IsSameEvent line.key reported.key line.event reported.event
