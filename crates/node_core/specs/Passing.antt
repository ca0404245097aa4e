-- What passes one of a node's links, and what that changes of the node's event queue.
use Rattle.std.specs.Prelude.{◌≡◌, ℕ, List, [], ◌∷◌, ◌++◌, slice_index_or, slice_set, Option, None, Some}
use Rattle.std.specs.FinMap as map
use Rattle.sim_time.specs.declared.key.Key.{Key}
use Rattle.packet_chain.specs.Stamped.{Stamped}
use Rattle.tournament.specs.Keyed.{apply}
use Rattle.port.specs.declared.acts.Act.{Act}
use Rattle.port.specs.Port.{Departure, PortStep, departed}
use Rattle.node_core.specs.declared.timer.Timer.TheVariants.{Free as BecomesFree}
use Rattle.node_core.specs.declared.event.Event.TheVariants.{Free}
use Rattle.node_core.specs.Pending.{EventChange}
use Rattle.node_core.specs.Timers.{timer_number, timer_key, numbered_key, timer_cleared, timer_set}
use Rattle.node_core.specs.EventQueueState.{EventQueueState, timer_event, cleared}
use Rattle.node_core.specs.Part.{LinkState}

-- a link has done this step: what departs is behind those that have left over it, and the acts are behind those before
pub record HasStepped (step : PortStep) (link new : LinkState) (chain filled : List Stamped) (before done : List Act) : Type 0 where
  pub link_is : new ≡ record link { port = step.port }
  pub out_is : filled ≡ chain ++ departed step.departure
  pub acts_are : done ≡ before ++ step.acts

-- the link of an index and a number is busy from now on, where a packet departs over it
abbrev pub busied : ℕ → ℕ → ℕ → Option Departure → List EventChange
busied node index link None = []
busied node index link (Some departure) = (timer_key node (BecomesFree index) departure.free, Some (Free link)) ∷ []

-- the event queue, once this was done at the link of an index
abbrev pub passed : EventQueueState → ℕ → PortStep → EventQueueState
passed event_queue index step = record event_queue {
  timers = slice_set event_queue.timers (timer_number (BecomesFree index)) step.port.next_free;
  pending = apply (busied event_queue.owner.node index step.port.link step.departure) event_queue.pending;
}

-- the event queue, once the event of a key has left
abbrev pub after_take : EventQueueState → Key → EventQueueState
after_take event_queue key = record event_queue { timers = cleared key event_queue.timers; pending = map.remove event_queue.pending key }

-- the event queue, once a timer is set to a time or cleared
abbrev pub moved_to : EventQueueState → ℕ → Option ℕ → EventQueueState
moved_to event_queue number time = record event_queue {
  timers = slice_set event_queue.timers number time;
  pending = apply (timer_cleared (numbered_key event_queue.owner.node number) (slice_index_or event_queue.timers number None) ++ timer_set (numbered_key event_queue.owner.node number) (timer_event event_queue.owner number) time) event_queue.pending;
}
