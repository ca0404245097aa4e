-- The state that an event queue's fields are.
use Rattle.node_core.specs.declared.event_queue.EventQueue.TheInside.{Inside}
use Rattle.node_core.specs.EventQueueState.{Owner, EventQueueState, event_queue_state, IsEventQueue}

abbrev pub owner_of : Inside → Owner
owner_of a = record { node = a.node; flow = a.flow; exits = a.exits.items }

abbrev pub event_queue_of : Inside → EventQueueState
event_queue_of a = event_queue_state (owner_of a) a.timers.items a.wires.items

abbrev pub IsEventQueueInside : Inside → Type 0
IsEventQueueInside a = IsEventQueue (owner_of a) a.timers.items a.wires.items a.timetable
