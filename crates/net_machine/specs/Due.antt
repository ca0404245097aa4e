-- The event that is due: where, and when.
use Rattle.sim_time.specs.declared.key.Key.{Key}
use Rattle.node_core.specs.declared.event.Event.{Event}
use Rattle.net_machine.specs.declared.due.Due.{Due}

-- the node at which an event of a key is, and its moment
abbrev pub due_of : Key × Event → Due
due_of entry = record { place = entry.0.node; time = entry.0.time }
