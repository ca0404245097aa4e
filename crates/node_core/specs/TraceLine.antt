-- What a line of the trace shows, the room for further acts aside.
use Rattle.std.specs.Prelude.{◌≡◌, List, []}
use Rattle.sim_time.specs.declared.key.Key.{Key}
use Rattle.port.specs.declared.acts.Act.{Act}
use Rattle.node_core.specs.declared.event.Event.{Event}
use Rattle.node_core.specs.declared.line.After.{After}
use Rattle.node_core.specs.declared.event.Event.TheVariants.{Start}
use Rattle.node_core.specs.declared.line.After.TheVariants.{AtRouter}
use Rattle.node_core.specs.declared.line.Line.{Line}

-- an event with its key, the state of its node after it, and what it did
pub record TraceLine : Type 0 where
  pub key : Key
  pub event : Event
  pub after : After
  pub acts : List Act

abbrev pub shown : Line → TraceLine
shown line = record { key = line.key; event = line.event; after = line.after; acts = line.acts.acts }

-- a line's event, with its key, is the one that it was
pub record IsSameEvent (key new_key : Key) (event new_event : Event) : Type 0 where
  pub key_is : new_key ≡ key
  pub event_is : new_event ≡ event

-- a line to be filled
abbrev pub blank : TraceLine
blank = record { key = record { time = 0; node = 0; source = 0; number = 0 }; event = Start 0; after = AtRouter; acts = [] }
