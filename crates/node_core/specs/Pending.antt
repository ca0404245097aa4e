-- The pending events: one finite map from keys to events, and the changes that an event makes to it.
use Rattle.tournament.specs.Keyed.{Keyed, KeyChange as KeyedChange}
use Rattle.node_core.specs.declared.event.Event.{Event}

-- events under their keys
abbrev pub Events : Type 0
Events = Keyed Event

-- under this key the event is pending from now on, or none is
abbrev pub EventChange : Type 0
EventChange = KeyedChange Event
