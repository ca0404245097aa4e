-- What the fault of a group means: why it stands where it is.
use Rattle.std.specs.Prelude.{◌≡◌, ◌≢◌, ◌<◌, ◌+◌, ℕ, length, None}
use Rattle.sim_time.specs.declared.limits.TheConstants.{MOST_EVENTS}
use Rattle.table_run.specs.State.{due}
use Rattle.window_law.specs.Groups.{up_to}
use Rattle.node_group.specs.declared.group.GroupFault.{GroupFault}
use Rattle.node_group.specs.declared.group.GroupFault.TheVariants.{CountFull, NoMemory}
use Rattle.node_group.specs.Group.{GroupValue, state_of}

-- how many events the run had at the last turn, with those that the group ran since
abbrev pub events_of : GroupValue → ℕ
events_of g = g.position + length g.lines

-- why a group stands where it is: an event of it is due below a moment, and there are as many as there may be, or there was no memory for one more
abbrev pub IsFaultAt : ℕ → GroupValue → GroupFault → Type 0
IsFaultAt end g CountFull = (due (up_to end (state_of g)) ≢ None) × (events_of g ≡ MOST_EVENTS)
IsFaultAt end g NoMemory = (due (up_to end (state_of g)) ≢ None) × (events_of g < MOST_EVENTS)
