use Rattle.std.proofs.Common.{sym, ap, ◌∙◌}
use Rattle.tournament.specs.Keyed.{next_key}
use Rattle.tournament.specs.Timed.{time_of}
use Rattle.node_core.specs.EventQueueState.{EventQueueState}
use Rattle.node_core.specs.EventQueueOf.{owner_of}
use Rattle.node_core.proofs.Slots.{first_time, none_time}
use Rattle.node_core.proofs.event_queue.EventQueue.next_time.Goals as goal

pub returns-in-Some : goal.returns-in-Some
returns-in-Some c =
    let a = c.self.inside in
    sym (first_time (owner_of a) a.timers.items a.wires.items a.timetable c.self.invariant c.in-Some.field-0-0 c.in-Some.time c.in-Some.ensures) ∙ ap (λ (s : EventQueueState). time_of (next_key s.pending)) c.self.view_is

pub returns-in-None : goal.returns-in-None
returns-in-None c =
    let a = c.self.inside in
    sym (none_time (owner_of a) a.timers.items a.wires.items a.timetable c.self.invariant c.in-None.ensures) ∙ ap (λ (s : EventQueueState). time_of (next_key s.pending)) c.self.view_is
