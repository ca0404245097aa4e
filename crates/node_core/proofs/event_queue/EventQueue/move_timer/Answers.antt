use Rattle.std.proofs.Common.{refl, ◌<◌, length, set, sym, ap, subst, ◌∙◌, arith}
use Rattle.node_core.specs.EventQueueState.{EventQueueState, IsEventQueue}
use Rattle.node_core.specs.EventQueueOf.{owner_of}
use Rattle.node_core.specs.Passing.{moved_to}
use Rattle.node_core.proofs.Slots.{set_ranked, set_pending, length_timed, same_event_queue}
use Rattle.node_core.proofs.event_queue.EventQueue.move_timer.Goals as goal

pub index_mut-requires : goal.index_mut-requires
index_mut-requires c =
    let a = c.self.inside in
    let within : c.args.number < length a.timers.items = subst (λ (s : EventQueueState). c.args.number < length s.timers) (sym c.self.view_is) c.requires in
    omega (arith, within, a.timers.ok.0)

pub set-requires : goal.set-requires
set-requires c =
    let a = c.self.inside in
    let within : c.args.number < length a.timers.items = subst (λ (s : EventQueueState). c.args.number < length s.timers) (sym c.self.view_is) c.requires in
    omega (arith, within, length_timed (owner_of a) a.timers.items a.wires.items a.timetable c.self.invariant)

pub invariant_of-self : goal.invariant_of-self
invariant_of-self c =
    let a = c.self.inside in
    let within : c.args.number < length a.timers.items = subst (λ (s : EventQueueState). c.args.number < length s.timers) (sym c.self.view_is) c.requires in
    subst (IsEventQueue (owner_of a) (set a.timers.items c.args.number c.args.time) a.wires.items) (sym c.set.ensures)
    (set_ranked (owner_of a) a.timers.items a.wires.items a.timetable c.self.invariant c.args.number within c.args.time)

pub returns : goal.returns
returns c =
    let a = c.self.inside in
    let within : c.args.number < length a.timers.items = subst (λ (s : EventQueueState). c.args.number < length s.timers) (sym c.self.view_is) c.requires in
    same_event_queue (owner_of a) refl refl (set_pending (owner_of a) a.timers.items a.wires.items a.timetable c.self.invariant c.args.number within c.args.time)
    ∙ ap (λ (s : EventQueueState). moved_to s c.args.number c.args.time) c.self.view_is
