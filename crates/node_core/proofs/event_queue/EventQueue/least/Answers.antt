use Rattle.std.proofs.Common.{◌≡◌, Some, ◌+◌, ◌-◌, ◌<◌, length, sym, ap, ◌∙◌, arith}
use Rattle.std.proofs.lemmas.List.{get_or_read}
use Rattle.tournament.specs.Keyed.{least}
use Rattle.node_core.specs.WireState.{WireState, pending_on}
use Rattle.node_core.specs.EventQueueState.{EventQueueState, timer_event, no_wire_here, wire_of_link}
use Rattle.node_core.specs.Timers.{numbered_key}
use Rattle.node_core.specs.EventQueueOf.{owner_of}
use Rattle.node_core.proofs.Slots.{none_first, first_timer, first_wire, first_within}
use Rattle.node_core.proofs.event_queue.EventQueue.least.Goals as goal

pub returns-then-slot-timers : goal.returns-then-slot-timers
returns-then-slot-timers c =
    let a = c.self.inside in
    let within : c.in-Some.slot < length a.timers.items = omega (arith, c.if-slot-timers.true, c.len-timers.ensures, a.timers.ok.0) in
    let first = first_timer (owner_of a) a.timers.items a.wires.items a.timetable c.self.invariant c.in-Some.slot c.in-Some.time c.in-Some.ensures within in
    let key : c.timer_key.result ≡ numbered_key a.node c.in-Some.slot c.in-Some.time = c.timer_key.ensures in
    let event : c.announced.result ≡ timer_event (owner_of a) c.in-Some.slot = c.announced.ensures ∙ ap (λ (s : EventQueueState). timer_event s.owner c.in-Some.slot) (sym c.self.view_is) in
    (λ i. Some (key i, event i)) ∙ sym first.least_is ∙ ap (λ (s : EventQueueState). least s.pending) c.self.view_is

pub index-wire-requires : goal.index-wire-requires
index-wire-requires c =
    let a = c.self.inside in
    let within : c.in-Some.slot < length a.timers.items + length a.wires.items = first_within (owner_of a) a.timers.items a.wires.items a.timetable c.self.invariant c.in-Some.slot c.in-Some.time c.in-Some.ensures in
    omega (arith, within, c.if-slot-timers.false, c.len-timers.ensures, a.timers.ok.0, a.wires.ok.0)

pub returns-else-slot-timers : goal.returns-else-slot-timers
returns-else-slot-timers c =
    let a = c.self.inside in
    let j = c.in-Some.slot - c.len-timers.result in
    let at : length a.timers.items + j ≡ c.in-Some.slot = omega (arith, c.if-slot-timers.false, c.len-timers.ensures, a.timers.ok.0) in
    let all : c.in-Some.slot < length a.timers.items + length a.wires.items = first_within (owner_of a) a.timers.items a.wires.items a.timetable c.self.invariant c.in-Some.slot c.in-Some.time c.in-Some.ensures in
    let within : j < length a.wires.items = omega (arith, all, at) in
    let is : c.index-wire.result.now ≡ wire_of_link a.wires.items j = get_or_read a.wires.items j c.index-wire.result.now within c.index-wire.ensures no_wire_here in
    c.head.ensures.least ∙ ap (λ (w : WireState). least (pending_on w)) is
    ∙ sym (first_wire (owner_of a) a.timers.items a.wires.items a.timetable c.self.invariant c.in-Some.slot c.in-Some.time c.in-Some.ensures j at).least_is ∙ ap (λ (s : EventQueueState). least s.pending) c.self.view_is

pub returns-in-None : goal.returns-in-None
returns-in-None c =
    let a = c.self.inside in
    sym (none_first (owner_of a) a.timers.items a.wires.items a.timetable c.self.invariant c.in-None.ensures) ∙ ap (λ (s : EventQueueState). least s.pending) c.self.view_is
