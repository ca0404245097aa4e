use Rattle.std.proofs.Common.{◌≡◌, Some, None, Option, ◌+◌, ◌-◌, ◌<◌, length, sym, ap, subst, ◌∙◌, arith, IsSome, rules}
use Rattle.std.specs.Option.{option_map}
use Rattle.sim_time.specs.declared.key.Key.{Key}
use Rattle.node_core.specs.declared.event.Event.{Event}
use Rattle.tournament.proofs.Maps.{same_some}
use Rattle.std.proofs.lemmas.List.{get_or_read}
use Rattle.tournament.specs.Keyed.{least, next_key}
use Rattle.node_core.specs.WireState.{WireState, pending_on}
use Rattle.node_core.specs.EventQueueState.{EventQueueState, IsDue, timer_event, no_wire_here, wire_of_link}
use Rattle.node_core.specs.Timers.{numbered_key}
use Rattle.node_core.specs.EventQueueOf.{owner_of, event_queue_of}
use Rattle.node_core.proofs.Slots.{none_first, first_timer, first_wire, first_within, timer_is_due, wire_is_due}
use Rattle.node_core.proofs.event_queue.EventQueue.tell_least.Goals as goal

pub returns-then-slot-timers-clause-value : goal.returns-then-slot-timers-clause-value
returns-then-slot-timers-clause-value c =
    let a = c.self.inside in
    let within : c.leader-slot.result.0 < length a.timers.items = omega (arith, c.if-slot-timers.true, c.len-timers.ensures, a.timers.ok.0) in
    let key : numbered_key a.node c.leader-slot.result.0 c.leader-slot.result.1 ≡ c.timer_key.result = sym c.timer_key.ensures in
    let event : timer_event (owner_of a) c.leader-slot.result.0 ≡ c.announced.result = ap (λ (s : EventQueueState). timer_event s.owner c.leader-slot.result.0) c.self.view_is ∙ sym c.announced.ensures in
    ap (λ (s : EventQueueState). least s.pending) (sym c.self.view_is)
    ∙ (first_timer (owner_of a) a.timers.items a.wires.items a.timetable c.self.invariant c.leader-slot.result.0 c.leader-slot.result.1 c.leader-slot.ensures within).least_is
    ∙ (λ i. Some (key i, event i))

pub returns-then-slot-timers-clause-due : goal.returns-then-slot-timers-clause-due
returns-then-slot-timers-clause-due c =
    let a = c.self.inside in
    let within : c.leader-slot.result.0 < length a.timers.items = omega (arith, c.if-slot-timers.true, c.len-timers.ensures, a.timers.ok.0) in
    let first = first_timer (owner_of a) a.timers.items a.wires.items a.timetable c.self.invariant c.leader-slot.result.0 c.leader-slot.result.1 c.leader-slot.ensures within in
    let key : numbered_key a.node c.leader-slot.result.0 c.leader-slot.result.1 ≡ c.timer_key.result = sym c.timer_key.ensures in
    let event : timer_event (owner_of a) c.leader-slot.result.0 ≡ c.announced.result = ap (λ (s : EventQueueState). timer_event s.owner c.leader-slot.result.0) c.self.view_is ∙ sym c.announced.ensures in
    subst (λ (s : EventQueueState). IsDue s c.timer_key.result c.announced.result) c.self.view_is
    (subst (λ (k : Key). IsDue (event_queue_of a) k c.announced.result) key
    (subst (IsDue (event_queue_of a) (numbered_key a.node c.leader-slot.result.0 c.leader-slot.result.1)) event (timer_is_due (owner_of a) a.timers.items a.wires.items c.leader-slot.result.0 c.leader-slot.result.1 within first)))

pub index-wire-requires : goal.index-wire-requires
index-wire-requires c =
    let a = c.self.inside in
    let within : c.leader-slot.result.0 < length a.timers.items + length a.wires.items = first_within (owner_of a) a.timers.items a.wires.items a.timetable c.self.invariant c.leader-slot.result.0 c.leader-slot.result.1 c.leader-slot.ensures in
    omega (arith, within, c.if-slot-timers.false, c.len-timers.ensures, a.timers.ok.0, a.wires.ok.0)

pub tell_head-requires : goal.tell_head-requires
tell_head-requires c =
    let a = c.self.inside in
    let j = c.leader-slot.result.0 - c.len-timers.result in
    let at : length a.timers.items + j ≡ c.leader-slot.result.0 = omega (arith, c.if-slot-timers.false, c.len-timers.ensures, a.timers.ok.0) in
    let all : c.leader-slot.result.0 < length a.timers.items + length a.wires.items = first_within (owner_of a) a.timers.items a.wires.items a.timetable c.self.invariant c.leader-slot.result.0 c.leader-slot.result.1 c.leader-slot.ensures in
    let within : j < length a.wires.items = omega (arith, all, at) in
    let is : c.index-wire.result.now ≡ wire_of_link a.wires.items j = get_or_read a.wires.items j c.index-wire.result.now within c.index-wire.ensures no_wire_here in
    let first = first_wire (owner_of a) a.timers.items a.wires.items a.timetable c.self.invariant c.leader-slot.result.0 c.leader-slot.result.1 c.leader-slot.ensures j at in
    let there = ap (λ (w : WireState). least (pending_on w)) is ∙ first.entry in
    made (least (pending_on c.index-wire.result.now)) (first.key, first.event) there
  where
    made : (o : Option (Key × Event)) (x : Key × Event) → o ≡ Some x → IsSome o
    made o x e = search rules

pub returns-clause-value : goal.returns-clause-value
returns-clause-value c =
    let a = c.self.inside in
    let j = c.leader-slot.result.0 - c.len-timers.result in
    let at : length a.timers.items + j ≡ c.leader-slot.result.0 = omega (arith, c.if-slot-timers.false, c.len-timers.ensures, a.timers.ok.0) in
    let all : c.leader-slot.result.0 < length a.timers.items + length a.wires.items = first_within (owner_of a) a.timers.items a.wires.items a.timetable c.self.invariant c.leader-slot.result.0 c.leader-slot.result.1 c.leader-slot.ensures in
    let within : j < length a.wires.items = omega (arith, all, at) in
    let is : c.index-wire.result.now ≡ wire_of_link a.wires.items j = get_or_read a.wires.items j c.index-wire.result.now within c.index-wire.ensures no_wire_here in
    ap (λ (s : EventQueueState). least s.pending) (sym c.self.view_is)
    ∙ (first_wire (owner_of a) a.timers.items a.wires.items a.timetable c.self.invariant c.leader-slot.result.0 c.leader-slot.result.1 c.leader-slot.ensures j at).least_is
    ∙ ap (λ (w : WireState). least (pending_on w)) (sym is) ∙ c.tell_head.ensures

pub returns-clause-due : goal.returns-clause-due
returns-clause-due c =
    let a = c.self.inside in
    let j = c.leader-slot.result.0 - c.len-timers.result in
    let at : length a.timers.items + j ≡ c.leader-slot.result.0 = omega (arith, c.if-slot-timers.false, c.len-timers.ensures, a.timers.ok.0) in
    let all : c.leader-slot.result.0 < length a.timers.items + length a.wires.items = first_within (owner_of a) a.timers.items a.wires.items a.timetable c.self.invariant c.leader-slot.result.0 c.leader-slot.result.1 c.leader-slot.ensures in
    let within : j < length a.wires.items = omega (arith, all, at) in
    let is : c.index-wire.result.now ≡ wire_of_link a.wires.items j = get_or_read a.wires.items j c.index-wire.result.now within c.index-wire.ensures no_wire_here in
    let first = first_wire (owner_of a) a.timers.items a.wires.items a.timetable c.self.invariant c.leader-slot.result.0 c.leader-slot.result.1 c.leader-slot.ensures j at in
    let k = c.tell_head.new.key in
    let v = c.tell_head.new.event in
    let same : ◌≡◌ {A = Key × Event} (first.key, first.event) (k, v) = same_some {A = Key × Event} (first.key, first.event) (k, v)
    (sym first.entry ∙ ap (λ (w : WireState). least (pending_on w)) (sym is) ∙ c.tell_head.ensures) in
    subst (λ (s : EventQueueState). IsDue s k v) c.self.view_is
    (subst (λ (entry : Key × Event). IsDue (event_queue_of a) entry.0 entry.1) same (wire_is_due (owner_of a) a.timers.items a.wires.items j first))

pub leader-slot-requires : goal.leader-slot-requires
leader-slot-requires c = λ none.
    let a = c.self.inside in
    c.requires (subst (λ (s : EventQueueState). next_key s.pending ≡ None) c.self.view_is
    (ap (option_map (λ (entry : Key × Event). entry.0)) (none_first (owner_of a) a.timers.items a.wires.items a.timetable c.self.invariant none)))
