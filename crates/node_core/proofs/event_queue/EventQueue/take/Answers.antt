use Rattle.std.proofs.Common.{◌≡◌, ◌+◌, ◌-◌, ◌<◌, [], ◌∷◌, None, length, set, refl, sym, ap, subst, ◌∙◌, arith}
use Rattle.std.proofs.lemmas.List.{get_or_read}
use Rattle.std.proofs.Math.Seq.{map-set_same}
use Rattle.std.specs.FinMap as fin
use Rattle.std.specs.Option.{option_map}
use Rattle.tournament.specs.Gathered.{gathered}
use Rattle.tournament.specs.Timed.{time_of}
use Rattle.tournament.specs.Keyed.{least, next_key}
use Rattle.tournament.proofs.Maps.{not_some, same_some}
use Rattle.sim_time.specs.declared.key.Key.{Key}
use Rattle.node_core.specs.declared.event.Event.{Event}
use Rattle.node_core.specs.declared.event.Event.TheVariants.{Arrive}
use Rattle.node_core.specs.WireState.{WireState, pending_on, after_pop}
use Rattle.node_core.specs.EventQueueState.{EventQueueState, IsEventQueue, slots, timer_event, no_wire_here, wire_of_link, cleared, incoming_of}
use Rattle.node_core.specs.Timers.{numbered_key}
use Rattle.node_core.specs.EventQueueOf.{owner_of}
use Rattle.node_core.proofs.Wires.{popped_node, popped_link, popped_came}
use Rattle.node_core.proofs.Slots.{length_timed, none_first, first_timer, first_wire, wire_key, first_within, set_ranked, wire_ranked, wire_pending, cleared_timer, cleared_wire, same_event_queue, same_incoming, timer_is_no_arrival}
use Rattle.node_core.proofs.event_queue.EventQueue.take.Goals as goal

pub leader-slot-requires : goal.leader-slot-requires
leader-slot-requires c = λ none.
    let a = c.self.inside in
    not_some (ap (option_map (λ (entry : Key × Event). entry.0)) (sym (none_first (owner_of a) a.timers.items a.wires.items a.timetable c.self.invariant none)) ∙ ap (λ (s : EventQueueState). next_key s.pending) c.self.view_is ∙ c.requires)

pub index_mut-requires : goal.index_mut-requires
index_mut-requires c = omega (arith, c.if-slot-timers.true, c.len-timers.ensures, c.self.inside.timers.ok.0)

pub set-requires : goal.set-requires
set-requires c =
    let a = c.self.inside in
    omega (arith, c.if-slot-timers.true, c.len-timers.ensures, a.timers.ok.0, length_timed (owner_of a) a.timers.items a.wires.items a.timetable c.self.invariant)

pub set-requires-2 : goal.set-requires-2
set-requires-2 c =
    let a = c.self.inside in
    let within : c.leader-slot.result.0 < length a.timers.items + length a.wires.items = first_within (owner_of a) a.timers.items a.wires.items a.timetable c.self.invariant c.leader-slot.result.0 c.leader-slot.result.1 c.leader-slot.ensures in
    omega (arith, within, length_timed (owner_of a) a.timers.items a.wires.items a.timetable c.self.invariant)

pub invariant_of-self : goal.invariant_of-self
invariant_of-self c =
    let a = c.self.inside in
    let within : c.leader-slot.result.0 < length a.timers.items = omega (arith, c.if-slot-timers.true, c.len-timers.ensures, a.timers.ok.0) in
    subst (IsEventQueue (owner_of a) (set a.timers.items c.leader-slot.result.0 None) a.wires.items) (sym c.set.ensures) (set_ranked (owner_of a) a.timers.items a.wires.items a.timetable c.self.invariant c.leader-slot.result.0 within None)

pub returns-then-slot-timers-clause-state : goal.returns-then-slot-timers-clause-state
returns-then-slot-timers-clause-state c =
    let a = c.self.inside in
    let slot = c.leader-slot.result.0 in
    let within : slot < length a.timers.items = omega (arith, c.if-slot-timers.true, c.len-timers.ensures, a.timers.ok.0) in
    let first = first_timer (owner_of a) a.timers.items a.wires.items a.timetable c.self.invariant slot c.leader-slot.result.1 c.leader-slot.ensures within in
    let key_is : numbered_key a.node slot c.leader-slot.result.1 ≡ c.args.key =
    same_some (numbered_key a.node slot c.leader-slot.result.1) c.args.key (ap (option_map (λ (entry : Key × Event). entry.0)) (sym first.least_is) ∙ ap (λ (s : EventQueueState). next_key s.pending) c.self.view_is ∙ c.requires) in
    same_event_queue (owner_of a) (sym (cleared_timer c.args.key a.timers.items slot (ap (λ (k : Key). k.source) (sym key_is)) (ap (λ (k : Key). k.number) (sym key_is)))) refl
    (first.rest ∙ ap (fin.remove (gathered (slots (owner_of a) a.timers.items a.wires.items))) key_is)
    ∙ ap (λ (s : EventQueueState). record s { timers = cleared c.args.key s.timers; pending = fin.remove s.pending c.args.key }) c.self.view_is

pub returns-then-slot-timers-clause-packet : goal.returns-then-slot-timers-clause-packet
returns-then-slot-timers-clause-packet c = λ packet e.
    let a = c.self.inside in
    let slot = c.leader-slot.result.0 in
    let within : slot < length a.timers.items = omega (arith, c.if-slot-timers.true, c.len-timers.ensures, a.timers.ok.0) in
    let first = first_timer (owner_of a) a.timers.items a.wires.items a.timetable c.self.invariant slot c.leader-slot.result.1 c.leader-slot.ensures within in
    absurd (timer_is_no_arrival (owner_of a) slot packet
    (ap (λ (entry : Key × Event). entry.1)
    (same_some {A = Key × Event} (numbered_key a.node slot c.leader-slot.result.1, timer_event (owner_of a) slot) (c.args.key, Arrive packet) (sym first.least_is ∙ ap (λ (s : EventQueueState). least s.pending) c.self.view_is ∙ e))))

pub index_mut-wire-requires : goal.index_mut-wire-requires
index_mut-wire-requires c =
    let a = c.self.inside in
    let within : c.leader-slot.result.0 < length a.timers.items + length a.wires.items = first_within (owner_of a) a.timers.items a.wires.items a.timetable c.self.invariant c.leader-slot.result.0 c.leader-slot.result.1 c.leader-slot.ensures in
    omega (arith, within, c.if-slot-timers.false, c.len-timers.ensures, a.timers.ok.0, a.wires.ok.0)

pub invariant_of-self-2 : goal.invariant_of-self-2
invariant_of-self-2 c =
    let a = c.self.inside in
    let j = c.leader-slot.result.0 - c.len-timers.result in
    let at : length a.timers.items + j ≡ c.leader-slot.result.0 = omega (arith, c.if-slot-timers.false, c.len-timers.ensures, a.timers.ok.0) in
    let first = first_wire (owner_of a) a.timers.items a.wires.items a.timetable c.self.invariant c.leader-slot.result.0 c.leader-slot.result.1 c.leader-slot.ensures j at in
    let is : c.index_mut-wire.result.now ≡ wire_of_link a.wires.items j = get_or_read a.wires.items j c.index_mut-wire.result.now first.within c.index_mut-wire.ensures.value no_wire_here in
    let new : c.pop-cell.new.self ≡ after_pop (wire_of_link a.wires.items j) = c.pop-cell.ensures.state ∙ ap after_pop is in
    subst (IsEventQueue (owner_of a) a.timers.items (set a.wires.items j c.pop-cell.new.self)) (ap (λ i. set a.timetable i (time_of (next_key (pending_on c.pop-cell.new.self)))) at ∙ sym (c.set-2.ensures ∙ ap (set a.timetable c.leader-slot.result.0) c.next_time-next.ensures))
    (wire_ranked (owner_of a) a.timers.items a.wires.items a.timetable c.self.invariant j first.within c.pop-cell.new.self (ap (λ (w : WireState). w.node) new ∙ popped_node (wire_of_link a.wires.items j)) (ap (λ (w : WireState). w.link) new ∙ popped_link (wire_of_link a.wires.items j)))

pub returns-clause-state : goal.returns-clause-state
returns-clause-state c =
    let a = c.self.inside in
    let j = c.leader-slot.result.0 - c.len-timers.result in
    let at : length a.timers.items + j ≡ c.leader-slot.result.0 = omega (arith, c.if-slot-timers.false, c.len-timers.ensures, a.timers.ok.0) in
    let first = first_wire (owner_of a) a.timers.items a.wires.items a.timetable c.self.invariant c.leader-slot.result.0 c.leader-slot.result.1 c.leader-slot.ensures j at in
    let leaves = wire_key (owner_of a) a.timers.items a.wires.items j first c.args.key (ap (λ (s : EventQueueState). next_key s.pending) c.self.view_is ∙ c.requires) in
    let is : c.index_mut-wire.result.now ≡ wire_of_link a.wires.items j = get_or_read a.wires.items j c.index_mut-wire.result.now first.within c.index_mut-wire.ensures.value no_wire_here in
    let new : c.pop-cell.new.self ≡ after_pop (wire_of_link a.wires.items j) = c.pop-cell.ensures.state ∙ ap after_pop is in
    let node = ap (λ (w : WireState). w.node) new ∙ popped_node (wire_of_link a.wires.items j) in
    let link = ap (λ (w : WireState). w.link) new ∙ popped_link (wire_of_link a.wires.items j) in
    let change : pending_on c.pop-cell.new.self ≡ fin.remove (pending_on (wire_of_link a.wires.items j)) c.args.key =
    c.pop-cell.ensures.pending c.args.key (ap (λ (w : WireState). next_key (pending_on w)) is ∙ leaves.0) ∙ ap (λ (w : WireState). fin.remove (pending_on w) c.args.key) is in
    same_event_queue (owner_of a) (sym (cleared_wire c.args.key a.timers.items (wire_of_link a.wires.items j).link leaves.1))
    (map-set_same incoming_of a.wires.items j c.pop-cell.new.self no_wire_here (ap incoming_of new ∙ same_incoming (popped_link (wire_of_link a.wires.items j)) (popped_came (wire_of_link a.wires.items j))))
    (wire_pending (owner_of a) a.timers.items a.wires.items a.timetable c.self.invariant j first.within c.pop-cell.new.self node link ((c.args.key, None) ∷ []) (leaves.1, tt) change)
    ∙ ap (λ (s : EventQueueState). record s { timers = cleared c.args.key s.timers; pending = fin.remove s.pending c.args.key }) c.self.view_is

pub returns-clause-packet : goal.returns-clause-packet
returns-clause-packet c = λ packet e.
    let a = c.self.inside in
    let j = c.leader-slot.result.0 - c.len-timers.result in
    let at : length a.timers.items + j ≡ c.leader-slot.result.0 = omega (arith, c.if-slot-timers.false, c.len-timers.ensures, a.timers.ok.0) in
    let first = first_wire (owner_of a) a.timers.items a.wires.items a.timetable c.self.invariant c.leader-slot.result.0 c.leader-slot.result.1 c.leader-slot.ensures j at in
    let is : c.index_mut-wire.result.now ≡ wire_of_link a.wires.items j = get_or_read a.wires.items j c.index_mut-wire.result.now first.within c.index_mut-wire.ensures.value no_wire_here in
    c.pop-cell.ensures.packet c.args.key packet (ap (λ (w : WireState). least (pending_on w)) is ∙ sym first.least_is ∙ ap (λ (s : EventQueueState). least s.pending) c.self.view_is ∙ e)
