use Rattle.std.proofs.Common.{◌≡◌, ◌+◌, ◌^◌, ◌<◌, ◌≤◌, ◌++◌, length, set, map as each, sym, ap, subst, ◌∙◌, arith, IsSome, is_some, true, false, rules, Option}
use Rattle.std.specs.FinMap as fin
use Rattle.std.specs.Prelude.{All}
use Rattle.std.proofs.lemmas.List.{length-map, get_or_read}
use Rattle.std.proofs.Math.ListN.{get_or-map}
use Rattle.sim_time.specs.declared.key.Key.{Key}
use Rattle.tournament.specs.Keyed.{next_key, apply, entering, EachKey}
use Rattle.tournament.specs.Timed.{time_of}
use Rattle.node_core.specs.WireState.{WireState, pending_on, came_over, arrivals, stamps_of}
use Rattle.node_core.specs.EventQueueState.{EventQueueState, Incoming, IsEventQueue, slots, no_wire_here, wire_of_link, incoming_of, incoming_at, come_over}
use Rattle.node_core.specs.EventQueueOf.{owner_of}
use Rattle.node_core.proofs.Slots.{still_ranked, same_ranks, length_timed, slots_home, home_of, wire_ranked, wire_keys, joined_state}
use Rattle.node_core.proofs.Stays.{same_next}
use Rattle.node_core.proofs.event_queue.EventQueue.append_behind.Goals as goal

pub index_mut-wire-requires : goal.index_mut-wire-requires
index_mut-wire-requires c =
    let a = c.self.inside in
    let among : c.args.index < length (each incoming_of a.wires.items) = subst (λ (s : EventQueueState). c.args.index < length s.incoming) (sym c.self.view_is) c.requires.within in
    omega (arith, among, length-map a.wires.items incoming_of)

pub append-requires-clause-rising : goal.append-requires-clause-rising
append-requires-clause-rising c = c.requires.rising

pub append-requires-clause-few : goal.append-requires-clause-few
append-requires-clause-few c =
    let a = c.self.inside in
    let j = c.args.index in
    let among : j < length (each incoming_of a.wires.items) = subst (λ (s : EventQueueState). j < length s.incoming) (sym c.self.view_is) c.requires.within in
    let within : j < length a.wires.items = omega (arith, among, length-map a.wires.items incoming_of) in
    let is : c.index_mut-wire.result.now ≡ wire_of_link a.wires.items j = get_or_read a.wires.items j c.index_mut-wire.result.now within c.index_mut-wire.ensures.value no_wire_here in
    let few = subst (λ (s : EventQueueState). (incoming_at s.incoming j).came + length c.args.sent.now ≤ 2 ^ 50) (sym c.self.view_is) c.requires.few in
    subst (λ (w : WireState). came_over w + length c.args.sent.now ≤ 2 ^ 50) (sym is) (subst (λ (over : Incoming). over.came + length c.args.sent.now ≤ 2 ^ 50) (get_or-map incoming_of a.wires.items j no_wire_here) few)

pub append-requires-clause-later : goal.append-requires-clause-later
append-requires-clause-later c = λ i d under k v there.
    let a = c.self.inside in
    let j = c.args.index in
    let among : j < length (each incoming_of a.wires.items) = subst (λ (s : EventQueueState). j < length s.incoming) (sym c.self.view_is) c.requires.within in
    let within : j < length a.wires.items = omega (arith, among, length-map a.wires.items incoming_of) in
    let is : c.index_mut-wire.result.now ≡ wire_of_link a.wires.items j = get_or_read a.wires.items j c.index_mut-wire.result.now within c.index_mut-wire.ensures.value no_wire_here in
    let later = subst (λ (s : EventQueueState). All (λ stamp. EachKey (λ q. q.source ≡ (incoming_at s.incoming j).link + 1 → q.time < stamp) s.pending) (stamps_of c.args.sent.now)) (sym c.self.view_is) c.requires.later in
    let key = wire_keys (owner_of a) a.timers.items a.wires.items a.timetable c.self.invariant j within k v (ap (λ (w : WireState). fin.get (pending_on w) k) (sym is) ∙ there) in
    later i d under k v key.0 (key.1 ∙ ap (λ (over : Incoming). over.link + 1) (sym (get_or-map incoming_of a.wires.items j no_wire_here)))

pub set-requires : goal.set-requires
set-requires c =
    let a = c.self.inside in
    let among : c.args.index < length (each incoming_of a.wires.items) = subst (λ (s : EventQueueState). c.args.index < length s.incoming) (sym c.self.view_is) c.requires.within in
    omega (arith, among, length-map a.wires.items incoming_of, length_timed (owner_of a) a.timers.items a.wires.items a.timetable c.self.invariant, c.len.ensures, a.timers.ok.0)

pub invariant_of-self-2 : goal.invariant_of-self-2
invariant_of-self-2 c =
    let a = c.self.inside in
    let j = c.args.index in
    let among : j < length (each incoming_of a.wires.items) = subst (λ (s : EventQueueState). j < length s.incoming) (sym c.self.view_is) c.requires.within in
    let within : j < length a.wires.items = omega (arith, among, length-map a.wires.items incoming_of) in
    let is : c.index_mut-wire.result.now ≡ wire_of_link a.wires.items j = get_or_read a.wires.items j c.index_mut-wire.result.now within c.index_mut-wire.ensures.value no_wire_here in
    let new : c.append.new.self ≡ record (wire_of_link a.wires.items j) { under_way = (wire_of_link a.wires.items j).under_way ++ c.args.sent.now } =
    c.append.ensures.state ∙ ap (λ (w : WireState). record w { under_way = w.under_way ++ c.args.sent.now }) is in
    let slot : length a.timers.items + j ≡ c.len.result + j = omega (arith, c.len.ensures, a.timers.ok.0) in
    subst (IsEventQueue (owner_of a) a.timers.items (set a.wires.items j c.append.new.self)) (ap (λ i. set a.timetable i (time_of (next_key (pending_on c.append.new.self)))) slot ∙ sym (c.set.ensures ∙ ap (set a.timetable (c.len.result + j)) c.next_time-next.ensures))
    (wire_ranked (owner_of a) a.timers.items a.wires.items a.timetable c.self.invariant j within c.append.new.self (ap (λ (w : WireState). w.node) new) (ap (λ (w : WireState). w.link) new))

pub returns : goal.returns
returns c =
    let a = c.self.inside in
    let j = c.args.index in
    let among : j < length (each incoming_of a.wires.items) = subst (λ (s : EventQueueState). j < length s.incoming) (sym c.self.view_is) c.requires.within in
    let within : j < length a.wires.items = omega (arith, among, length-map a.wires.items incoming_of) in
    let is : c.index_mut-wire.result.now ≡ wire_of_link a.wires.items j = get_or_read a.wires.items j c.index_mut-wire.result.now within c.index_mut-wire.ensures.value no_wire_here in
    record {
      state = joined_state (owner_of a) a.timers.items a.wires.items a.timetable c.self.invariant j within c.args.sent.now c.append.new.self
          (c.append.ensures.state ∙ ap (λ (w : WireState). record w { under_way = w.under_way ++ c.args.sent.now }) is)
          (c.append.ensures.pending ∙ ap (λ (w : WireState). apply (entering (arrivals w.node w.link (came_over w) c.args.sent.now)) (pending_on w)) is)
          ∙ ap (λ (s : EventQueueState). come_over s j c.args.sent.now) c.self.view_is;
      emptied = c.append.ensures.sent;
      stays = λ said. absurd (not_said said);
    }
  where
    not_said : false ≡ true → ⊥
    not_said e = cc

pub invariant_of-self : goal.invariant_of-self
invariant_of-self c =
    let a = c.self.inside in
    let j = c.args.index in
    let among : j < length (each incoming_of a.wires.items) = subst (λ (s : EventQueueState). j < length s.incoming) (sym c.self.view_is) c.requires.within in
    let within : j < length a.wires.items = omega (arith, among, length-map a.wires.items incoming_of) in
    let is : c.index_mut-wire.result.now ≡ wire_of_link a.wires.items j = get_or_read a.wires.items j c.index_mut-wire.result.now within c.index_mut-wire.ensures.value no_wire_here in
    let new : c.append.new.self ≡ record (wire_of_link a.wires.items j) { under_way = (wire_of_link a.wires.items j).under_way ++ c.args.sent.now } =
    c.append.ensures.state ∙ ap (λ (w : WireState). record w { under_way = w.under_way ++ c.args.sent.now }) is in
    let some : is_some (time_of (next_key (pending_on c.index_mut-wire.result.now))) ≡ true = ap is_some (sym c.next_time.ensures) ∙ sym c.is_some-waiting.ensures ∙ c.if-waiting.true in
    let stays : next_key (pending_on c.append.new.self) ≡ next_key (pending_on (wire_of_link a.wires.items j)) = c.append.ensures.next (made (next_key (pending_on c.index_mut-wire.result.now)) some) ∙ ap (λ (w : WireState). next_key (pending_on w)) is in
    let node = ap (λ (w : WireState). w.node) new in
    let link = ap (λ (w : WireState). w.link) new in
    still_ranked (owner_of a) a.timers.items a.wires.items a.timetable c.self.invariant j within c.append.new.self node link stays
  where
    made : (o : Option Key) → is_some (time_of o) ≡ true → IsSome o
    made o e = search rules

pub returns-then-waiting : goal.returns-then-waiting
returns-then-waiting c =
    let a = c.self.inside in
    let owner = owner_of a in
    let timers = a.timers.items in
    let wires = a.wires.items in
    let j = c.args.index in
    let w = c.append.new.self in
    let among : j < length (each incoming_of wires) = subst (λ (s : EventQueueState). j < length s.incoming) (sym c.self.view_is) c.requires.within in
    let within : j < length wires = omega (arith, among, length-map wires incoming_of) in
    let is : c.index_mut-wire.result.now ≡ wire_of_link wires j = get_or_read wires j c.index_mut-wire.result.now within c.index_mut-wire.ensures.value no_wire_here in
    let new : w ≡ record (wire_of_link wires j) { under_way = (wire_of_link wires j).under_way ++ c.args.sent.now } =
    c.append.ensures.state ∙ ap (λ (x : WireState). record x { under_way = x.under_way ++ c.args.sent.now }) is in
    let some : is_some (time_of (next_key (pending_on c.index_mut-wire.result.now))) ≡ true = ap is_some (sym c.next_time.ensures) ∙ sym c.is_some-waiting.ensures ∙ c.if-waiting.true in
    let stays : next_key (pending_on w) ≡ next_key (pending_on (wire_of_link wires j)) = c.append.ensures.next (made (next_key (pending_on c.index_mut-wire.result.now)) some) ∙ ap (λ (x : WireState). next_key (pending_on x)) is in
    let node = ap (λ (x : WireState). x.node) new in
    let link = ap (λ (x : WireState). x.link) new in
    let again = still_ranked owner timers wires a.timetable c.self.invariant j within w node link stays in
    record {
      state = joined_state owner timers wires a.timetable c.self.invariant j within c.args.sent.now w new
          (c.append.ensures.pending ∙ ap (λ (x : WireState). apply (entering (arrivals x.node x.link (came_over x) c.args.sent.now)) (pending_on x)) is)
          ∙ ap (λ (s : EventQueueState). come_over s j c.args.sent.now) c.self.view_is;
      emptied = c.append.ensures.sent;
      stays = λ _.
          same_next (home_of timers wires) (home_of timers (set wires j w)) (slots owner timers wires) (slots owner timers (set wires j w))
          (slots_home owner timers wires a.timetable c.self.invariant) (slots_home owner timers (set wires j w) a.timetable again)
          (sym (same_ranks owner timers wires a.timetable c.self.invariant j within w node link stays))
          ∙ ap (λ (s : EventQueueState). next_key s.pending) c.self.view_is;
    }
  where
    made : (o : Option Key) → is_some (time_of o) ≡ true → IsSome o
    made o e = search rules
