-- In which order packets leave a link, how many at a time, and for which cause a queue drops.
use Rattle.std.proofs.Common.{◌≡◌, ℕ, ◌+◌, ◌<◌, ◌≤◌, false, List, [], ◌∷◌, ◌++◌, map, append_assoc, append-nil, refl, sym, ap, subst, ◌∙◌, Option, Some, None, arith, ⊎_elim}
use Rattle.std.specs.Prelude.{is_none}
use Rattle.std.specs.List.{filter_map}
use Rattle.std.specs.Option.{option_or}
use Rattle.std.proofs.lemmas.List.{map-append}
use Rattle.std.proofs.lemmas.List.Elements.{filter_map-append}
use Rattle.packet_chain.specs.declared.packet.Packet.{Packet}
use Rattle.packet_chain.specs.Stamped.{Stamped}
use Rattle.aqm.specs.declared.drop_reason.TakeDrop.{TakeDrop}
use Rattle.aqm.specs.declared.queue.Queue.{Queue}
use Rattle.aqm.specs.Queue.{waiting_in, refuses, taken_from, take_reason}
use Rattle.aqm.specs.Laws.{listed}
use Rattle.aqm.proofs.Front.{takes_the_front}
use Rattle.aqm.proofs.Stays.{enters_last, refused_stays}
use Rattle.port.specs.Losses as losses
use Rattle.port.specs.declared.acts.Act.{Act}
use Rattle.port.specs.Port.{PortState, PortStep, Departure, begun, taken, with_packet, offered_one, offered_all}
use Rattle.port.proofs.StepLaws.{taken_sends, one_sends, busy_link_begins_nothing, one_if, taken_counts, one_counts}
use Rattle.tournament.proofs.Maps.{same_some}
use Rattle.table_run.specs.State.{effect_of, stepped}
use Rattle.table_run.proofs.RunLaws.{sound_run}
use Rattle.run_laws.specs.Laws.{IsKept}
use Rattle.run_laws.specs.Links.{port_of_link, left_by, packets_of, AtEachLink, LeavesInTurn, SendsOneByOne}
use Rattle.run_laws.proofs.Events.{its_own, IsLeft, IsDone, as_many, at_link}
use Rattle.run_laws.proofs.Ports.{sends, counted, by_test, taken_balances, one_balances, all_balance, sends_append, took}
use Rattle.run_laws.proofs.States.{idle_links_are_empty}
use Rattle.run_laws.proofs.Touched.{Touches, by_offers, by_offer, by_take}

-- what holds of each thing that is done at a link that keeps nothing where it is idle holds at each event
pub at_each_link : (P : ℕ → PortState → List Act → PortState → Type 0) → ((now : ℕ) (port : PortState) → P now port [] port)
    → ((now : ℕ) (old : PortState) (step : PortStep) → IsKept old → Touches now old step → P now old step.acts step.port) → AtEachLink P
at_each_link P left done p n lines s is_scenario e k v is node index within =
    let sound = sound_run p n lines s is_scenario e in
    let t = stepped s k (effect_of s (k, v)) in
    let old = port_of_link s node index in
    let new = port_of_link t node index in
    let acts = its_own old.link (effect_of s (k, v)).acts in
    let a = at_link p is_scenario lines s k v sound is node index (subst (λ n. index < n) (sym (as_many p is_scenario lines s k v sound is node)) within) in
    ⊎_elim
    (λ (l : IsLeft old new acts). subst (λ (x : List Act × PortState). P k.time old x.0 x.1) (λ i. (sym l.none i, sym l.same i)) (left k.time old))
    (λ (d : IsDone k.time old new acts). subst (λ (x : List Act × PortState). P k.time old x.0 x.1) (λ i. (sym d.acts_are i, sym d.new_is i)) (done k.time old d.step (idle_links_are_empty p n lines s is_scenario e node index within) d.touches))
    a.does

-- packets leave in turn
abbrev packet_in : Stamped → Packet
packet_in cell = cell.0

abbrev InTurn : ℕ → PortState → PortStep → Type 0
InTurn now old step = LeavesInTurn now old step.acts step.port

module _ (now : ℕ) (old : PortState) (queue : Queue) (reason : TakeDrop) where
  pub leave : (dropped : List Stamped) (given : Option Stamped) → filter_map left_by (took now old queue reason dropped given).acts ≡ map packet_in (dropped ++ listed given)
  leave [] None = refl
  leave [] (Some cell) = refl
  leave (x ∷ dropped) given = ap (λ ls. x.0 ∷ ls) (leave dropped given)

  rest : (given : Option Stamped) → packets_of (begun now (record old { queue = queue }) given).port ≡ map packet_in (waiting_in queue)
  rest None = refl
  rest (Some cell) = refl

pub taken_in_turn : (now : ℕ) (old : PortState) → filter_map left_by (taken now old).acts ++ packets_of (taken now old).port ≡ packets_of old
taken_in_turn now old =
    let take = taken_from old.queue now in
    ap (λ ls. ls ++ packets_of (taken now old).port) (leave now old take.queue (take_reason old.queue) take.dropped take.given)
    ∙ ap (λ ls. map packet_in (take.dropped ++ listed take.given) ++ ls) (rest now old take.queue (take_reason old.queue) take.given)
    ∙ sym (map-append packet_in (take.dropped ++ listed take.given) (waiting_in take.queue))
    ∙ ap (map packet_in) (takes_the_front old.queue now)

one_in_turn : (now : ℕ) (old : PortState) (packet : Packet) → InTurn now old (offered_one now old packet)
one_in_turn now old packet =
    by_test (InTurn now old) (losses.is_lost old.lose (old.offered + 1)) _ _
    (λ _. record { joined = []; in_turn = sym (append-nil (packets_of old)) })
    (λ _. by_test (InTurn now old) (refuses old.queue) _ _
    (λ refused. record { joined = []; in_turn = ap (map packet_in) (refused_stays old.queue (packet, now) now refused) ∙ sym (append-nil (packets_of old)) })
    (λ room. by_test (InTurn now old) (is_none old.next_free) _ _
    (λ _. record { joined = packet ∷ []; in_turn = taken_in_turn now (with_packet now (counted old) packet) ∙ enters room })
    (λ _. record { joined = packet ∷ []; in_turn = enters room })))
  where
    enters : refuses old.queue ≡ false → packets_of (with_packet now (counted old) packet) ≡ packets_of old ++ packet ∷ []
    enters room = ap (map packet_in) (enters_last old.queue (packet, now) now room) ∙ map-append packet_in (waiting_in old.queue) ((packet, now) ∷ [])

all_in_turn : (now : ℕ) (old : PortState) (packets : List Packet) → InTurn now old (offered_all now old packets)
all_in_turn now old [] = record { joined = []; in_turn = sym (append-nil (packets_of old)) }
all_in_turn now old (x ∷ packets) =
    let first = offered_one now old x in
    let others = offered_all now first.port packets in
    let a = one_in_turn now old x in
    let b = all_in_turn now first.port packets in
    record {
      joined = a.joined ++ b.joined;
      in_turn =
          ap (λ ls. ls ++ packets_of others.port) (filter_map-append left_by first.acts others.acts)
          ∙ append_assoc (filter_map left_by first.acts) (filter_map left_by others.acts) (packets_of others.port)
          ∙ ap (λ ls. filter_map left_by first.acts ++ ls) b.in_turn
          ∙ sym (append_assoc (filter_map left_by first.acts) (packets_of first.port) b.joined)
          ∙ ap (λ ls. ls ++ b.joined) a.in_turn
          ∙ append_assoc (packets_of old) a.joined b.joined;
    }

touched_in_turn : (now : ℕ) (old : PortState) (step : PortStep) → Touches now old step → InTurn now old step
touched_in_turn now old step (by_offers packets is) = subst (InTurn now old) (sym is) (all_in_turn now old packets)
touched_in_turn now old step (by_offer packet is) = subst (InTurn now old) (sym is) (one_in_turn now old packet)
touched_in_turn now old step (by_take free is) = subst (InTurn now old) (sym is) (record { joined = []; in_turn = taken_in_turn now old ∙ sym (append-nil (packets_of old)) })

pub packets_leave_in_turn : AtEachLink LeavesInTurn
packets_leave_in_turn = at_each_link LeavesInTurn (λ now port. record { joined = []; in_turn = sym (append-nil (packets_of port)) }) (λ now old step _ touches. touched_in_turn now old step touches)

-- one by one
record OneByOne (now : ℕ) (old : PortState) (step : PortStep) : Type 0 where
  pub departs : sends step.acts ≡ one_if step.departure
  pub busy_then : (d : Departure) → step.departure ≡ Some d → step.port.next_free ≡ Some d.free

taken_one : (now : ℕ) (old : PortState) → OneByOne now old (taken now old)
taken_one now old = record {
  departs = (let a = (taken_balances now old).sent in let b = (taken_counts now old).sent in omega (arith, a, b));
  busy_then = (taken_sends now old).busy_then;
}

one_one : (now : ℕ) (old : PortState) (packet : Packet) → OneByOne now old (offered_one now old packet)
one_one now old packet = record {
  departs = (let a = (one_balances now old packet).sent in let b = (one_counts now old packet).sent in omega (arith, a, b));
  busy_then = (one_sends now old packet).busy_then;
}

most_one : (d : Option Departure) → one_if d ≤ 1
most_one None = omega arith
most_one (Some d) = omega arith

-- a busy link sends nothing of what is offered
pub busy_sends_none : (now t : ℕ) (old : PortState) (packets : List Packet) → old.next_free ≡ Some t → (sends (offered_all now old packets).acts ≡ 0) × ((offered_all now old packets).port.next_free ≡ Some t)
busy_sends_none now t old packets busy =
    let still = busy_link_begins_nothing now t old packets busy in
    let a = (all_balance now old packets).sent in
    let b = still.2 in
    (omega (arith, a, b), still.1)

most_with : (now : ℕ) (first : PortStep) (packets : List Packet) (old : PortState) (d : Option Departure) → first.departure ≡ d → OneByOne now old first → sends (offered_all now first.port packets).acts ≤ 1 → sends (first.acts ++ (offered_all now first.port packets).acts) ≤ 1
most_with now first packets old None is a later =
    let none = a.departs ∙ ap one_if is in
    let both = sends_append first.acts (offered_all now first.port packets).acts in
    omega (arith, none, later, both)
most_with now first packets old (Some d) is a _ =
    let one = a.departs ∙ ap one_if is in
    let later = (busy_sends_none now d.free first.port packets (a.busy_then d is)).0 in
    let both = sends_append first.acts (offered_all now first.port packets).acts in
    omega (arith, one, later, both)

all_most_one : (now : ℕ) (old : PortState) (packets : List Packet) → sends (offered_all now old packets).acts ≤ 1
all_most_one now old [] = omega arith
all_most_one now old (x ∷ packets) = most_with now (offered_one now old x) packets old (offered_one now old x).departure refl (one_one now old x) (all_most_one now (offered_one now old x).port packets)

pub one_list : (now : ℕ) (old : PortState) (packet : Packet) → offered_all now old (packet ∷ []) ≡ offered_one now old packet
one_list now old packet = λ i. record { port = (offered_one now old packet).port; departure = same_departure (offered_one now old packet).departure i; acts = append-nil (offered_one now old packet).acts i }
  where
    same_departure : (d : Option Departure) → option_or d None ≡ d
    same_departure None = refl
    same_departure (Some d) = refl

abbrev IsOneByOne : ℕ → PortState → PortStep → Type 0
IsOneByOne now old step = SendsOneByOne now old step.acts step.port

offers_one_by_one : (now : ℕ) (old : PortState) (packets : List Packet) → IsOneByOne now old (offered_all now old packets)
offers_one_by_one now old packets = record { at_most = all_most_one now old packets; while_busy = λ t busy _. busy_sends_none now t old packets busy }

touched_one_by_one : (now : ℕ) (old : PortState) (step : PortStep) → Touches now old step → IsOneByOne now old step
touched_one_by_one now old step (by_offers packets is) = subst (IsOneByOne now old) (sym is) (offers_one_by_one now old packets)
touched_one_by_one now old step (by_offer packet is) = subst (IsOneByOne now old) (sym is) (subst (IsOneByOne now old) (one_list now old packet) (offers_one_by_one now old (packet ∷ [])))
touched_one_by_one now old step (by_take free is) = subst (IsOneByOne now old) (sym is) (record {
  at_most = (let a = (taken_one now old).departs in let b = most_one (taken now old).departure in omega (arith, a, b));
  while_busy = λ t busy apart. absurd (apart (same_some t now (sym busy ∙ free)));
})

pub links_send_one_by_one : AtEachLink SendsOneByOne
links_send_one_by_one = at_each_link SendsOneByOne (λ now port. record { at_most = omega arith; while_busy = λ t busy _. (refl, busy) }) (λ now old step _ touches. touched_one_by_one now old step touches)
