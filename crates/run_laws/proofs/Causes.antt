-- For which cause, and when, a queue drops packets that entered it.
use Rattle.std.proofs.Common.{min, ◌≡◌, ℕ, zero, suc, ◌+◌, ◌-◌, ◌<◌, ◌≤◌, true, false, cond, ◌||◌, not, ltb, List, [], ◌∷◌, ◌++◌, length, map, take, drop, refl, sym, ap, subst, ◌∙◌, Option, Some, None, arith, ⊎_elim, true≢false}
use Rattle.std.specs.Prelude.{is_none, slice_get, IfSome, IsNone, IsSomeAnd}
use Rattle.std.specs.List.{filter_map}
use Rattle.std.proofs.lemmas.Bool.{cases_Bool, ltb-true, ltb-false, or_parts}
use Rattle.std.proofs.lemmas.List.Elements.{filter_map-append}
use Rattle.sim_time.specs.ControlLaw.{gap_of}
use Rattle.packet_chain.specs.declared.packet.Packet.{Packet}
use Rattle.packet_chain.specs.Stamped.{Stamped, bytes_of}
use Rattle.aqm.specs.declared.drop_reason.TakeDrop.{TakeDrop}
use Rattle.aqm.specs.declared.queue.Queue.{Queue}
use Rattle.aqm.specs.declared.queue.Queue.TheVariants.{Codel}
use Rattle.aqm.specs.Codel.{CodelState}
use Rattle.aqm.specs.Drops.{drop_due, drops, after_drops}
use Rattle.aqm.specs.Judgement.{judged, judgement}
use Rattle.aqm.specs.Queue.{waiting_in, refuses, offered_to, taken_from, take_reason}
use Rattle.aqm.specs.Taken.{CodelTaken, codel_taken}
use Rattle.aqm.specs.Laws.{IsForCause}
use Rattle.aqm.proofs.Front.{drops_stop_at_the_first_stop, drops_in_drop_state}
use Rattle.aqm.proofs.CodelBefore.{same_codel, codel_before_offer, codel_before_take}
use Rattle.aqm.proofs.Stays.{enters_last}
use Rattle.aqm.proofs.TakenCases.{taken_in_drop_state, taken_at_first_drop, taken_undropped}
use Rattle.port.specs.Losses as losses
use Rattle.port.specs.declared.acts.Act.{Act}
use Rattle.port.specs.Port.{PortState, PortStep, taken, with_packet, offered_one, offered_all}
use Rattle.port.specs.History.{Offer}
use Rattle.port.specs.Laws.{queue_drop_in, NothingWaitsWhereIdle}
use Rattle.port.proofs.CodelLaws.{every_codel_drop_has_a_cause, last_stays}
use Rattle.port.proofs.StepLaws.{idle_links_keep_nothing}
use Rattle.run_laws.specs.Laws.{IsKept}
use Rattle.run_laws.specs.Links.{AtEachLink, SendsAllThatEntered, DropsForCause, due_behind, DropsOnTime}
use Rattle.run_laws.proofs.Ports.{sends, counted, by_test, to_none, took, queue_same}
use Rattle.run_laws.proofs.Touched.{Touches, by_offers, by_offer, by_take}
use Rattle.run_laws.proofs.Turns.{at_each_link, busy_sends_none, one_list}

abbrev pub drops_in : List Act → List Packet
drops_in acts = filter_map queue_drop_in acts

-- what a take drops is told
module _ (now : ℕ) (old : PortState) (queue : Queue) (reason : TakeDrop) where
  reported_by : (dropped : List Stamped) (given : Option Stamped) → drops_in (took now old queue reason dropped given).acts ≡ map (λ (cell : Stamped). cell.0) dropped
  reported_by [] None = refl
  reported_by [] (Some cell) = refl
  reported_by (x ∷ dropped) given = ap (λ ls. x.0 ∷ ls) (reported_by dropped given)

pub take_drops : (now : ℕ) (old : PortState) → drops_in (taken now old).acts ≡ map (λ (cell : Stamped). cell.0) (taken_from old.queue now).dropped
take_drops now old = let take = taken_from old.queue now in reported_by now old take.queue (take_reason old.queue) take.dropped take.given

pub queue_after : (now : ℕ) (old : PortState) → (taken now old).port.queue ≡ (taken_from old.queue now).queue
queue_after now old = let take = taken_from old.queue now in queue_same now old take.queue (take_reason old.queue) take.given

-- of one packet that waits none is dropped
pub none_dropped : (q : Queue) (now : ℕ) (cell : Stamped) → waiting_in q ≡ cell ∷ [] → (taken_from q now).dropped ≡ []
none_dropped q now cell is = none (taken_from q now).dropped (last_stays q now cell [] is)
  where
    none : (dropped : List Stamped) → length dropped ≤ 0 → dropped ≡ []
    none [] few = refl
    none (x ∷ dropped) few = absurd (omega (arith, few))

abbrev pub Idle : PortState → Type 0
Idle port = NothingWaitsWhereIdle port

pub idle : (port : PortState) → IsKept port → Idle port
idle port kept none = kept.idle_empty (subst (λ (o : Option ℕ). IsNone o) (sym none) refl)

pub alone : (now : ℕ) (old : PortState) (packet : Packet) → Idle old → is_none old.next_free ≡ true → refuses old.queue ≡ false → waiting_in (with_packet now (counted old) packet).queue ≡ (packet, now) ∷ []
alone now old packet kept free room = enters_last old.queue (packet, now) now room ∙ ap (λ ls. ls ++ (packet, now) ∷ []) (kept (to_none old.next_free free))

one_drops_none : (now : ℕ) (old : PortState) (packet : Packet) → Idle old → drops_in (offered_one now old packet).acts ≡ []
one_drops_none now old packet kept =
    by_test (λ (step : PortStep). drops_in step.acts ≡ []) (losses.is_lost old.lose (old.offered + 1)) _ _ (λ _. refl)
    (λ _. by_test (λ (step : PortStep). drops_in step.acts ≡ []) (refuses old.queue) _ _ (λ _. refl)
    (λ room. by_test (λ (step : PortStep). drops_in step.acts ≡ []) (is_none old.next_free) _ _
    (λ free. let waits = with_packet now (counted old) packet in take_drops now waits ∙ ap (map (λ (cell : Stamped). cell.0)) (none_dropped waits.queue now (packet, now) (alone now old packet kept free room)))
    (λ _. refl)))

pub idle_after : (now : ℕ) (old : PortState) (packet : Packet) → Idle old → Idle (offered_one now old packet).port
idle_after now old packet kept = idle_links_keep_nothing old (Offer now packet ∷ []) kept

all_drop_none : (now : ℕ) (old : PortState) (packets : List Packet) → Idle old → drops_in (offered_all now old packets).acts ≡ []
all_drop_none now old [] kept = refl
all_drop_none now old (x ∷ packets) kept =
    let first = offered_one now old x in
    let others = offered_all now first.port packets in
    filter_map-append queue_drop_in first.acts others.acts
    ∙ ap (λ ls. ls ++ drops_in others.acts) (one_drops_none now old x kept)
    ∙ all_drop_none now first.port packets (idle_after now old x kept)

-- drop-tail
touched_drop_tail : (now : ℕ) (old : PortState) (step : PortStep) → IsKept old → Touches now old step → SendsAllThatEntered now old step.acts step.port
touched_drop_tail now old step kept (by_offers packets is) s _ = ap (λ (x : PortStep). drops_in x.acts) is ∙ all_drop_none now old packets (idle old kept)
touched_drop_tail now old step kept (by_offer packet is) s _ = ap (λ (x : PortStep). drops_in x.acts) is ∙ one_drops_none now old packet (idle old kept)
touched_drop_tail now old step kept (by_take free is) s kind = ap (λ (x : PortStep). drops_in x.acts) is ∙ take_drops now old ∙ ap (λ q. map (λ (cell : Stamped). cell.0) (taken_from q now).dropped) kind

pub drop_tail_sends_all_that_entered : AtEachLink SendsAllThatEntered
drop_tail_sends_all_that_entered = at_each_link SendsAllThatEntered (λ _ _ _ _. refl) touched_drop_tail

-- CoDel drops for cause
nothing : (i : ℕ) → slice_get {X = Packet} [] i ≡ None
nothing zero = refl
nothing (suc i) = refl

no_cause : (P : Packet → Type 0) (i : ℕ) (ls : List Packet) → ls ≡ [] → IfSome (slice_get ls i) P
no_cause P i ls none = subst (λ o. IfSome o P) (sym (ap (λ x. slice_get x i) none ∙ nothing i)) tt

touched_for_cause : (now : ℕ) (old : PortState) (step : PortStep) → IsKept old → Touches now old step → DropsForCause now old step.acts step.port
touched_for_cause now old step kept (by_offers packets is) s i _ = no_cause _ i (drops_in step.acts) (ap (λ (x : PortStep). drops_in x.acts) is ∙ all_drop_none now old packets (idle old kept))
touched_for_cause now old step kept (by_offer packet is) s i _ = no_cause _ i (drops_in step.acts) (ap (λ (x : PortStep). drops_in x.acts) is ∙ one_drops_none now old packet (idle old kept))
touched_for_cause now old step kept (by_take free is) s i kind = subst (λ (x : PortStep). DropsForCause now old x.acts x.port) (sym is) (λ t j k. every_codel_drop_has_a_cause now j old t k) s i kind

pub codel_drops_for_cause : AtEachLink DropsForCause
codel_drops_for_cause = at_each_link DropsForCause none_for_cause touched_for_cause
  where
    none_for_cause : (now : ℕ) (port : PortState) → DropsForCause now port [] port
    none_for_cause now port s i _ = subst (λ o. IfSome o (λ x. IsSomeAnd (slice_get s.fifo.waiting i) (λ cell. (cell.0 ≡ x) × IsForCause s now (bytes_of (drop (i + 1) s.fifo.waiting)) cell))) (sym (nothing i)) tt

-- in drop state offers leave the schedule as it is, and begin none
record LeavesSchedule (q r : Queue) : Type 0 where
  pub leaves : (t : CodelState) → r ≡ Codel t → t.dropping ≡ true → (s : CodelState) × (q ≡ Codel s) × (s.dropping ≡ true) × (t.drop_next ≡ s.drop_next)

schedule_same : (q : Queue) → LeavesSchedule q q
schedule_same q = record { leaves = λ t is on. (t, is, on, refl) }

schedule_on : (a b c : Queue) → LeavesSchedule a b → LeavesSchedule b c → LeavesSchedule a c
schedule_on a b c first second = record {
  leaves = λ t is on.
      let x = second.leaves t is on in
      let y = first.leaves x.0 x.1 x.2 in
      (y.0, y.1, y.2, x.3 ∙ y.3);
}

offer_leaves : (q : Queue) (cell : Stamped) (now : ℕ) → LeavesSchedule q (offered_to q cell now)
offer_leaves q cell now = record {
  leaves = λ t is on.
      let before = codel_before_offer q cell now t is in
      (before.0, before.1, ap (λ (x : CodelState). x.dropping) before.2 ∙ on, ap (λ (x : CodelState). x.drop_next) (sym before.2));
}

-- a take that drops nothing
take_leaves : (s : CodelState) (now : ℕ) (cell : Stamped) → s.fifo.waiting ≡ cell ∷ [] → (codel_taken s now).dropped ≡ [] → (t : CodelState) → (codel_taken s now).queue ≡ t → t.dropping ≡ true → (s.dropping ≡ true) × (t.drop_next ≡ s.drop_next)
take_leaves s now cell waits none t is on =
    ⊎_elim
    (λ (dropping : s.dropping ≡ true).
    let k : 0 ≡ drops s now = ap length (sym none) ∙ drops_in_drop_state s now dropping in
    let taken : (codel_taken s now).queue ≡ after_drops s now 0 = ap (λ (x : CodelTaken). x.queue) (taken_in_drop_state s now dropping) ∙ ap (after_drops s now) (sym k) in
    let same : t ≡ after_drops s now 0 = sym is ∙ taken in
    let ok : (judgement s now 0).ok ≡ true = ap (λ (x : CodelState). x.dropping) (sym same) ∙ on in
    (dropping, ap (λ (x : CodelState). x.drop_next) same ∙ ap (λ b. drop_due s (cond b 0 (0 - 1))) ok))
    (λ (idle : s.dropping ≡ false).
    ⊎_elim
    (λ (ok : (judgement s now 0).ok ≡ true). absurd (not_none (ap (take 1) (sym waits) ∙ ap (λ (x : CodelTaken). x.dropped) (sym (taken_at_first_drop s now idle ok)) ∙ none)))
    (λ (not_ok : (judgement s now 0).ok ≡ false).
    let same = sym is ∙ ap (λ (x : CodelTaken). x.queue) (taken_undropped s now idle not_ok) in
    absurd (true≢false (sym on ∙ ap (λ (x : CodelState). x.dropping) same ∙ idle)))
    (cases_Bool (judgement s now 0).ok))
    (cases_Bool s.dropping)
  where
    not_none : ◌≡◌ {A = List Stamped} (cell ∷ []) [] → ⊥
    not_none e = cc

taking_leaves : (q : Queue) (now : ℕ) (cell : Stamped) → waiting_in q ≡ cell ∷ [] → LeavesSchedule q (taken_from q now).queue
taking_leaves q now cell waits = record {
  leaves = λ t is on.
      let before = codel_before_take q now t is in
      let waits_there : before.0.fifo.waiting ≡ cell ∷ [] = ap waiting_in (sym before.1) ∙ waits in
      let left = take_leaves before.0 now cell waits_there (none_dropped (Codel before.0) now cell waits_there) t before.2 on in
      (before.0, before.1, left.0, left.1);
}

one_leaves : (now : ℕ) (old : PortState) (packet : Packet) → Idle old → LeavesSchedule old.queue (offered_one now old packet).port.queue
one_leaves now old packet kept =
    by_test (λ (step : PortStep). LeavesSchedule old.queue step.port.queue) (losses.is_lost old.lose (old.offered + 1)) _ _ (λ _. schedule_same old.queue)
    (λ _. by_test (λ (step : PortStep). LeavesSchedule old.queue step.port.queue) (refuses old.queue) _ _ (λ _. offer_leaves old.queue (packet, now) now)
    (λ room. by_test (λ (step : PortStep). LeavesSchedule old.queue step.port.queue) (is_none old.next_free) _ _
    (λ free.
    let waits = with_packet now (counted old) packet in
    subst (LeavesSchedule old.queue) (sym (queue_after now waits))
    (schedule_on old.queue waits.queue (taken_from waits.queue now).queue (offer_leaves old.queue (packet, now) now) (taking_leaves waits.queue now (packet, now) (alone now old packet kept free room))))
    (λ _. offer_leaves old.queue (packet, now) now)))

all_leave : (now : ℕ) (old : PortState) (packets : List Packet) → Idle old → LeavesSchedule old.queue (offered_all now old packets).port.queue
all_leave now old [] kept = schedule_same old.queue
all_leave now old (x ∷ packets) kept =
    let first = (offered_one now old x).port in
    schedule_on old.queue first.queue (offered_all now first packets).port.queue (one_leaves now old x kept) (all_leave now first packets (idle_after now old x kept))

-- when drops are due is said in the queue's words
pub due_is : (s : CodelState) (n : ℕ) → due_behind s n ≡ drop_due s n
due_is s zero = refl
due_is s (suc n) = ap (λ m. m + gap_of s.interval (min (s.count + suc n) 4294967295)) (due_is s n)

-- where nothing is dropped the schedule stays
undropped : (now : ℕ) (old new : PortState) (acts : List Act) → drops_in acts ≡ [] → LeavesSchedule old.queue new.queue → (1 ≤ sends acts → waiting_in old.queue ≡ []) → DropsOnTime now old acts new
undropped now old new acts none left alone_sent =
    let count : length (drops_in acts) ≡ 0 = ap length none in
    record {
      none_early = λ s j _ _ within. absurd (omega (arith, within, count));
      next = λ s q was _ is on.
          let x = left.leaves q is on in
          x.3 ∙ ap (λ (y : CodelState). y.drop_next) (same_codel x.0 s (sym x.1 ∙ was)) ∙ ap (due_behind s) (sym count);
      none_left = λ s was _ one ok.
          let empty : s.fifo.waiting ≡ [] = ap waiting_in (sym was) ∙ alone_sent one in
          absurd (true≢false (sym ok ∙ ap (λ j. (judgement s now j).ok) count ∙ ap (λ ws. (judged s now (slice_get ws 0) (bytes_of (drop 1 ws)) s.first_above).ok) empty));
    }

pub as_many_dropped : (cells : List Stamped) → length (map (λ (cell : Stamped). cell.0) cells) ≡ length cells
as_many_dropped [] = refl
as_many_dropped (x ∷ cells) = ap suc (as_many_dropped cells)

-- a take drops all whose drop is due, up to one that may not be dropped
take_on_time : (now : ℕ) (old : PortState) → DropsOnTime now old (taken now old).acts (taken now old).port
take_on_time now old = record {
  none_early = λ s j was on within.
      let few = goes s was on in
      let before = (drops_stop_at_the_first_stop s now).goes_on_before j (omega (arith, within, few)) in
      let on_time = ltb-false now (drop_due s j) (or_parts (not (judgement s now j).ok) (ltb now (drop_due s j)) before).1 in
      subst (λ m. m ≤ now) (sym (due_is s j)) on_time;
  next = λ s q was on is still.
      let k = drops s now in
      let took : (codel_taken s now).queue ≡ after_drops s now k = ap (λ (x : CodelTaken). x.queue) (taken_in_drop_state s now on) in
      let same : after_drops s now k ≡ q = same_codel (after_drops s now k) q (ap Codel (sym took) ∙ ap (λ r. (taken_from r now).queue) (sym was) ∙ sym (queue_after now old) ∙ is) in
      let ok : (judgement s now k).ok ≡ true = ap (λ (x : CodelState). x.dropping) same ∙ still in
      let moved : q.drop_next ≡ drop_due s (length (drops_in (taken now old).acts)) = ap (λ (x : CodelState). x.drop_next) (sym same) ∙ ap (λ b. drop_due s (cond b k (k - 1))) ok ∙ ap (drop_due s) (sym (goes s was on)) in
      moved ∙ sym (due_is s (length (drops_in (taken now old).acts)));
  none_left = λ s was on _ ok.
      let k = goes s was on in
      let stops_here = (drops_stop_at_the_first_stop s now).stops_here in
      let ok_here : (judgement s now (drops s now)).ok ≡ true = ap (λ j. (judgement s now j).ok) (sym k) ∙ ok in
      subst (λ m. now < m) (sym (due_is s (length (drops_in (taken now old).acts)))) (subst (λ j. now < drop_due s j) (sym k) (ltb-true now (drop_due s (drops s now)) (ap (λ b. not b || ltb now (drop_due s (drops s now))) (sym ok_here) ∙ stops_here)));
}
  where
    goes : (s : CodelState) → old.queue ≡ Codel s → s.dropping ≡ true → length (drops_in (taken now old).acts) ≡ drops s now
    goes s was on = ap length (take_drops now old) ∙ as_many_dropped (taken_from old.queue now).dropped ∙ ap (λ q. length (taken_from q now).dropped) was ∙ drops_in_drop_state s now on

-- a link sends something of what is offered only where nothing waits
pub sends_where_empty : (now : ℕ) (old : PortState) (packets : List Packet) → Idle old → 1 ≤ sends (offered_all now old packets).acts → waiting_in old.queue ≡ []
sends_where_empty now old packets kept one = by old.next_free refl
  where
    by : (o : Option ℕ) → old.next_free ≡ o → waiting_in old.queue ≡ []
    by None is = kept is
    by (Some t) is = let none = (busy_sends_none now t old packets is).0 in absurd (omega (arith, one, none))

touched_on_time : (now : ℕ) (old : PortState) (step : PortStep) → IsKept old → Touches now old step → DropsOnTime now old step.acts step.port
touched_on_time now old step kept (by_offers packets is) = subst (λ (x : PortStep). DropsOnTime now old x.acts x.port) (sym is) (undropped now old _ _ (all_drop_none now old packets (idle old kept)) (all_leave now old packets (idle old kept)) (sends_where_empty now old packets (idle old kept)))
touched_on_time now old step kept (by_offer packet is) = subst (λ (x : PortStep). DropsOnTime now old x.acts x.port) (sym is) (undropped now old _ _ (one_drops_none now old packet (idle old kept)) (one_leaves now old packet (idle old kept)) (λ one. sends_where_empty now old (packet ∷ []) (idle old kept) (let same = ap (λ (x : PortStep). sends x.acts) (one_list now old packet) in omega (arith, one, same))))
touched_on_time now old step kept (by_take free is) = subst (λ (x : PortStep). DropsOnTime now old x.acts x.port) (sym is) (take_on_time now old)

pub codel_drops_on_time : AtEachLink DropsOnTime
codel_drops_on_time = at_each_link DropsOnTime (λ now port. undropped now port port [] refl (schedule_same port.queue) (λ one. absurd (omega (arith, one)))) touched_on_time
