-- What CoDel drops at a port, and what drop-tail does not.
use Rattle.std.proofs.Common.{◌≡◌, ◌≤◌, ℕ, zero, suc, ◌+◌, Bool, true, false, cond, List, [], ◌∷◌, ◌++◌, map, length, drop, Option, Some, None, refl, sym, ap, subst, ◌∙◌, arith, length-append, append_assoc}
use Rattle.std.specs.Prelude.{is_none, slice_get, IfSome, IsSomeAnd}
use Rattle.std.specs.List.{filter_map}
use Rattle.std.proofs.lemmas.List.Elements.{filter_map-append}
use Rattle.packet_chain.specs.declared.packet.Packet.{Packet}
use Rattle.packet_chain.specs.Stamped.{Stamped, bytes_of}
use Rattle.aqm.specs.declared.drop_reason.TakeDrop.{TakeDrop}
use Rattle.aqm.specs.declared.queue.Queue.{Queue}
use Rattle.aqm.specs.declared.queue.Queue.TheVariants.{DropTail, Codel}
use Rattle.aqm.specs.DropTail.{DropTailState, after_offer, without_first}
use Rattle.aqm.specs.Codel.{CodelState}
use Rattle.aqm.specs.Queue.{waiting_in, refuses, offered_to, take_reason, taken_from}
use Rattle.aqm.specs.Laws.{listed, IsForCause}
use Rattle.aqm.proofs.Front.{takes_the_front, gives_what_waits, drops_at_most_what_waits}
use Rattle.aqm.proofs.Causes.{every_drop_has_a_cause}
use Rattle.aqm.proofs.Stays.{queues_stay}
use Rattle.port.specs.Port.{PortState, PortStep, begun, dropped_for, taken, with_packet, offered_one}
use Rattle.port.specs.Room.{drops_at, drops_at_offer}
use Rattle.port.specs.History.{Offer, Free, history}
use Rattle.port.specs.Laws.{queue_drop_in, DropTailDropsNothingThatEntered, EveryCodelDropHasACause, NothingWaitsWhereIdle, OfferingsDropNothing}
use Rattle.port.proofs.Cases.{counted_one, after_tests, offered_by_case, queue_stays}

-- what is told to be dropped at a taking is what the queue drops
drops_reported : (now : ℕ) (port : PortState) (reason : TakeDrop) (dropped : List Stamped) (given : Option Stamped) → filter_map queue_drop_in (map (dropped_for port.link reason) dropped ++ (begun now port given).acts) ≡ map (λ cell. cell.0) dropped
drops_reported now port reason [] None = refl
drops_reported now port reason [] (Some cell) = refl
drops_reported now port reason (c ∷ dropped) given = ap (λ ps. c.0 ∷ ps) (drops_reported now port reason dropped given)

drops_of_taking : (now : ℕ) (port : PortState) → filter_map queue_drop_in (taken now port).acts ≡ map (λ cell. cell.0) (taken_from port.queue now).dropped
drops_of_taking now port = let take = taken_from port.queue now in drops_reported now (record port { queue = take.queue }) (take_reason port.queue) take.dropped take.given

-- drop-tail: the queue stays one, and nothing that entered is dropped
record IsDropTailStep (step : PortStep) : Type 0 where
  pub state : DropTailState
  pub queue_is : step.port.queue ≡ DropTail state
  pub none : filter_map queue_drop_in step.acts ≡ []

taking_in_order : (now : ℕ) (port : PortState) (q : Queue) (s : DropTailState) → port.queue ≡ q → q ≡ DropTail s → IsDropTailStep (taken now port)
taking_in_order now port q s is kind =
    let here : port.queue ≡ DropTail s = is ∙ kind in
    let take = taken_from port.queue now in
    record {
      state = without_first 1 s;
      queue_is = queue_stays now (record port { queue = take.queue }) take.given ∙ ap (λ r. (taken_from r now).queue) here;
      none = drops_of_taking now port ∙ ap (λ r. map (λ (cell : Stamped). cell.0) (taken_from r now).dropped) here;
    }

offering_in_order : (now : ℕ) (port : PortState) (packet : Packet) (s : DropTailState) → port.queue ≡ DropTail s → (lost full idle : Bool) → IsDropTailStep (after_tests now (counted_one port) packet lost full idle)
offering_in_order now port packet s is true full idle = record { state = s; queue_is = is; none = refl }
offering_in_order now port packet s is false true idle = record { state = after_offer s (packet, now) now; queue_is = ap (λ q. offered_to q (packet, now) now) is; none = refl }
offering_in_order now port packet s is false false true = taking_in_order now (with_packet now (counted_one port) packet) _ (after_offer s (packet, now) now) refl (ap (λ q. offered_to q (packet, now) now) is)
offering_in_order now port packet s is false false false = record { state = after_offer s (packet, now) now; queue_is = ap (λ q. offered_to q (packet, now) now) is; none = refl }

pub drop_tail_drops_nothing_that_entered : DropTailDropsNothingThatEntered
drop_tail_drops_nothing_that_entered port [] s is = refl
drop_tail_drops_nothing_that_entered port (Offer now packet ∷ calls) s is =
    let first = offered_one now port packet in
    let later = history first.port calls in
    let step = offered_by_case IsDropTailStep now port packet (λ idle _ lost full _. offering_in_order now port packet s is lost full idle) in
    filter_map-append queue_drop_in first.acts later.acts ∙ ap (λ ps. ps ++ filter_map queue_drop_in later.acts) step.none ∙ drop_tail_drops_nothing_that_entered first.port calls step.state step.queue_is
drop_tail_drops_nothing_that_entered port (Free now ∷ calls) s is =
    let first = taken now port in
    let later = history first.port calls in
    let step = taking_in_order now port port.queue s refl is in
    filter_map-append queue_drop_in first.acts later.acts ∙ ap (λ ps. ps ++ filter_map queue_drop_in later.acts) step.none ∙ drop_tail_drops_nothing_that_entered first.port calls step.state step.queue_is

-- what is dropped is the front of what waits
front_at : (dropped rest : List Stamped) (i : ℕ) → IfSome (slice_get dropped i) (λ cell. slice_get (dropped ++ rest) i ≡ Some cell)
front_at [] rest i = tt
front_at (c ∷ dropped) rest zero = refl
front_at (c ∷ dropped) rest (suc i) = front_at dropped rest i

packet_at : (cells : List Stamped) (i : ℕ) (P : Packet → Type 0) → IfSome (slice_get cells i) (λ cell. P cell.0) → IfSome (slice_get (map (λ (cell : Stamped). cell.0) cells) i) P
packet_at [] i P h = tt
packet_at (c ∷ cells) zero P h = h
packet_at (c ∷ cells) (suc i) P h = packet_at cells i P h

both_at : (o : Option Stamped) (waiting : Option Stamped) (C : Stamped → Type 0) → IfSome o (λ cell. waiting ≡ Some cell) → IfSome o C → IfSome o (λ cell. IsSomeAnd waiting (λ w. (w.0 ≡ cell.0) × C w))
both_at None waiting C at cause = tt
both_at (Some cell) waiting C at cause = subst (λ o. IsSomeAnd o (λ w. (w.0 ≡ cell.0) × C w)) (sym at) (refl, cause)

codel_taking : (now i : ℕ) (s : CodelState) → IfSome (slice_get (taken_from (Codel s) now).dropped i) (λ cell. IsSomeAnd (slice_get s.fifo.waiting i) (λ w. (w.0 ≡ cell.0) × IsForCause s now (bytes_of (drop (i + 1) s.fifo.waiting)) w))
codel_taking now i s =
    let t = taken_from (Codel s) now in
    let front = takes_the_front (Codel s) now in
    both_at (slice_get t.dropped i) (slice_get s.fifo.waiting i) (IsForCause s now (bytes_of (drop (i + 1) s.fifo.waiting)))
    (subst (λ ws. IfSome (slice_get t.dropped i) (λ cell. slice_get ws i ≡ Some cell)) front (rw append_assoc (front_at t.dropped (listed t.given ++ waiting_in t.queue) i)))
    (every_drop_has_a_cause s now i)

pub every_codel_drop_has_a_cause : EveryCodelDropHasACause
every_codel_drop_has_a_cause now i port s is =
    let P : Packet → Type 0 = λ packet. IsSomeAnd (slice_get s.fifo.waiting i) (λ cell. (cell.0 ≡ packet) × IsForCause s now (bytes_of (drop (i + 1) s.fifo.waiting)) cell) in
    let reported : filter_map queue_drop_in (taken now port).acts ≡ map (λ cell. cell.0) (taken_from (Codel s) now).dropped = drops_of_taking now port ∙ ap (λ q. map (λ (cell : Stamped). cell.0) (taken_from q now).dropped) is in
    subst (λ ps. IfSome (slice_get ps i) P) (sym reported) (packet_at (taken_from (Codel s) now).dropped i P (codel_taking now i s))

-- the last packet that waits is never dropped
pub last_stays : (q : Queue) (now : ℕ) (cell : Stamped) (cells : List Stamped) → waiting_in q ≡ cell ∷ cells → length (taken_from q now).dropped ≤ length cells
last_stays q now cell cells is = by (taken_from q now).given refl
  where
    by : (o : Option Stamped) → (taken_from q now).given ≡ o → length (taken_from q now).dropped ≤ length cells
    by None e = let empty : waiting_in q ≡ [] = (gives_what_waits q now).0 e in absurd (cc)
    by (Some given) e =
        let t = taken_from q now in
        let all : length (t.dropped ++ given ∷ [] ++ waiting_in t.queue) ≡ suc (length cells) = ap (λ o. length (t.dropped ++ listed o ++ waiting_in t.queue)) (sym e) ∙ ap length (takes_the_front q now ∙ is) in
        let parts : length (t.dropped ++ given ∷ [] ++ waiting_in t.queue) ≡ length t.dropped + 1 + length (waiting_in t.queue) = length-append (t.dropped ++ given ∷ []) (waiting_in t.queue) ∙ ap (λ n. n + length (waiting_in t.queue)) (length-append t.dropped (given ∷ [])) in
        omega (arith, all, parts)

-- so with one packet more no more are dropped than waited
one_more : (waiting : List Stamped) (cell : Stamped) (q : Queue) (now : ℕ) → waiting_in q ≡ waiting ++ cell ∷ [] → length (taken_from q now).dropped ≤ length waiting
one_more [] cell q now is = last_stays q now cell [] is
one_more (w ∷ waiting) cell q now is = let most = last_stays q now w (waiting ++ cell ∷ []) is in omega (arith, most, length-append waiting (cell ∷ []))

at_entry : (waiting : List Stamped) (packet : Packet) (now : ℕ) (refused : Bool) (q : Queue) → waiting_in q ≡ cond refused waiting (waiting ++ (packet, now) ∷ []) → length (taken_from q now).dropped ≤ length waiting
at_entry waiting packet now true q is = let most = drops_at_most_what_waits q now in let same = ap length is in omega (arith, most, same)
at_entry waiting packet now false q is = one_more waiting (packet, now) q now is

with_one : (now : ℕ) (q : Queue) (packet : Packet) → length (taken_from (offered_to q (packet, now) now) now).dropped ≤ length (waiting_in q)
with_one now q packet = at_entry (waiting_in q) packet now (refuses q) (offered_to q (packet, now) now) ((queues_stay q now).waits (packet, now))

at_offer : (now : ℕ) (port : PortState) (packet : Packet) (idle : Bool) → cond idle (drops_at now (with_packet now port packet)) 0 ≤ length (waiting_in port.queue)
at_offer now port packet true = with_one now port.queue packet
at_offer now port packet false = omega arith

-- no more is dropped than waited before the call
pub drops_at_most : (now : ℕ) (port : PortState) → drops_at now port ≤ length (waiting_in port.queue)
drops_at_most now port = drops_at_most_what_waits port.queue now

pub offering_drops_at_most : (now : ℕ) (port : PortState) (packet : Packet) → drops_at_offer now port packet ≤ length (waiting_in port.queue)
offering_drops_at_most now port packet = at_offer now port packet (is_none port.next_free)

none_at_offer : (now : ℕ) (port : PortState) (packet : Packet) (o : Option ℕ) → port.next_free ≡ o → NothingWaitsWhereIdle port → drops_at_offer now port packet ≡ 0
none_at_offer now port packet None idle nothing =
    let empty : length (waiting_in port.queue) ≡ 0 = ap length (nothing idle) in
    let most = offering_drops_at_most now port packet in
    omega (arith, empty, most)
none_at_offer now port packet (Some t) busy nothing = ap (λ b. cond b (drops_at now (with_packet now port packet)) 0) (ap is_none busy)

pub offerings_drop_nothing : OfferingsDropNothing
offerings_drop_nothing now port packet = none_at_offer now port packet port.next_free refl
