-- Every packet has one fate.
use Rattle.std.proofs.Common.{◌≡◌, ℕ, ◌+◌, Bool, true, false, cond, List, [], ◌∷◌, ◌++◌, map, Option, Some, None, refl, sym, ap, subst, ◌∙◌, append_assoc}
use Rattle.std.specs.Prelude.{is_none, filter}
use Rattle.std.proofs.lemmas.List.{map-append}
use Rattle.std.proofs.lemmas.List.Elements.{filter-append}
use Rattle.packet_chain.specs.declared.packet.Packet.{Packet}
use Rattle.packet_chain.specs.Stamped.{Stamped}
use Rattle.aqm.specs.declared.drop_reason.TakeDrop.{TakeDrop}
use Rattle.aqm.specs.declared.queue.Queue.{Queue}
use Rattle.aqm.specs.Queue.{waiting_in, refuses, offer_reason, offered_to, take_reason, taken_from}
use Rattle.aqm.specs.Laws.{listed}
use Rattle.aqm.proofs.Front.{takes_the_front}
use Rattle.aqm.proofs.Stays.{enters_last, refused_stays}
use Rattle.port.specs.declared.acts.Act.TheVariants.{Dropped}
use Rattle.aqm.specs.declared.drop_reason.DropReason.TheVariants.{Lost, Offer}
use Rattle.port.specs.Losses.{is_lost}
use Rattle.port.specs.Port.{PortState, PortStep, begun, dropped_for, taken, only, with_packet, offered_one}
use Rattle.port.specs.History.{Call, Offer, Free, called, history, offered_in}
use Rattle.port.specs.Fates.{Fate, Wait, reported_by, reported, has_entered}
use Rattle.port.specs.Laws.{EveryPacketHasOneFate}
use Rattle.port.proofs.Cases.{counted_one, after_tests, queue_stays}
use Rattle.port.proofs.Tales.{IsTale, AllEntered, packet_in, was_refused, none_refused, all_kept, ends, refusal, leave, enters}

abbrev packets_of : List Stamped → List Packet
packets_of = map (λ cell. cell.0)

abbrev waits : List Stamped → List (Packet × Fate)
waits = map (λ cell. (cell.0, Wait))

abbrev waiting_at : PortState → List Packet
waiting_at port = packets_of (waiting_in port.queue)

-- what is told from a port on
abbrev IsReported : PortState → List Call → List (Packet × Fate) → Type 0
IsReported port calls = IsTale (waiting_at port) (offered_in calls)

all_wait : (cells : List Stamped) → AllEntered (waits cells)
all_wait [] = tt
all_wait (cell ∷ cells) = (refl, all_wait cells)

packets_wait : (cells : List Stamped) → map packet_in (waits cells) ≡ packets_of cells
packets_wait [] = refl
packets_wait (cell ∷ cells) = ap (λ ps. cell.0 ∷ ps) (packets_wait cells)

-- what was told before, and what is told after
reported_more : (port : PortState) (call : Call) (calls : List Call) → reported (history port (call ∷ calls)) ≡ map reported_by (called port call).acts ++ reported (history (called port call).port calls)
reported_more port call calls =
    let later = history (called port call).port calls in
    ap (λ fs. fs ++ waits (waiting_in later.port.queue)) (map-append reported_by (called port call).acts later.acts)
    ∙ append_assoc (map reported_by (called port call).acts) (map reported_by later.acts) (waits (waiting_in later.port.queue))

-- what a taking tells: all of it had entered
abbrev tale_of_taking : ℕ → TakeDrop → List Stamped → PortStep → List (Packet × Fate)
tale_of_taking link reason dropped sending = map reported_by (map (dropped_for link reason) dropped ++ sending.acts)

all_left : (now : ℕ) (port : PortState) (reason : TakeDrop) (dropped : List Stamped) (given : Option Stamped) → AllEntered (tale_of_taking port.link reason dropped (begun now port given))
all_left now port reason [] None = tt
all_left now port reason [] (Some cell) = (refl, tt)
all_left now port reason (d ∷ dropped) given = (refl, all_left now port reason dropped given)

packets_left : (now : ℕ) (port : PortState) (reason : TakeDrop) (dropped : List Stamped) (given : Option Stamped) → map packet_in (tale_of_taking port.link reason dropped (begun now port given)) ≡ packets_of (dropped ++ listed given)
packets_left now port reason [] None = refl
packets_left now port reason [] (Some cell) = refl
packets_left now port reason (d ∷ dropped) given = ap (λ ps. d.0 ∷ ps) (packets_left now port reason dropped given)

taken_apart : (now : ℕ) (port : PortState) → waiting_at port ≡ map packet_in (map reported_by (taken now port).acts) ++ waiting_at (taken now port).port
taken_apart now port =
    let take = taken_from port.queue now in
    let at = record port { queue = take.queue } in
    ap packets_of (sym (takes_the_front port.queue now))
    ∙ map-append (λ (cell : Stamped). cell.0) (take.dropped ++ listed take.given) (waiting_in take.queue)
    ∙ ap (λ ps. ps ++ packets_of (waiting_in take.queue)) (sym (packets_left now at (take_reason port.queue) take.dropped take.given))
    ∙ ap (λ q. map packet_in (map reported_by (taken now port).acts) ++ packets_of (waiting_in q)) (sym (queue_stays now at take.given))

-- a taking
takes : (now : ℕ) (port : PortState) (offered : List Packet) (later : List (Packet × Fate)) → IsTale (waiting_at (taken now port).port) offered later → IsTale (waiting_at port) offered (map reported_by (taken now port).acts ++ later)
takes now port offered later tale =
    let take = taken_from port.queue now in
    let fs = map reported_by (taken now port).acts in
    subst (λ ps. IsTale ps offered (fs ++ later)) (sym (taken_apart now port))
    (leave fs (waiting_at (taken now port).port) offered later (all_left now (record port { queue = take.queue }) (take_reason port.queue) take.dropped take.given) tale)

-- a packet that isn't refused is last in the queue
last_in : (q : Queue) (packet : Packet) (now : ℕ) → refuses q ≡ false → packets_of (waiting_in (offered_to q (packet, now) now)) ≡ packets_of (waiting_in q) ++ packet ∷ []
last_in q packet now room = ap packets_of (enters_last q (packet, now) now room) ∙ map-append (λ (cell : Stamped). cell.0) (waiting_in q) ((packet, now) ∷ [])

-- an offering whose packet enters
lets_in : (now : ℕ) (port : PortState) (packet : Packet) (idle : Bool) (offered : List Packet) (later : List (Packet × Fate)) → refuses port.queue ≡ false
    → let step = cond idle (taken now (with_packet now port packet)) (only (with_packet now port packet) []) in IsTale (waiting_at step.port) offered later → IsTale (waiting_at port) (packet ∷ offered) (map reported_by step.acts ++ later)
lets_in now port packet true offered later room tale =
    enters packet (waiting_at port) offered _ (subst (λ ps. IsTale ps offered (map reported_by (taken now (with_packet now port packet)).acts ++ later)) (last_in port.queue packet now room) (takes now (with_packet now port packet) offered later tale))
lets_in now port packet false offered later room tale = enters packet (waiting_at port) offered later (subst (λ ps. IsTale ps offered later) (last_in port.queue packet now room) tale)

-- an offering
offers : (now : ℕ) (port : PortState) (packet : Packet) (lost full idle : Bool) (offered : List Packet) (later : List (Packet × Fate)) → refuses port.queue ≡ full
    → let step = after_tests now port packet lost full idle in IsTale (waiting_at step.port) offered later → IsTale (waiting_at port) (packet ∷ offered) (map reported_by step.acts ++ later)
offers now port packet true full idle offered later room tale = refusal (reported_by (Dropped port.link Lost packet)) (waiting_at port) offered later refl tale
offers now port packet false true idle offered later room tale =
    refusal (reported_by (Dropped port.link (Offer (offer_reason port.queue)) packet)) (waiting_at port) offered later refl (subst (λ ps. IsTale ps offered later) (ap packets_of (refused_stays port.queue (packet, now) now room)) tale)
offers now port packet false false idle offered later room tale = lets_in now port packet idle offered later room tale

tale : (port : PortState) (calls : List Call) → IsReported port calls (reported (history port calls))
tale port [] = subst (λ ps. IsTale ps [] (waits (waiting_in port.queue))) (packets_wait (waiting_in port.queue)) (ends (waits (waiting_in port.queue)) (all_wait (waiting_in port.queue)))
tale port (Offer now packet ∷ calls) =
    subst (IsReported port (Offer now packet ∷ calls)) (sym (reported_more port (Offer now packet) calls))
    (offers now (counted_one port) packet (is_lost port.lose (port.offered + 1)) (refuses port.queue) (is_none port.next_free) (offered_in calls) _ refl
    (tale (offered_one now port packet).port calls))
tale port (Free now ∷ calls) =
    subst (IsReported port (Free now ∷ calls)) (sym (reported_more port (Free now) calls))
    (takes now port (offered_in calls) _ (tale (taken now port).port calls))

pub every_packet_has_one_fate : EveryPacketHasOneFate
every_packet_has_one_fate port calls =
    let t = tale port calls in (
      t.firsts ++ t.others,
      record {
        each_once = map-append packet_in t.firsts t.others ∙ ap (λ ps. ps ++ map packet_in t.others) t.waited ∙ ap (λ ps. waiting_at port ++ ps) t.came;
        refused = filter-append was_refused t.firsts t.others ∙ ap (λ fs. fs ++ filter was_refused t.others) (none_refused t.firsts t.in_before) ∙ t.refused;
        entered = filter-append has_entered t.firsts t.others ∙ ap (λ fs. fs ++ filter has_entered t.others) (all_kept t.firsts t.in_before) ∙ t.entered;
      },
    )
