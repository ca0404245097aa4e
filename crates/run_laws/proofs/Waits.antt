-- How long packets wait at a link.
use Rattle.std.proofs.Common.{◌≡◌, ℕ, ◌+◌, List, [], ◌∷◌, ◌++◌, map, take, append_assoc, append-nil, refl, sym, ap, subst, ◌∙◌, Option, Some, None, true≢false}
use Rattle.std.specs.Prelude.{is_none}
use Rattle.std.specs.List.{filter_map}
use Rattle.std.proofs.lemmas.List.{map-append}
use Rattle.std.proofs.lemmas.List.Elements.{filter_map-append}
use Rattle.packet_chain.specs.declared.packet.Packet.{Packet}
use Rattle.packet_chain.specs.Stamped.{Stamped}
use Rattle.aqm.specs.declared.drop_reason.TakeDrop.{TakeDrop}
use Rattle.aqm.specs.declared.queue.Queue.{Queue}
use Rattle.aqm.specs.Queue.{waiting_in, refuses, taken_from, take_reason}
use Rattle.aqm.specs.Laws.{listed}
use Rattle.aqm.proofs.Front.{takes_the_front, gives_what_waits}
use Rattle.aqm.proofs.Stays.{enters_last, refused_stays}
use Rattle.port.specs.Losses as losses
use Rattle.port.specs.Laws.{sent_by}
use Rattle.port.specs.Port.{PortState, PortStep, begun, taken, with_packet, offered_one, offered_all}
use Rattle.port.proofs.StepLaws.{packets_in, busy_one, busy_link_begins_nothing, one_departs_at_most}
use Rattle.tournament.proofs.Maps.{not_some, same_some}
use Rattle.run_laws.specs.Laws.{IsKept}
use Rattle.run_laws.specs.Links.{AtEachLink, left_by}
use Rattle.run_laws.specs.Waits.{offered_at, WaitsFromOffer}
use Rattle.run_laws.proofs.Causes.{Idle, idle, queue_after, none_dropped, alone, idle_after}
use Rattle.run_laws.proofs.Ports.{counted, by_test, took}
use Rattle.run_laws.proofs.Touched.{Touches, by_offers, by_offer, by_take}
use Rattle.run_laws.proofs.Turns.{at_each_link, leave}

abbrev packet_in : Stamped → Packet
packet_in cell = cell.0

-- what a take lets leave
abbrev let_go : ℕ → PortState → List Stamped
let_go now old = let take = taken_from old.queue now in take.dropped ++ listed take.given

taken_leave : (now : ℕ) (old : PortState) → filter_map left_by (taken now old).acts ≡ map packet_in (let_go now old)
taken_leave now old = let take = taken_from old.queue now in leave now old take.queue (take_reason old.queue) take.dropped take.given

taken_moments : (now : ℕ) (old : PortState) → let_go now old ++ waiting_in (taken now old).port.queue ≡ waiting_in old.queue
taken_moments now old = ap (λ q. let_go now old ++ waiting_in q) (queue_after now old) ∙ takes_the_front old.queue now

module _ (now : ℕ) (old : PortState) (queue : Queue) (reason : TakeDrop) where
  given_sent : (dropped : List Stamped) (given : Option Stamped) → filter_map sent_by (took now old queue reason dropped given).acts ≡ map packet_in (listed given)
  given_sent [] None = refl
  given_sent [] (Some cell) = refl
  given_sent (x ∷ dropped) given = given_sent dropped given

  idle_gives_none : (given : Option Stamped) → (begun now (record old { queue = queue }) given).port.next_free ≡ None → given ≡ None
  idle_gives_none None e = refl
  idle_gives_none (Some cell) e = absurd (not_some (sym e))

-- of one packet that waits it is the one given
module _ (now : ℕ) (old : PortState) (cell : Stamped) (is : waiting_in old.queue ≡ cell ∷ []) where
  gives : (taken_from old.queue now).given ≡ None → ⊥
  gives none = no_cell (sym ((gives_what_waits old.queue now).0 none) ∙ is)
    where
      no_cell : [] ≡ cell ∷ [] → ⊥
      no_cell e = not_some (ap first e)
        where
          first : List Stamped → Option Stamped
          first [] = None
          first (x ∷ xs) = Some x

  given_is : listed (taken_from old.queue now).given ≡ cell ∷ []
  given_is = by (taken_from old.queue now).given gives (ap (λ ls. ls ++ listed (taken_from old.queue now).given ++ waiting_in (taken_from old.queue now).queue) (sym (none_dropped old.queue now cell is)) ∙ takes_the_front old.queue now ∙ is)
    where
      by : (given : Option Stamped) → (given ≡ None → ⊥) → listed given ++ waiting_in (taken_from old.queue now).queue ≡ cell ∷ [] → listed given ≡ cell ∷ []
      by None some e = absurd (some refl)
      by (Some c) some e = ap (take 1) e

  goes : let_go now old ≡ cell ∷ []
  goes = ap (λ ls. ls ++ listed (taken_from old.queue now).given) (none_dropped old.queue now cell is) ∙ given_is

  sent_alone : filter_map sent_by (taken now old).acts ≡ cell.0 ∷ []
  sent_alone = let take = taken_from old.queue now in given_sent now old take.queue (take_reason old.queue) take.dropped take.given ∙ ap (map packet_in) given_is

  busy_then : (taken now old).port.next_free ≡ None → ⊥
  busy_then e = let take = taken_from old.queue now in gives (idle_gives_none now old take.queue (take_reason old.queue) take.given e)

-- what an offering does, where an idle link keeps nothing
record Offering (now : ℕ) (old : PortState) (step : PortStep) : Type 0 where
  pub left : List Stamped
  pub joined : List Packet
  pub leaves : filter_map left_by step.acts ≡ map packet_in left
  pub moments : left ++ waiting_in step.port.queue ≡ waiting_in old.queue ++ offered_at now joined
  pub at_once : old.next_free ≡ None → (left ≡ offered_at now (take 1 joined)) × (filter_map sent_by step.acts ≡ take 1 joined)
  pub busy : (t : ℕ) → old.next_free ≡ Some t → left ≡ []
  pub idle_still : step.port.next_free ≡ None → joined ≡ []

-- and one packet: where an idle link is busy afterwards, the packet joined
record One (now : ℕ) (old : PortState) (packet : Packet) (step : PortStep) : Type 0 where
  pub offering : Offering now old step
  pub begins : (t : ℕ) → old.next_free ≡ None → step.port.next_free ≡ Some t → offering.joined ≡ packet ∷ []

one_waits : (now : ℕ) (old : PortState) (packet : Packet) → Idle old → One now old packet (offered_one now old packet)
one_waits now old packet kept =
    by_test (One now old packet) (losses.is_lost old.lose (old.offered + 1)) _ _
    (λ _. record {
      offering = record { left = []; joined = []; leaves = refl; moments = sym (append-nil (waiting_in old.queue)); at_once = λ _. (refl, refl); busy = λ _ _. refl; idle_still = λ _. refl };
      begins = λ t none some. absurd (not_some (sym none ∙ some));
    })
    (λ _. by_test (One now old packet) (refuses old.queue) _ _
    (λ refused. record {
      offering = record { left = []; joined = []; leaves = refl; moments = refused_stays old.queue (packet, now) now refused ∙ sym (append-nil (waiting_in old.queue)); at_once = λ _. (refl, refl); busy = λ _ _. refl; idle_still = λ _. refl };
      begins = λ t none some. absurd (not_some (sym none ∙ some));
    })
    (λ room. by_test (One now old packet) (is_none old.next_free) _ _
    (λ free.
    let waits = with_packet now (counted old) packet in
    let only = alone now old packet kept free room in
    record {
      offering = record {
        left = let_go now waits;
        joined = packet ∷ [];
        leaves = taken_leave now waits;
        moments = taken_moments now waits ∙ enters_last old.queue (packet, now) now room;
        at_once = λ _. (goes now waits (packet, now) only, sent_alone now waits (packet, now) only);
        busy = λ t busy. absurd (true≢false (sym free ∙ ap is_none busy));
        idle_still = λ none. absurd (busy_then now waits (packet, now) only none);
      };
      begins = λ t none some. refl;
    })
    (λ busy. record {
      offering = record {
        left = [];
        joined = packet ∷ [];
        leaves = refl;
        moments = enters_last old.queue (packet, now) now room;
        at_once = λ none. absurd (true≢false (sym (ap is_none none) ∙ busy));
        busy = λ _ _. refl;
        idle_still = λ none. absurd (true≢false (sym (ap is_none none) ∙ busy));
      };
      begins = λ t none some. refl;
    })))

all_wait : (now : ℕ) (old : PortState) (packets : List Packet) → Idle old → Offering now old (offered_all now old packets)
all_wait now old [] kept = record { left = []; joined = []; leaves = refl; moments = sym (append-nil (waiting_in old.queue)); at_once = λ _. (refl, refl); busy = λ _ _. refl; idle_still = λ _. refl }
all_wait now old (x ∷ packets) kept =
    let first = offered_one now old x in
    let others = offered_all now first.port packets in
    let one = one_waits now old x kept in
    let a = one.offering in
    let b = all_wait now first.port packets (idle_after now old x kept) in
    record {
      left = a.left ++ b.left;
      joined = a.joined ++ b.joined;
      leaves = filter_map-append left_by first.acts others.acts ∙ (λ i. a.leaves i ++ b.leaves i) ∙ sym (map-append packet_in a.left b.left);
      moments =
          append_assoc a.left b.left (waiting_in others.port.queue)
          ∙ ap (λ ls. a.left ++ ls) b.moments
          ∙ sym (append_assoc a.left (waiting_in first.port.queue) (offered_at now b.joined))
          ∙ ap (λ ls. ls ++ offered_at now b.joined) a.moments
          ∙ append_assoc (waiting_in old.queue) (offered_at now a.joined) (offered_at now b.joined)
          ∙ ap (λ ls. waiting_in old.queue ++ ls) (sym (map-append (λ (y : Packet). (y, now)) a.joined b.joined));
      at_once = λ none. at_once one b none first.port.next_free refl;
      busy = λ t busy. λ i. a.busy t busy i ++ b.busy t (busy_one now t old x busy).busy i;
      idle_still = λ none. idle_still one b none first.port.next_free refl;
    }
  where
    first : PortStep
    first = offered_one now old x

    others : PortStep
    others = offered_all now first.port packets

    at_once : (one : One now old x first) (b : Offering now first.port others) → old.next_free ≡ None → (free : Option ℕ) → first.port.next_free ≡ free
        → (one.offering.left ++ b.left ≡ offered_at now (take 1 (one.offering.joined ++ b.joined))) × (filter_map sent_by (first.acts ++ others.acts) ≡ take 1 (one.offering.joined ++ b.joined))
    at_once one b none None is =
        let a = one.offering in
        let no_one : a.joined ≡ [] = a.idle_still is in
        let was = a.at_once none in
        let then = b.at_once is in (
          (λ i. (was.0 ∙ ap (λ ls. offered_at now (take 1 ls)) no_one) i ++ then.0 i) ∙ ap (λ ls. offered_at now (take 1 (ls ++ b.joined))) (sym no_one),
          filter_map-append sent_by first.acts others.acts ∙ (λ i. (was.1 ∙ ap (take 1) no_one) i ++ then.1 i) ∙ ap (λ ls. take 1 (ls ++ b.joined)) (sym no_one),
        )
    at_once one b none (Some t) is =
        let a = one.offering in
        let its : a.joined ≡ x ∷ [] = one.begins t none is in
        let was = a.at_once none in
        let nothing : filter_map sent_by others.acts ≡ [] = one_departs_at_most now first.port packets ∙ ap packets_in (busy_link_begins_nothing now t first.port packets is).0 in (
          (λ i. (was.0 ∙ ap (λ ls. offered_at now (take 1 ls)) its) i ++ b.busy t is i) ∙ ap (λ ls. offered_at now (take 1 (ls ++ b.joined))) (sym its),
          filter_map-append sent_by first.acts others.acts ∙ (λ i. (was.1 ∙ ap (take 1) its) i ++ nothing i) ∙ ap (λ ls. take 1 (ls ++ b.joined)) (sym its),
        )

    idle_still : (one : One now old x first) (b : Offering now first.port others) → others.port.next_free ≡ None → (free : Option ℕ) → first.port.next_free ≡ free → one.offering.joined ++ b.joined ≡ []
    idle_still one b none None is = λ i. one.offering.idle_still is i ++ b.idle_still none i
    idle_still one b none (Some t) is = absurd (not_some (sym none ∙ (busy_link_begins_nothing now t first.port packets is).1))

of_offering : (now : ℕ) (old : PortState) (step : PortStep) → Offering now old step → WaitsFromOffer now old step.acts step.port
of_offering now old step o = record { left = o.left; joined = o.joined; leave = o.leaves; moments = o.moments; at_once = o.at_once; busy = λ t busy _. o.busy t busy }

touched_waits : (now : ℕ) (old : PortState) (step : PortStep) → IsKept old → Touches now old step → WaitsFromOffer now old step.acts step.port
touched_waits now old step kept (by_offers packets is) = of_offering now old step (subst (Offering now old) (sym is) (all_wait now old packets (idle old kept)))
touched_waits now old step kept (by_offer packet is) = of_offering now old step (subst (Offering now old) (sym is) (one_waits now old packet (idle old kept)).offering)
touched_waits now old step kept (by_take free is) = subst (λ (x : PortStep). WaitsFromOffer now old x.acts x.port) (sym is) (record {
  left = let_go now old;
  joined = [];
  leave = taken_leave now old;
  moments = taken_moments now old ∙ sym (append-nil (waiting_in old.queue));
  at_once = λ none. absurd (not_some (sym none ∙ free));
  busy = λ t busy apart. absurd (apart (same_some t now (sym busy ∙ free)));
})

pub packets_wait_from_offer_to_sending : AtEachLink WaitsFromOffer
packets_wait_from_offer_to_sending =
    at_each_link WaitsFromOffer (λ now port. record { left = []; joined = []; leave = refl; moments = sym (append-nil (waiting_in port.queue)); at_once = λ _. (refl, refl); busy = λ _ _ _. refl }) touched_waits
