-- Which packets are offered to a link, and which of them are turned away.
use Rattle.std.proofs.Common.{◌≡◌, ℕ, suc, ◌+◌, ◌<◌, ◌≤◌, Bool, true, false, cond, not, eq-eqb, List, [], ◌∷◌, ◌++◌, length, map, filter, append-nil, append_assoc, refl, sym, ap, subst, ◌∙◌, Option, Some, None, ⊎_elim, arith}
use Rattle.std.specs.Prelude.{count_by, is_none}
use Rattle.std.specs.List.{filter_map, range_with_len}
use Rattle.std.proofs.lemmas.Bool.{eqb-true, cases_lt, true≢false}
use Rattle.std.proofs.lemmas.List.{map-append}
use Rattle.std.proofs.lemmas.List.Elements.{filter-append, filter_map-append}
use Rattle.std.proofs.lemmas.List.Sums.{sum_by-append, sum_by-cons}
use Rattle.packet_chain.specs.declared.packet.Packet.{Packet}
use Rattle.packet_chain.specs.Stamped.{Stamped}
use Rattle.aqm.specs.declared.drop_reason.TakeDrop.{TakeDrop}
use Rattle.aqm.specs.declared.queue.Queue.{Queue}
use Rattle.aqm.specs.declared.queue.Queue.TheVariants.{DropTail, Codel}
use Rattle.aqm.specs.Queue.{fifo_of, offered_to, waiting_in, refuses, taken_from, take_reason}
use Rattle.aqm.proofs.Stays.{enters_last, refused_stays, full_refuses, queues_stay, same_room}
use Rattle.port.specs.Losses as losses
use Rattle.port.specs.declared.acts.Act.{Act}
use Rattle.port.specs.Port.{PortState, PortStep, dropped_for, taken, with_packet, offered_one, offered_all}
use Rattle.port.proofs.StepLaws.{one_counts, taken_counts}
use Rattle.run_laws.specs.Links.{AtEachLink, is_lost_act, is_refused, has_number, left_by, packets_of, turned_away, IsOffered, TurnsAwayByRule}
use Rattle.run_laws.proofs.Touched.{Touches, by_offers, by_offer, by_take}
use Rattle.run_laws.proofs.Ports.{counted, by_test, took, all_balance, taken_balances}
use Rattle.run_laws.proofs.Turns.{at_each_link, one_list, taken_in_turn}

abbrev pub Offers : List Packet → PortState → PortStep → Type 0
Offers packets old step = IsOffered packets old step.acts step.port

module _ (now : ℕ) (old : PortState) (queue : Queue) (reason : TakeDrop) where
  none_away : (dropped : List Stamped) (given : Option Stamped) → filter_map turned_away (took now old queue reason dropped given).acts ≡ []
  none_away [] None = refl
  none_away [] (Some cell) = refl
  none_away (x ∷ dropped) given = none_away dropped given

pub take_turns_none_away : (now : ℕ) (old : PortState) → filter_map turned_away (taken now old).acts ≡ []
take_turns_none_away now old = let take = taken_from old.queue now in none_away now old take.queue (take_reason old.queue) take.dropped take.given

pub one_offered : (now : ℕ) (old : PortState) (packet : Packet) → Offers (packet ∷ []) old (offered_one now old packet)
one_offered now old packet =
    by_test (Offers (packet ∷ []) old) (losses.is_lost old.lose (old.offered + 1)) _ _
    (λ _. record { fates = (packet, false) ∷ []; each_one = refl; away = refl; joins = sym (append-nil (packets_of old)); counted = refl })
    (λ _. by_test (Offers (packet ∷ []) old) (refuses old.queue) _ _
    (λ refused. record { fates = (packet, false) ∷ []; each_one = refl; away = refl; joins = ap (map (λ (cell : Stamped). cell.0)) (refused_stays old.queue (packet, now) now refused) ∙ sym (append-nil (packets_of old)); counted = refl })
    (λ room. by_test (Offers (packet ∷ []) old) (is_none old.next_free) _ _
    (λ _. let waits = with_packet now (counted old) packet in
    record { fates = (packet, true) ∷ []; each_one = refl; away = take_turns_none_away now waits; joins = taken_in_turn now waits ∙ enters room; counted = (let a = (taken_balances now waits).offered in omega (arith, a)) })
    (λ _. record { fates = (packet, true) ∷ []; each_one = refl; away = refl; joins = enters room; counted = refl })))
  where
    enters : refuses old.queue ≡ false → packets_of (with_packet now (counted old) packet) ≡ packets_of old ++ packet ∷ []
    enters room = ap (map (λ (cell : Stamped). cell.0)) (enters_last old.queue (packet, now) now room) ∙ map-append (λ (cell : Stamped). cell.0) (waiting_in old.queue) ((packet, now) ∷ [])

abbrev named : List (Packet × Bool) → List Packet
named fates = map (λ (x : Packet × Bool). x.0) fates

abbrev joining : List (Packet × Bool) → List (Packet × Bool)
joining fates = filter (λ (x : Packet × Bool). x.1) fates

abbrev parting : List (Packet × Bool) → List (Packet × Bool)
parting fates = filter (λ (x : Packet × Bool). not x.1) fates

pub none_offered : (old : PortState) → IsOffered [] old [] old
none_offered old = record { fates = []; each_one = refl; away = refl; joins = sym (append-nil (packets_of old)); counted = omega arith }

pub all_offered : (now : ℕ) (old : PortState) (packets : List Packet) → Offers packets old (offered_all now old packets)
all_offered now old [] = none_offered old
all_offered now old (x ∷ packets) =
    let first = offered_one now old x in
    let others = offered_all now first.port packets in
    let a = one_offered now old x in
    let b = all_offered now first.port packets in
    record {
      fates = a.fates ++ b.fates;
      each_one = map-append (λ (y : Packet × Bool). y.0) a.fates b.fates ∙ (λ i. a.each_one i ++ b.each_one i);
      away =
          filter_map-append turned_away first.acts others.acts ∙ (λ i. a.away i ++ b.away i)
          ∙ sym (ap named (filter-append (λ (y : Packet × Bool). not y.1) a.fates b.fates) ∙ map-append (λ (y : Packet × Bool). y.0) (parting a.fates) (parting b.fates));
      joins =
          ap (λ ls. ls ++ packets_of others.port) (filter_map-append left_by first.acts others.acts)
          ∙ append_assoc (filter_map left_by first.acts) (filter_map left_by others.acts) (packets_of others.port)
          ∙ ap (λ ls. filter_map left_by first.acts ++ ls) b.joins
          ∙ sym (append_assoc (filter_map left_by first.acts) (packets_of first.port) (named (joining b.fates)))
          ∙ ap (λ ls. ls ++ named (joining b.fates)) a.joins
          ∙ append_assoc (packets_of old) (named (joining a.fates)) (named (joining b.fates))
          ∙ ap (λ ls. packets_of old ++ ls) (sym (ap named (filter-append (λ (y : Packet × Bool). y.1) a.fates b.fates) ∙ map-append (λ (y : Packet × Bool). y.0) (joining a.fates) (joining b.fates)));
      counted = (let c = a.counted in let d = b.counted in omega (arith, c, d));
    }

-- how many acts are losses, or refusals
abbrev losses_in : List Act → ℕ
losses_in acts = count_by is_lost_act acts

abbrev refusals_in : List Act → ℕ
refusals_in acts = count_by is_refused acts

losses_append : (xs ys : List Act) → losses_in (xs ++ ys) ≡ losses_in xs + losses_in ys
losses_append xs ys = sum_by-append (λ (act : Act). cond (is_lost_act act) 1 0) xs ys

refusals_append : (xs ys : List Act) → refusals_in (xs ++ ys) ≡ refusals_in xs + refusals_in ys
refusals_append xs ys = sum_by-append (λ (act : Act). cond (is_refused act) 1 0) xs ys

module _ (now : ℕ) (old : PortState) (queue : Queue) (reason : TakeDrop) where
  loses_none : (dropped : List Stamped) (given : Option Stamped) → losses_in (took now old queue reason dropped given).acts ≡ 0
  loses_none [] None = refl
  loses_none [] (Some cell) = refl
  loses_none (x ∷ dropped) given =
      let rest = loses_none dropped given in
      let one = sum_by-cons (λ (act : Act). cond (is_lost_act act) 1 0) (dropped_for old.link reason x) (took now old queue reason dropped given).acts in
      omega (arith, rest, one)

  refuses_none : (dropped : List Stamped) (given : Option Stamped) → refusals_in (took now old queue reason dropped given).acts ≡ 0
  refuses_none [] None = refl
  refuses_none [] (Some cell) = refl
  refuses_none (x ∷ dropped) given =
      let rest = refuses_none dropped given in
      let one = sum_by-cons (λ (act : Act). cond (is_refused act) 1 0) (dropped_for old.link reason x) (took now old queue reason dropped given).acts in
      omega (arith, rest, one)

take_loses_none : (now : ℕ) (old : PortState) → losses_in (taken now old).acts ≡ 0
take_loses_none now old = let take = taken_from old.queue now in loses_none now old take.queue (take_reason old.queue) take.dropped take.given

take_refuses_none : (now : ℕ) (old : PortState) → refusals_in (taken now old).acts ≡ 0
take_refuses_none now old = let take = taken_from old.queue now in refuses_none now old take.queue (take_reason old.queue) take.dropped take.given

-- losses by their numbers
abbrev listed_from : List ℕ → ℕ → ℕ → ℕ
listed_from lose first count = count_by (has_number lose) (range_with_len first count)

one_loses : (now : ℕ) (old : PortState) (packet : Packet) → losses_in (offered_one now old packet).acts ≡ listed_from old.lose (old.offered + 1) 1
one_loses now old packet =
    by_test (λ (step : PortStep). losses_in step.acts ≡ listed_from old.lose (old.offered + 1) 1) (losses.is_lost old.lose (old.offered + 1)) _ _
    (λ lost. let one = as_listed true lost in omega (arith, one))
    (λ not_lost. let none = as_listed false not_lost in
    by_test (λ (step : PortStep). losses_in step.acts ≡ listed_from old.lose (old.offered + 1) 1) (refuses old.queue) _ _ (λ _. omega (arith, none))
    (λ _. by_test (λ (step : PortStep). losses_in step.acts ≡ listed_from old.lose (old.offered + 1) 1) (is_none old.next_free) _ _
    (λ _. let lost = take_loses_none now (with_packet now (counted old) packet) in omega (arith, lost, none)) (λ _. omega (arith, none))))
  where
    as_listed : (b : Bool) → has_number old.lose (old.offered + 1) ≡ b → listed_from old.lose (old.offered + 1) 1 ≡ cond b 1 0
    as_listed b is =
        let one = sum_by-cons (λ n. cond (has_number old.lose n) 1 0) (old.offered + 1) [] in
        let same : cond (has_number old.lose (old.offered + 1)) 1 0 ≡ cond b 1 0 = ap {B = ℕ} (λ c. cond c 1 0) is in
        omega (arith, one, same)

all_lose : (now : ℕ) (old : PortState) (packets : List Packet) → (losses_in (offered_all now old packets).acts ≡ listed_from old.lose (old.offered + 1) (length packets)) × ((offered_all now old packets).port.lose ≡ old.lose)
all_lose now old [] = (refl, refl)
all_lose now old (x ∷ packets) =
    let first = offered_one now old x in
    let others = offered_all now first.port packets in
    let lose = (one_counts now old x).lose in
    let one = one_loses now old x in
    let rest = all_lose now first.port packets in
    let later : losses_in others.acts ≡ listed_from old.lose (old.offered + 1 + 1) (length packets) = rest.0 ∙ (λ i. listed_from (lose i) ((one_counts now old x).offered i + 1) (length packets)) in
    let both = losses_append first.acts others.acts in
    let first_too : listed_from old.lose (old.offered + 1) (suc (length packets)) ≡ cond {A = ℕ} (has_number old.lose (old.offered + 1)) 1 0 + listed_from old.lose (old.offered + 1 + 1) (length packets) =
    sum_by-cons (λ n. cond {A = ℕ} (has_number old.lose n) 1 0) (old.offered + 1) (range_with_len (old.offered + 1 + 1) (length packets)) in
    let alone : listed_from old.lose (old.offered + 1) 1 ≡ cond {A = ℕ} (has_number old.lose (old.offered + 1)) 1 0 + 0 = sum_by-cons (λ n. cond {A = ℕ} (has_number old.lose n) 1 0) (old.offered + 1) [] in
    (omega (arith, both, one, later, first_too, alone), rest.1 ∙ lose)

-- a full queue
abbrev Full : PortState → Type 0
Full port = length (waiting_in port.queue) ≡ (fifo_of port.queue).capacity

refuses_full : (q : Queue) → refuses q ≡ true → length (waiting_in q) ≡ (fifo_of q).capacity
refuses_full (DropTail s) e = eqb-true (length s.waiting) s.capacity e
refuses_full (Codel s) e = eqb-true (length s.fifo.waiting) s.fifo.capacity e

full_is : (q : Queue) → length (waiting_in q) ≡ (fifo_of q).capacity → refuses q ≡ true
full_is q full = full_refuses q (eq-eqb (length (waiting_in q)) (fifo_of q).capacity full)

stays_full : (now : ℕ) (old : PortState) (packet : Packet) → refuses old.queue ≡ true → Full (with_packet now (counted old) packet)
stays_full now old packet refused =
    ap length (refused_stays old.queue (packet, now) now refused) ∙ refuses_full old.queue refused ∙ sym (same_room (offered_to old.queue (packet, now) now) old.queue ((queues_stay old.queue now).offered (packet, now)))

one_stays_full : (now : ℕ) (old : PortState) (packet : Packet) → Full old → Full (offered_one now old packet).port
one_stays_full now old packet full =
    by_test (λ (step : PortStep). Full step.port) (losses.is_lost old.lose (old.offered + 1)) _ _ (λ _. full)
    (λ _. by_test (λ (step : PortStep). Full step.port) (refuses old.queue) _ _ (λ refused. stays_full now old packet refused) (λ room. absurd (true≢false (sym (full_is old.queue full) ∙ room))))

all_stay_full : (now : ℕ) (old : PortState) (packets : List Packet) → Full old → Full (offered_all now old packets).port
all_stay_full now old [] full = full
all_stay_full now old (x ∷ packets) full = all_stay_full now (offered_one now old x).port packets (one_stays_full now old x full)

abbrev RefusesWhereFull : PortStep → Type 0
RefusesWhereFull step = 1 ≤ refusals_in step.acts → Full step.port

one_refuses_where_full : (now : ℕ) (old : PortState) (packet : Packet) → RefusesWhereFull (offered_one now old packet)
one_refuses_where_full now old packet =
    by_test RefusesWhereFull (losses.is_lost old.lose (old.offered + 1)) _ _ (λ _ some. absurd (omega (arith, some)))
    (λ _. by_test RefusesWhereFull (refuses old.queue) _ _ (λ refused _. stays_full now old packet refused)
    (λ _. by_test RefusesWhereFull (is_none old.next_free) _ _ (λ _ some. absurd (let none = take_refuses_none now (with_packet now (counted old) packet) in omega (arith, some, none))) (λ _ some. absurd (omega (arith, some)))))

all_refuse_where_full : (now : ℕ) (old : PortState) (packets : List Packet) → RefusesWhereFull (offered_all now old packets)
all_refuse_where_full now old [] some = absurd (omega (arith, some))
all_refuse_where_full now old (x ∷ packets) some =
    let first = offered_one now old x in
    let others = offered_all now first.port packets in
    let both = refusals_append first.acts others.acts in
    ⊎_elim (λ (later : 0 < refusals_in others.acts). all_refuse_where_full now first.port packets (omega (arith, later)))
    (λ (none : refusals_in others.acts ≤ 0). all_stay_full now first.port packets (one_refuses_where_full now old x (omega (arith, some, both, none))))
    (cases_lt 0 (refusals_in others.acts))

offers_by_rule : (now : ℕ) (old : PortState) (packets : List Packet) → TurnsAwayByRule now old (offered_all now old packets).acts (offered_all now old packets).port
offers_by_rule now old packets = record {
  offers = length packets;
  counted = (all_balance now old packets).offered;
  lost = (all_lose now old packets).0;
  refused = all_refuse_where_full now old packets;
  list_stays = (all_lose now old packets).1;
}

touched_by_rule : (now : ℕ) (old : PortState) (step : PortStep) → Touches now old step → TurnsAwayByRule now old step.acts step.port
touched_by_rule now old step (by_offers packets is) = subst (λ (x : PortStep). TurnsAwayByRule now old x.acts x.port) (sym is) (offers_by_rule now old packets)
touched_by_rule now old step (by_offer packet is) =
    subst (λ (x : PortStep). TurnsAwayByRule now old x.acts x.port) (sym is) (subst (λ (x : PortStep). TurnsAwayByRule now old x.acts x.port) (one_list now old packet) (offers_by_rule now old (packet ∷ [])))
touched_by_rule now old step (by_take free is) = subst (λ (x : PortStep). TurnsAwayByRule now old x.acts x.port) (sym is) (record {
  offers = 0;
  counted = (taken_balances now old).offered;
  lost = take_loses_none now old;
  refused = λ some. absurd (let none = take_refuses_none now old in omega (arith, some, none));
  list_stays = (taken_counts now old).lose;
})

pub links_turn_away_by_rule : AtEachLink TurnsAwayByRule
links_turn_away_by_rule =
    at_each_link TurnsAwayByRule (λ now port. record { offers = 0; counted = omega arith; lost = refl; refused = λ some. absurd (omega (arith, some)); list_stays = refl }) (λ now old step _ touches. touched_by_rule now old step touches)
