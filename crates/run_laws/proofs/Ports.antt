-- What is done at a link: where the packets are that it had and that were offered.
use Rattle.std.proofs.Common.{◌≡◌, ℕ, suc, ◌+◌, Bool, true, false, cond, List, [], ◌∷◌, ◌++◌, length, map, refl, ap, subst, ◌∙◌, Option, Some, None, arith, length-append, true≢false, sym}
use Rattle.std.specs.Prelude.{count_by, is_none}
use Rattle.std.specs.List.{AllByRecursion}
use Rattle.std.proofs.lemmas.List.Sums.{sum_by-append, sum_by-cons}
use Rattle.packet_chain.specs.declared.packet.Packet.{Packet}
use Rattle.packet_chain.specs.Stamped.{Stamped}
use Rattle.aqm.specs.declared.drop_reason.TakeDrop.{TakeDrop}
use Rattle.aqm.specs.declared.queue.Queue.{Queue}
use Rattle.aqm.specs.Queue.{waiting_in, refuses, taken_from, take_reason}
use Rattle.aqm.specs.Laws.{listed}
use Rattle.aqm.proofs.Front.{takes_the_front}
use Rattle.aqm.proofs.Stays.{enters_last, refused_stays}
use Rattle.port.specs.Losses as losses
use Rattle.port.specs.declared.acts.Act.{Act}
use Rattle.port.specs.Port.{PortState, PortStep, begun, dropped_for, taken, only, with_packet, offered_one, offered_all}
use Rattle.table_run.proofs.Lists.{all_append}
use Rattle.run_laws.specs.Links.{link_of, is_sent}

abbrev pub sends : List Act → ℕ
sends acts = count_by is_sent acts

abbrev pub waiting : PortState → ℕ
waiting port = length (waiting_in port.queue)

-- so many packets were offered: each act is that one packet leaves, at this link
pub record Balances (n : ℕ) (old : PortState) (step : PortStep) : Type 0 where
  pub same_link : step.port.link ≡ old.link
  pub offered : step.port.offered ≡ old.offered + n
  pub total : length step.acts + waiting step.port ≡ n + waiting old
  pub sent : step.port.sent ≡ old.sent + sends step.acts
  pub its : AllByRecursion (λ (act : Act). link_of act ≡ old.link) step.acts

pub sends_append : (xs ys : List Act) → sends (xs ++ ys) ≡ sends xs + sends ys
sends_append xs ys = sum_by-append (λ (act : Act). cond (is_sent act) 1 0) xs ys

sends_cons : (act : Act) (acts : List Act) → sends (act ∷ acts) ≡ cond (is_sent act) 1 0 + sends acts
sends_cons act acts = sum_by-cons (λ (act : Act). cond (is_sent act) 1 0) act acts

-- the acts of a take
module _ (now : ℕ) (old : PortState) (queue : Queue) (reason : TakeDrop) where
  abbrev port : PortState
  port = record old { queue = queue }

  abbrev pub took : List Stamped → Option Stamped → PortStep
  took dropped given = record (begun now port given) { acts = map (dropped_for old.link reason) dropped ++ (begun now port given).acts }

  its_acts : (dropped : List Stamped) (given : Option Stamped) → AllByRecursion (λ (act : Act). link_of act ≡ old.link) (took dropped given).acts
  its_acts [] None = tt
  its_acts [] (Some cell) = (refl, tt)
  its_acts (x ∷ dropped) given = (refl, its_acts dropped given)

  sent_by_take : (dropped : List Stamped) (given : Option Stamped) → (begun now port given).port.sent ≡ old.sent + sends (took dropped given).acts
  sent_by_take [] None = omega arith
  sent_by_take [] (Some cell) = refl
  sent_by_take (x ∷ dropped) given =
      let rest = sent_by_take dropped given in
      let one = sends_cons (dropped_for old.link reason x) (took dropped given).acts in
      omega (arith, rest, one)

  as_many : (dropped : List Stamped) (given : Option Stamped) → length (took dropped given).acts ≡ length (dropped ++ listed given)
  as_many [] None = refl
  as_many [] (Some cell) = refl
  as_many (x ∷ dropped) given = ap suc (as_many dropped given)

  pub queue_same : (given : Option Stamped) → (begun now port given).port.queue ≡ queue
  queue_same None = refl
  queue_same (Some cell) = refl

  link_same : (given : Option Stamped) → (begun now port given).port.link ≡ old.link
  link_same None = refl
  link_same (Some cell) = refl

  offered_same : (given : Option Stamped) → (begun now port given).port.offered ≡ old.offered
  offered_same None = refl
  offered_same (Some cell) = refl

pub taken_balances : (now : ℕ) (old : PortState) → Balances 0 old (taken now old)
taken_balances now old =
    let take = taken_from old.queue now in
    let front : take.dropped ++ listed take.given ++ waiting_in take.queue ≡ waiting_in old.queue = takes_the_front old.queue now in
    let acts = as_many now old take.queue (take_reason old.queue) take.dropped take.given in
    let both = length-append (take.dropped ++ listed take.given) (waiting_in take.queue) in
    let whole = ap length front in
    let rest = ap (λ (q : Queue). length (waiting_in q)) (queue_same now old take.queue (take_reason old.queue) take.given) in
    record {
      same_link = link_same now old take.queue (take_reason old.queue) take.given;
      offered = (let a = offered_same now old take.queue (take_reason old.queue) take.given in omega (arith, a));
      total = omega (arith, acts, both, whole, rest);
      sent = sent_by_take now old take.queue (take_reason old.queue) take.dropped take.given;
      its = its_acts now old take.queue (take_reason old.queue) take.dropped take.given;
    }

pub by_test : {A : Type 0} (P : A → Type 0) (b : Bool) (x y : A) → (b ≡ true → P x) → (b ≡ false → P y) → P (cond b x y)
by_test P true x y h k = h refl
by_test P false x y h k = k refl

pub to_none : (o : Option ℕ) → is_none o ≡ true → o ≡ None
to_none None e = refl
to_none (Some t) e = absurd (true≢false (sym e))

abbrev pub counted : PortState → PortState
counted old = record old { offered = old.offered + 1 }

pub one_balances : (now : ℕ) (old : PortState) (packet : Packet) → Balances 1 old (offered_one now old packet)
one_balances now old packet =
    by_test (Balances 1 old) (losses.is_lost old.lose (old.offered + 1)) _ _
    (λ _. record { same_link = refl; offered = refl; total = omega arith; sent = omega arith; its = (refl, tt) })
    (λ _. by_test (Balances 1 old) (refuses old.queue) _ _
    (λ refused. record { same_link = refl; offered = refl; total = (let still = ap length (refused_stays old.queue (packet, now) now refused) in omega (arith, still)); sent = omega arith; its = (refl, tt) })
    (λ room. by_test (Balances 1 old) (is_none old.next_free) _ _ (λ _. joined room (taken_balances now (with_packet now (counted old) packet))) (λ _. busy room)))
  where
    longer : refuses old.queue ≡ false → waiting (with_packet now (counted old) packet) ≡ waiting old + 1
    longer room = ap length (enters_last old.queue (packet, now) now room) ∙ length-append (waiting_in old.queue) ((packet, now) ∷ [])

    joined : refuses old.queue ≡ false → Balances 0 (with_packet now (counted old) packet) (taken now (with_packet now (counted old) packet)) → Balances 1 old (taken now (with_packet now (counted old) packet))
    joined room h = record {
      same_link = h.same_link;
      offered = (let a = h.offered in omega (arith, a));
      total = (let a = h.total in let b = longer room in omega (arith, a, b));
      sent = h.sent;
      its = h.its;
    }

    busy : refuses old.queue ≡ false → Balances 1 old (only (with_packet now (counted old) packet) [])
    busy room = record { same_link = refl; offered = refl; total = (let b = longer room in omega (arith, b)); sent = omega arith; its = tt }

pub all_balance : (now : ℕ) (old : PortState) (packets : List Packet) → Balances (length packets) old (offered_all now old packets)
all_balance now old [] = record { same_link = refl; offered = omega arith; total = omega arith; sent = omega arith; its = tt }
all_balance now old (x ∷ packets) =
    let first = offered_one now old x in
    let others = offered_all now first.port packets in
    let a = one_balances now old x in
    let b = all_balance now first.port packets in
    record {
      same_link = b.same_link ∙ a.same_link;
      offered = (let c = a.offered in let d = b.offered in omega (arith, c, d));
      total = (let c = a.total in let d = b.total in let e = length-append first.acts others.acts in omega (arith, c, d, e));
      sent = (let c = a.sent in let d = b.sent in let e = sends_append first.acts others.acts in omega (arith, c, d, e));
      its = all_append (λ (act : Act). link_of act ≡ old.link) first.acts others.acts a.its (subst (λ n. AllByRecursion (λ (act : Act). link_of act ≡ n) others.acts) a.same_link b.its);
    }
