-- What offerings and takings leave: each packet that was offered or waited is told of, or waits.
use Rattle.std.proofs.Common.{◌≡◌, ℕ, ◌+◌, ◌-◌, ◌≤◌, Bool, true, false, cond, List, [], ◌∷◌, ◌++◌, map, length, length-append, refl, ap, ◌∙◌, Option, Some, None, arith}
use Rattle.std.specs.Prelude.{is_none, option_to_list}
use Rattle.std.specs.List.{sum_by, filter_map}
use Rattle.std.specs.Option.{option_map}
use Rattle.std.proofs.lemmas.List.Sums.{sum_by-cons}
use Rattle.packet_chain.specs.declared.packet.Packet.{Packet}
use Rattle.packet_chain.specs.Stamped.{Stamped}
use Rattle.aqm.specs.declared.queue.Queue.{Queue}
use Rattle.aqm.specs.Queue.{waiting_in, refuses, offer_reason, take_reason, taken_from, offered_to}
use Rattle.aqm.specs.Laws.{listed}
use Rattle.aqm.proofs.Front.{takes_the_front}
use Rattle.aqm.proofs.Stays.{enters_last, refused_stays}
use Rattle.port.specs.declared.acts.Act.{Act}
use Rattle.port.specs.declared.acts.Act.TheVariants.{Tx, Dropped}
use Rattle.aqm.specs.declared.drop_reason.DropReason.{DropReason}
use Rattle.aqm.specs.declared.drop_reason.DropReason.TheVariants.{Lost, Offer}
use Rattle.aqm.specs.DropReasons.{all_reasons}
use Rattle.aqm.proofs.Reasons.{told_once}
use Rattle.aqm.specs.declared.drop_reason.TakeDrop.{TakeDrop}
use Rattle.port.specs.Losses.{is_lost}
use Rattle.port.specs.Port.{PortState, Departure, begun, dropped_for, taken, only, with_packet, offered_one, offered_all}
use Rattle.port.specs.Laws.{sent_by}
use Rattle.port.proofs.Cases.{counted_one, queue_stays}
use Rattle.port.proofs.StepLaws.{taken_counts, one_departs_at_most}
use Rattle.figures.specs.Links.{waiting_at, is_for, dropped_in, is_tx, tx_in}
use Rattle.figures.proofs.ByReason.{sums_added}

more_dropped : (reason : DropReason) (act : Act) (acts : List Act) → dropped_in reason (act ∷ acts) ≡ cond (is_for reason act) 1 0 + dropped_in reason acts
more_dropped reason act acts = sum_by-cons (λ (a : Act). cond {A = ℕ} (is_for reason a) 1 0) act acts

more_sent : (act : Act) (acts : List Act) → tx_in (act ∷ acts) ≡ cond (is_tx act) 1 0 + tx_in acts
more_sent act acts = sum_by-cons (λ (a : Act). cond {A = ℕ} (is_tx a) 1 0) act acts

-- each act is a drop for one reason, or a sending
abbrev pub all_dropped_in : List Act → ℕ
all_dropped_in acts = sum_by (λ reason. dropped_in reason acts) all_reasons

all_more : (act : Act) (acts : List Act) → all_dropped_in (act ∷ acts) ≡ sum_by (λ reason. cond {A = ℕ} (is_for reason act) 1 0) all_reasons + all_dropped_in acts
all_more act acts =
    ap (λ (f : DropReason → ℕ). sum_by f all_reasons) (λ i reason. more_dropped reason act acts i)
    ∙ sums_added (λ reason. cond {A = ℕ} (is_for reason act) 1 0) (λ reason. dropped_in reason acts) all_reasons

pub reported_once : (acts : List Act) → all_dropped_in acts + tx_in acts ≡ length acts
reported_once [] = refl
reported_once (Tx link packet ∷ acts) =
    let rest = reported_once acts in
    let drops = all_more (Tx link packet) acts in
    let none : sum_by (λ reason. cond {A = ℕ} (is_for reason (Tx link packet)) 1 0) all_reasons ≡ 0 = refl in
    let sent = more_sent (Tx link packet) acts in
    omega (arith, rest, drops, none, sent)
reported_once (Dropped link why packet ∷ acts) =
    let rest = reported_once acts in
    let drops = all_more (Dropped link why packet) acts in
    let one : sum_by (λ reason. cond {A = ℕ} (is_for reason (Dropped link why packet)) 1 0) all_reasons ≡ 1 = told_once why in
    let sent = more_sent (Dropped link why packet) acts in
    omega (arith, rest, drops, one, sent)

-- what was offered and waited is what was offered before, what the acts tell of, and what waits
abbrev pub Balanced : PortState → PortState → List Act → Type 0
Balanced old new acts = new.offered + waiting_at old ≡ old.offered + waiting_at new + length acts

taken_acts : (now : ℕ) (port : PortState) (reason : TakeDrop) (dropped : List Stamped) (given : Option Stamped) → length (map (dropped_for port.link reason) dropped ++ (begun now port given).acts) ≡ length (dropped ++ listed given)
taken_acts now port reason [] None = refl
taken_acts now port reason [] (Some cell) = refl
taken_acts now port reason (d ∷ dropped) given = let rest = taken_acts now port reason dropped given in omega (arith, rest)

pub taken_balances : (now : ℕ) (port : PortState) → Balanced port (taken now port).port (taken now port).acts
taken_balances now port =
    let take = taken_from port.queue now in
    let at = record port { queue = take.queue } in
    let front = ap length (takes_the_front port.queue now) in
    let parts = length-append (take.dropped ++ listed take.given) (waiting_in take.queue) in
    let acts = taken_acts now at (take_reason port.queue) take.dropped take.given in
    let rest : waiting_at (taken now port).port ≡ length (waiting_in take.queue) = ap (λ q. length (waiting_in q)) (queue_stays now at take.given) in
    let same = (taken_counts now port).offered in
    omega (arith, front, parts, acts, rest, same)

-- a packet that enters a queue is one more
more_in : (q : Queue) (packet : Packet) (now : ℕ) → refuses q ≡ false → length (waiting_in (offered_to q (packet, now) now)) ≡ length (waiting_in q) + 1
more_in q packet now room = ap length (enters_last q (packet, now) now room) ∙ length-append (waiting_in q) ((packet, now) ∷ [])

enters : (now : ℕ) (port : PortState) (packet : Packet) (idle : Bool) → refuses port.queue ≡ false → let step = cond idle (taken now (with_packet now (counted_one port) packet)) (only (with_packet now (counted_one port) packet) []) in Balanced port step.port step.acts
enters now port packet true room =
    let more = more_in port.queue packet now room in
    let balance = taken_balances now (with_packet now (counted_one port) packet) in
    omega (arith, more, balance)
enters now port packet false room = let more = more_in port.queue packet now room in omega (arith, more)

offers : (now : ℕ) (port : PortState) (packet : Packet) (lost full idle : Bool) → refuses port.queue ≡ full →
    let step = cond lost (only (counted_one port) (Dropped port.link Lost packet ∷ [])) (cond full (only (with_packet now (counted_one port) packet) (Dropped port.link (Offer (offer_reason port.queue)) packet ∷ [])) (cond idle (taken now (with_packet now (counted_one port) packet)) (only (with_packet now (counted_one port) packet) []))) in Balanced port step.port step.acts
offers now port packet true full idle room = omega arith
offers now port packet false true idle room = let still = ap length (refused_stays port.queue (packet, now) now room) in omega (arith, still)
offers now port packet false false idle room = enters now port packet idle room

one_balances : (now : ℕ) (port : PortState) (packet : Packet) → Balanced port (offered_one now port packet).port (offered_one now port packet).acts
one_balances now port packet = offers now port packet (is_lost port.lose (port.offered + 1)) (refuses port.queue) (is_none port.next_free) refl

pub all_balance : (now : ℕ) (port : PortState) (packets : List Packet) → Balanced port (offered_all now port packets).port (offered_all now port packets).acts
all_balance now port [] = omega arith
all_balance now port (packet ∷ packets) =
    let first = offered_one now port packet in
    let others = offered_all now first.port packets in
    let one = one_balances now port packet in
    let rest = all_balance now first.port packets in
    let both = length-append first.acts others.acts in
    omega (arith, one, rest, both)

-- what is sent of offerings is one packet at most
sent_are : (acts : List Act) → tx_in acts ≡ length (filter_map sent_by acts)
sent_are [] = refl
sent_are (Tx link packet ∷ acts) = let rest = sent_are acts in let more = more_sent (Tx link packet) acts in omega (arith, rest, more)
sent_are (Dropped link reason packet ∷ acts) = let rest = sent_are acts in let more = more_sent (Dropped link reason packet) acts in omega (arith, rest, more)

one_at_most : (d : Option Departure) → length (map (λ (departure : Departure). departure.packet) (option_to_list d)) ≤ 1
one_at_most None = omega arith
one_at_most (Some d) = omega arith

pub offerings_send_one : (now : ℕ) (port : PortState) (packets : List Packet) → tx_in (offered_all now port packets).acts ≤ 1
offerings_send_one now port packets =
    let step = offered_all now port packets in
    let are = sent_are step.acts in
    let departs = ap length (one_departs_at_most now port packets) in
    let one = one_at_most step.departure in
    omega (arith, are, departs, one)

-- a taking sends what it is given
pub taken_sends_given : (now : ℕ) (at : PortState) (reason : TakeDrop) (dropped : List Stamped) (given : Option Stamped) → length (option_to_list (option_map {U = ℕ} (λ (cell : Stamped). now - cell.1) given)) ≡ tx_in (map (dropped_for at.link reason) dropped ++ (begun now at given).acts)
taken_sends_given now at reason [] None = refl
taken_sends_given now at reason [] (Some cell) = refl
taken_sends_given now at reason (d ∷ dropped) given = let rest = taken_sends_given now at reason dropped given in let more = more_sent (dropped_for at.link reason d) (map (dropped_for at.link reason) dropped ++ (begun now at given).acts) in omega (arith, rest, more)
