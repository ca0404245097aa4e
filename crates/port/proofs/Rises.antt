-- What a link sends arrives one after another.
use Rattle.std.proofs.Common.{◌≡◌, ◌<◌, ◌≤◌, ℕ, zero, suc, ◌+◌, Bool, true, false, cond, List, [], ◌∷◌, ◌++◌, map, length, get_or, Option, Some, None, refl, sym, subst, arith, add-one}
use Rattle.std.specs.Prelude.{is_none, option_to_list}
use Rattle.std.specs.List.{AllByRecursion}
use Rattle.std.specs.List.Sorted.{IsStrictlyIncreasing}
use Rattle.std.proofs.lemmas.List.Elements.{recursion_from_All}
use Rattle.sim_time.specs.Serial.{IsRate, serial}
use Rattle.sim_time.proofs.Serial.{serial_fits}
use Rattle.packet_chain.specs.declared.packet.Packet.{Packet}
use Rattle.packet_chain.specs.PacketBytes.{IsPacketBytes}
use Rattle.packet_chain.specs.Stamped.{Stamped}
use Rattle.aqm.specs.declared.queue.Queue.{Queue}
use Rattle.aqm.specs.Queue.{waiting_in, refuses, offered_to, taken_from}
use Rattle.aqm.specs.Laws.{listed}
use Rattle.aqm.proofs.Front.{takes_the_front}
use Rattle.aqm.proofs.Stays.{queues_stay}
use Rattle.port.specs.Port.{PortState, PortStep, Departure, begun, taken, with_packet, offered_one}
use Rattle.port.specs.History.{Call, Offer, Free, history, offered_in, AreTimely}
use Rattle.port.specs.Laws.{ArrivalsRise}
use Rattle.port.proofs.Cases.{counted_one, after_tests, offered_by_case, queue_stays}

abbrev AllSized : List Stamped → Type 0
AllSized = AllByRecursion (λ cell. IsPacketBytes cell.0.bytes)

-- the link sends at a rate, and the packets that wait are in their range of sizes
record IsFine (port : PortState) : Type 0 where
  pub rate_range : IsRate port.rate
  pub sizes : AllSized (waiting_in port.queue)

-- nothing that begins to be sent from a moment on arrives as early as what arrived last
record IsPast (port : PortState) (since last : ℕ) : Type 0 where
  pub idle : port.next_free ≡ None → last ≤ since + port.delay
  pub busy : (t : ℕ) → port.next_free ≡ Some t → last ≤ t + port.delay

-- what departs arrives later than what arrived last, and what departs next arrives later still
Follows : Option Departure → PortState → ℕ → ℕ → Type 0
Follows None port now last = IsPast port now last
Follows (Some d) port now last = (last < d.arrival) × IsPast port now d.arrival

record IsNext (now last : ℕ) (step : PortStep) : Type 0 where
  pub follows : Follows step.departure step.port now last
  pub fine : IsFine step.port

sized_parts : (xs ys : List Stamped) → AllSized (xs ++ ys) → AllSized xs × AllSized ys
sized_parts [] ys all = (tt, all)
sized_parts (x ∷ xs) ys all = let rest = sized_parts xs ys all.1 in ((all.0, rest.0), rest.1)

sized_last : (xs : List Stamped) (cell : Stamped) → AllSized xs → IsPacketBytes cell.0.bytes → AllSized (xs ++ cell ∷ [])
sized_last [] cell all size = (size, tt)
sized_last (x ∷ xs) cell all size = (all.0, sized_last xs cell all.1 size)

sized_entry : (waiting : List Stamped) (packet : Packet) (now : ℕ) (refused : Bool) → AllSized waiting → IsPacketBytes packet.bytes → AllSized (cond refused waiting (waiting ++ (packet, now) ∷ []))
sized_entry waiting packet now true all size = all
sized_entry waiting packet now false all size = sized_last waiting (packet, now) all size

sized_with : (q : Queue) (packet : Packet) (now : ℕ) → AllSized (waiting_in q) → IsPacketBytes packet.bytes → AllSized (waiting_in (offered_to q (packet, now) now))
sized_with q packet now all size = subst AllSized (sym ((queues_stay q now).waits (packet, now))) (sized_entry (waiting_in q) packet now (refuses q) all size)

begun_follows : (now last : ℕ) (port : PortState) (given : Option Stamped) → IsRate port.rate → AllSized (listed given) → last ≤ now + port.delay → Follows (begun now port given).departure (begun now port given).port now last
unfolding Follows
begun_follows now last port None rate sizes past = record { idle = λ e. past; busy = λ t e. cc }
begun_follows now last port (Some cell) rate sizes past =
    let time = serial_fits cell.0.bytes port.rate sizes.0.0 sizes.0.1 rate in
    (omega (arith, past, time.positive), record { idle = λ e. cc; busy = λ t e. let same : now + serial cell.0.bytes port.rate ≡ t = cc in omega (arith, same) })

begun_rate : (now : ℕ) (port : PortState) (given : Option Stamped) → (begun now port given).port.rate ≡ port.rate
begun_rate now port None = refl
begun_rate now port (Some cell) = refl

taken_next : (now last : ℕ) (port : PortState) → IsFine port → last ≤ now + port.delay → IsNext now last (taken now port)
taken_next now last port fine past =
    let take = taken_from port.queue now in
    let at = record port { queue = take.queue } in
    let whole = subst AllSized (sym (takes_the_front port.queue now)) fine.sizes in
    let apart = sized_parts (take.dropped ++ listed take.given) (waiting_in take.queue) whole in
    let given = sized_parts take.dropped (listed take.given) apart.0 in
    record {
      follows = begun_follows now last at take.given fine.rate_range given.1 past;
      fine = record { rate_range = subst IsRate (sym (begun_rate now at take.given)) fine.rate_range; sizes = subst (λ q. AllSized (waiting_in q)) (sym (queue_stays now at take.given)) apart.1 };
    }

later_past : (port : PortState) (since now last : ℕ) → since ≤ now → IsPast port since last → IsPast port now last
later_past port since now last le past = record { idle = λ e. let least = past.idle e in omega (arith, least); busy = past.busy }

offered_next : (since now last : ℕ) (port : PortState) (packet : Packet) → IsFine port → IsPacketBytes packet.bytes → since ≤ now → IsPast port since last → (lost full idle : Bool) → is_none port.next_free ≡ idle
    → IsNext now last (after_tests now (counted_one port) packet lost full idle)
unfolding Follows
offered_next since now last port packet fine size le past true full idle is =
    let later = later_past port since now last le past in
    record { follows = record { idle = later.idle; busy = later.busy }; fine = record { rate_range = fine.rate_range; sizes = fine.sizes } }
offered_next since now last port packet fine size le past false true idle is =
    let later = later_past port since now last le past in
    record { follows = record { idle = later.idle; busy = later.busy }; fine = record { rate_range = fine.rate_range; sizes = sized_with port.queue packet now fine.sizes size } }
offered_next since now last port packet fine size le past false false true is =
    taken_next now last (with_packet now (counted_one port) packet) (record { rate_range = fine.rate_range; sizes = sized_with port.queue packet now fine.sizes size })
    (let later = later_past port since now last le past in later.idle (is_idle port.next_free is))
  where
    is_idle : (o : Option ℕ) → is_none o ≡ true → o ≡ None
    is_idle None e = refl
    is_idle (Some t) e = absurd (cc)
offered_next since now last port packet fine size le past false false false is =
    let later = later_past port since now last le past in
    record { follows = record { idle = later.idle; busy = later.busy }; fine = record { rate_range = fine.rate_range; sizes = sized_with port.queue packet now fine.sizes size } }

-- each is above the one before it, and the first above a number
abbrev RisesAbove : ℕ → List ℕ → Type 0
RisesAbove last [] = Unit {0}
RisesAbove last (x ∷ xs) = (last < x) × RisesAbove x xs

arrivals : List Departure → List ℕ
arrivals = map (λ (departure : Departure). departure.arrival)

joined : (d : Option Departure) (port : PortState) (now last : ℕ) (rest : List Departure) → Follows d port now last → ((then : ℕ) → IsPast port now then → RisesAbove then (arrivals rest)) → RisesAbove last (arrivals (option_to_list d ++ rest))
unfolding Follows arrivals
joined None port now last rest follows more = more last follows
joined (Some d) port now last rest follows more = (follows.0, more d.arrival follows.1)

abbrev AllOfferedSized : List Packet → Type 0
AllOfferedSized = AllByRecursion (λ packet. IsPacketBytes packet.bytes)

rises : (port : PortState) (calls : List Call) (since last : ℕ) → IsFine port → AllOfferedSized (offered_in calls) → AreTimely since port calls → IsPast port since last → RisesAbove last (arrivals (history port calls).departures)
unfolding arrivals
rises port [] since last fine sizes timely past = tt
rises port (Offer now packet ∷ calls) since last fine sizes timely past =
    let step = offered_one now port packet in
    let next = offered_by_case (IsNext now last) now port packet (λ idle is lost full _. offered_next since now last port packet fine sizes.0 timely.0 past lost full idle is) in
    joined step.departure step.port now last (history step.port calls).departures next.follows (λ then past'. rises step.port calls now then next.fine sizes.1 timely.1 past')
rises port (Free now ∷ calls) since last fine sizes timely past =
    let step = taken now port in
    let next = taken_next now last port fine (past.busy now timely.1) in
    joined step.departure step.port now last (history step.port calls).departures next.follows (λ then past'. rises step.port calls now then next.fine sizes timely.2 past')

increasing : (last : ℕ) (xs : List ℕ) → RisesAbove last xs → IsStrictlyIncreasing xs
increasing last [] h = λ k within. absurd (omega arith)
increasing last (x ∷ []) h = λ k within. absurd (omega arith)
increasing last (x ∷ y ∷ xs) h = at (increasing x (y ∷ xs) h.1)
  where
    at : IsStrictlyIncreasing (y ∷ xs) → (k : ℕ) → k + 1 < length (x ∷ y ∷ xs) → get_or (x ∷ y ∷ xs) k 0 < get_or (x ∷ y ∷ xs) (k + 1) 0
    at rest zero within = h.1.0
    at rest (suc k) within = let less = rest k (omega (arith, within)) in rw add-one (rw add-one at less)

pub arrivals_rise : ArrivalsRise
unfolding arrivals
arrivals_rise since port calls sizes timely =
    increasing 0 (arrivals (history port calls).departures)
    (rises port calls since 0 (record { rate_range = sizes.rate_range; sizes = recursion_from_All (λ (cell : Stamped). IsPacketBytes cell.0.bytes) (waiting_in port.queue) sizes.waiting_sizes })
    (recursion_from_All (λ (packet : Packet). IsPacketBytes packet.bytes) (offered_in calls) sizes.offered_sizes) timely (record { idle = λ e. omega arith; busy = λ t e. omega arith }))
