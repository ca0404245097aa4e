-- What becomes of packets at each link of each run.
use Rattle.std.specs.Prelude.{◌≡◌, ◌≢◌, ℕ, zero, suc, ◌+◌, ◌-◌, ◌*◌, ◌==◌, ◌<◌, ◌≤◌, ◌⊎◌, min, Bool, true, false, not, List, [], ◌∷◌, ◌++◌, length, map, drop, slice_get, filter, count_by, Option, Some, None, IfSome, IsSomeAnd}
use Rattle.std.specs.List.{AllByRecursion, list_any, flat_map, filter_map, sum_by, range_with_len}
use Rattle.std.specs.FinMap as finmap
use Rattle.sim_time.specs.ControlLaw.{gap_of}
use Rattle.sim_time.specs.declared.key.Key.{Key}
use Rattle.std.specs.Option.{unwrap_or}
use Rattle.packet_chain.specs.declared.packet.Packet.{Packet}
use Rattle.packet_chain.specs.Stamped.{Stamped, bytes_of}
use Rattle.aqm.specs.declared.queue.Queue.TheVariants.{DropTail, Codel}
use Rattle.aqm.specs.DropTail.{DropTailState}
use Rattle.aqm.specs.Codel.{CodelState}
use Rattle.aqm.specs.Judgement.{judgement}
use Rattle.aqm.specs.Laws.{IsForCause}
use Rattle.aqm.specs.declared.drop_reason.DropReason.TheVariants.{Lost, Offer, Take}
use Rattle.aqm.specs.Queue.{fifo_of, waiting_in}
use Rattle.port.specs.declared.acts.Act.{Act}
use Rattle.port.specs.declared.acts.Act.TheVariants.{Tx, Dropped}
use Rattle.port.specs.Port.{PortState}
use Rattle.port.specs.Laws.{queue_drop_in}
use Rattle.node_core.specs.declared.event.Event.TheVariants.{Arrive}
use Rattle.node_core.specs.Part.{link_at}
use Rattle.node_core.specs.Pending.{Events}
use Rattle.node_core.specs.TraceLine.{TraceLine}
use Rattle.table_run.specs.State.{State, part_at, effect_of, stepped}
use Rattle.table_run.specs.Laws.{AtEachEvent}
use Rattle.run_laws.specs.Laws.{InEveryState}

-- the sending side of a link: one of those that leave a node
abbrev pub port_of_link : State → ℕ → ℕ → PortState
port_of_link s node index = (link_at (part_at s node).links index).port

-- the link of an act
abbrev pub link_of : Act → ℕ
link_of (Tx link packet) = link
link_of (Dropped link reason packet) = link

-- what lines tell of one link
abbrev pub acts_at : ℕ → List TraceLine → List Act
acts_at number lines = filter (λ act. link_of act == number) (flat_map (λ (line : TraceLine). line.acts) lines)

abbrev pub is_sent : Act → Bool
is_sent (Tx link packet) = true
is_sent (Dropped link reason packet) = false

abbrev pub is_lost_act : Act → Bool
is_lost_act (Dropped link Lost packet) = true
is_lost_act act = false

abbrev pub is_refused : Act → Bool
is_refused (Dropped link (Offer reason) packet) = true
is_refused act = false

abbrev pub by_queue : Act → Bool
by_queue (Dropped link (Take reason) packet) = true
by_queue act = false

-- each packet that was offered was lost, dropped by the queue as it came or at a take, or began to be sent, or it waits: one of these
pub record IsConserved (acts : List Act) (port : PortState) : Type 0 where
  pub offered : port.offered ≡ count_by is_lost_act acts + count_by is_refused acts + count_by by_queue acts + count_by is_sent acts + length (waiting_in port.queue)
  pub sent : port.sent ≡ count_by is_sent acts

-- P holds of each link in every state, with what the lines tell of it
abbrev pub OfEachLink : (List Act → PortState → Type 0) → Type 0
OfEachLink P = InEveryState (λ p lines s. (node index : ℕ) → index < length (part_at s node).links → P (acts_at (port_of_link s node index).link lines) (port_of_link s node index))

abbrev pub PacketsAreConserved : Type 0
PacketsAreConserved = OfEachLink IsConserved

-- P holds of each event at each link: its moment, the link before, the acts there, and the link afterwards
abbrev pub AtEachLink : (ℕ → PortState → List Act → PortState → Type 0) → Type 0
AtEachLink P = AtEachEvent (λ p s k v. (node index : ℕ) → index < length (part_at s node).links → let old = port_of_link s node index in
    P k.time old (filter (λ act. link_of act == old.link) (effect_of s (k, v)).acts) (port_of_link (stepped s k (effect_of s (k, v))) node index))

-- the packet that an act tells to leave the queue
abbrev pub left_by : Act → Option Packet
left_by (Tx link packet) = Some packet
left_by (Dropped link (Take reason) packet) = Some packet
left_by act = None

abbrev pub packets_of : PortState → List Packet
packets_of port = map (λ (cell : Stamped). cell.0) (waiting_in port.queue)

-- packets leave the queue in the order in which they entered it
pub record LeavesInTurn (now : ℕ) (old : PortState) (acts : List Act) (new : PortState) : Type 0 where
  pub joined : List Packet
  pub in_turn : filter_map left_by acts ++ packets_of new ≡ packets_of old ++ joined

-- with drop-tail nothing that entered is dropped
abbrev pub SendsAllThatEntered : ℕ → PortState → List Act → PortState → Type 0
SendsAllThatEntered now old acts new = (s : DropTailState) → old.queue ≡ DropTail s → filter_map queue_drop_in acts ≡ []

-- one packet at a time, and none while another is sent
pub record SendsOneByOne (now : ℕ) (old : PortState) (acts : List Act) (new : PortState) : Type 0 where
  pub at_most : count_by is_sent acts ≤ 1
  pub while_busy : (t : ℕ) → old.next_free ≡ Some t → t ≢ now → (count_by is_sent acts ≡ 0) × (new.next_free ≡ Some t)

-- each packet that CoDel drops has waited for the target, with more than maxpacket bytes behind it
abbrev pub DropsForCause : ℕ → PortState → List Act → PortState → Type 0
DropsForCause now old acts new = (s : CodelState) (i : ℕ) → old.queue ≡ Codel s →
    IfSome (slice_get (filter_map queue_drop_in acts) i) (λ x. IsSomeAnd (slice_get s.fifo.waiting i) (λ cell. (cell.0 ≡ x) × IsForCause s now (bytes_of (drop (i + 1) s.fifo.waiting)) cell))

-- when the drop behind so many more is due: each moves it by a gap of the control law, interval / sqrt(count), for the count that it then has
abbrev pub due_behind : CodelState → ℕ → ℕ
due_behind s zero = s.drop_next
due_behind s (suc n) = due_behind s n + gap_of s.interval (min (s.count + suc n) 4294967295)

-- in drop state no drop is early, each moves the next by a gap of the control law, and none that is due is left where a packet is sent
pub record DropsOnTime (now : ℕ) (old : PortState) (acts : List Act) (new : PortState) : Type 0 where
  pub none_early : (s : CodelState) (j : ℕ) → old.queue ≡ Codel s → s.dropping ≡ true → j < length (filter_map queue_drop_in acts) → due_behind s j ≤ now
  pub next : (s q : CodelState) → old.queue ≡ Codel s → s.dropping ≡ true → new.queue ≡ Codel q → q.dropping ≡ true → q.drop_next ≡ due_behind s (length (filter_map queue_drop_in acts))
  pub none_left : (s : CodelState) → old.queue ≡ Codel s → s.dropping ≡ true → 1 ≤ count_by is_sent acts → (judgement s now (length (filter_map queue_drop_in acts))).ok ≡ true → now < due_behind s (length (filter_map queue_drop_in acts))

-- the packet at the head has waited for the target, with more than maxpacket bytes behind it; or it has not
pub record IsAbove (s : CodelState) (now left : ℕ) (cell : Stamped) : Type 0 where
  pub waited : s.target ≤ now - cell.1
  pub behind : s.maxpacket < left

abbrev pub IsBelow : CodelState → ℕ → ℕ → Stamped → Type 0
IsBelow s now left cell = (now - cell.1 < s.target) ⊎ (left ≤ s.maxpacket)

-- nothing is dropped, and drop state doesn't begin
pub record DropsNothing (acts : List Act) (q : CodelState) (first_above : Option ℕ) : Type 0 where
  pub first_above_is : q.first_above ≡ first_above
  pub outside : q.dropping ≡ false
  pub none_dropped : filter_map queue_drop_in acts ≡ []

-- outside drop state, by the packet at the head: below target the clock is off; the first above it sets it an interval ahead, until then nothing is dropped, and from then on the head is dropped and drop state begins
pub record EntersDropState (now : ℕ) (s : CodelState) (cell : Stamped) (acts : List Act) (q : CodelState) : Type 0 where
  pub below : IsBelow s now (bytes_of (drop 1 s.fifo.waiting)) cell → DropsNothing acts q None
  pub first : IsAbove s now (bytes_of (drop 1 s.fifo.waiting)) cell → s.first_above ≡ None → DropsNothing acts q (Some (now + s.interval))
  pub early : (t : ℕ) → IsAbove s now (bytes_of (drop 1 s.fifo.waiting)) cell → s.first_above ≡ Some t → now < t → DropsNothing acts q (Some t)
  pub due : (t : ℕ) → IsAbove s now (bytes_of (drop 1 s.fifo.waiting)) cell → s.first_above ≡ Some t → t ≤ now → (q.dropping ≡ true) × (filter_map queue_drop_in acts ≡ cell.0 ∷ [])

-- where a link takes from CoDel's queue and sends: drop state begins by the head, and it ends where the packet that is sent is below target
pub record KeepsDropState (now : ℕ) (old : PortState) (acts : List Act) (new : PortState) : Type 0 where
  pub enters : (s q : CodelState) (cell : Stamped) → old.queue ≡ Codel s → new.queue ≡ Codel q → 1 ≤ count_by is_sent acts → slice_get s.fifo.waiting 0 ≡ Some cell → s.dropping ≡ false → EntersDropState now s cell acts q
  pub leaves : (s q : CodelState) (head cell : Stamped) → old.queue ≡ Codel s → new.queue ≡ Codel q → 1 ≤ count_by is_sent acts → slice_get s.fifo.waiting 0 ≡ Some head → s.dropping ≡ true
      → let k = length (filter_map queue_drop_in acts) in slice_get s.fifo.waiting k ≡ Some cell → IsBelow s now (bytes_of (drop (k + 1) s.fifo.waiting)) cell → (q.dropping ≡ false) × (q.first_above ≡ None)

-- how a drop state begins (RFC 8289 sections 5.4 and 5.5): with as many drops as the one before made after its first, where those are more than one and less than 16 intervals passed since the next one was due; else with one. The next drop is due a gap of the control law later
pub record BeginsDropState (now : ℕ) (s q : CodelState) : Type 0 where
  pub again : 1 < s.count - s.lastcount → now - s.drop_next < 16 * s.interval → q.count ≡ s.count - s.lastcount
  pub anew : (s.count - s.lastcount ≤ 1) ⊎ (16 * s.interval ≤ now - s.drop_next) → q.count ≡ 1
  pub lastcount : q.lastcount ≡ q.count
  pub next : q.drop_next ≡ now + gap_of s.interval q.count

-- the packets up to a place are above target, each with those behind it
abbrev pub AreAbove : CodelState → ℕ → ℕ → Type 0
AreAbove s now k = (j : ℕ) → j ≤ k → IsSomeAnd (slice_get s.fifo.waiting j) (IsAbove s now (bytes_of (drop (j + 1) s.fifo.waiting)))

-- how CoDel counts its drops, where a link takes and sends: in drop state by one for each, up to 2^32 - 1; it lasts while packets are above target, and where it ends the moment stays at which the last drop was due; outside it nothing changes before the next begins
pub record CountsDrops (now : ℕ) (old : PortState) (acts : List Act) (new : PortState) : Type 0 where
  pub counts : (s q : CodelState) (head : Stamped) → old.queue ≡ Codel s → new.queue ≡ Codel q → 1 ≤ count_by is_sent acts → slice_get s.fifo.waiting 0 ≡ Some head → s.dropping ≡ true
      → let k = length (filter_map queue_drop_in acts) in (q.count ≡ min (s.count + k) 4294967295) × (q.lastcount ≡ s.lastcount) × (q.dropping ≡ false → q.drop_next ≡ due_behind s (k - 1))
  pub lasts : (s q : CodelState) (head : Stamped) (t : ℕ) → old.queue ≡ Codel s → new.queue ≡ Codel q → 1 ≤ count_by is_sent acts → slice_get s.fifo.waiting 0 ≡ Some head → s.dropping ≡ true → s.first_above ≡ Some t → t ≤ now → AreAbove s now (length (filter_map queue_drop_in acts)) → (q.dropping ≡ true) × (q.first_above ≡ Some t)
  pub begins : (s q : CodelState) (head : Stamped) → old.queue ≡ Codel s → new.queue ≡ Codel q → 1 ≤ count_by is_sent acts → slice_get s.fifo.waiting 0 ≡ Some head → s.dropping ≡ false → q.dropping ≡ true → BeginsDropState now s q
  pub outside : (s q : CodelState) (head : Stamped) → old.queue ≡ Codel s → new.queue ≡ Codel q → 1 ≤ count_by is_sent acts → slice_get s.fifo.waiting 0 ≡ Some head → s.dropping ≡ false → q.dropping ≡ false
      → (q.count ≡ s.count) × (q.lastcount ≡ s.lastcount) × (q.drop_next ≡ s.drop_next)

-- the bytes that an act tells to be sent
abbrev pub bytes_by : Act → ℕ
bytes_by (Tx link packet) = packet.bytes
bytes_by (Dropped link reason packet) = 0

-- what was sent up to a moment fits the link's rate up to when the link is free, or that moment
abbrev pub IsWithinRate : ℕ → List Act → PortState → Type 0
IsWithinRate now acts port = sum_by bytes_by acts * 8000000000 ≤ unwrap_or port.next_free now * port.rate

abbrev pub RatesHold : Type 0
RatesHold = InEveryState (λ p lines s. (now : ℕ) → AllByRecursion (λ (line : TraceLine). line.key.time ≤ now) lines → (node index : ℕ) → index < length (part_at s node).links → let port = port_of_link s node index in IsWithinRate now (acts_at port.link lines) port)

-- the numbers of the packets that arrived over a link, in the order in which they came; a packet's number is how many the link had begun to send with it
abbrev pub arrived : ℕ → List TraceLine → List ℕ
arrived link lines = map (λ (line : TraceLine). line.key.number) (filter (λ (line : TraceLine). line.key.source == link + 1) lines)

-- a packet of this number is under way over the link
pub record IsComing (events : Events) (link number : ℕ) : Type 0 where
  pub key : Key
  pub packet : Packet
  pub pending : finmap.get events key ≡ Some (Arrive packet)
  pub over : key.source ≡ link + 1
  pub its_number : key.number ≡ number

-- of the packets that a link began to send the first so many arrived, in turn, and each other one is under way, once
pub record ArrivesOnce (lines : List TraceLine) (events : Events) (port : PortState) : Type 0 where
  pub in_turn : arrived port.link lines ≡ range_with_len 1 (length (arrived port.link lines))
  pub no_more : length (arrived port.link lines) ≤ port.sent
  pub coming : (number : ℕ) → length (arrived port.link lines) < number → number ≤ port.sent → IsComing events port.link number
  pub after : (number : ℕ) → IsComing events port.link number → (length (arrived port.link lines) < number) × (number ≤ port.sent)
  pub once : (number : ℕ) (a b : IsComing events port.link number) → a.key ≡ b.key

abbrev pub PacketsArriveOnce : Type 0
PacketsArriveOnce = InEveryState (λ p lines s. (node index : ℕ) → index < length (part_at s node).links → ArrivesOnce lines s.pending (port_of_link s node index))

-- the packet that an act turns away: it is lost, or refused as it comes
abbrev pub turned_away : Act → Option Packet
turned_away (Dropped link Lost packet) = Some packet
turned_away (Dropped link (Offer reason) packet) = Some packet
turned_away act = None

-- these packets are offered to a link and no others, in their order: each is turned away, or it joins those that wait, at the end
pub record IsOffered (packets : List Packet) (old : PortState) (acts : List Act) (new : PortState) : Type 0 where
  pub fates : List (Packet × Bool)
  pub each_one : map (λ x. x.0) fates ≡ packets
  pub away : filter_map turned_away acts ≡ map (λ x. x.0) (filter (λ x. not x.1) fates)
  pub joins : filter_map left_by acts ++ packets_of new ≡ packets_of old ++ map (λ x. x.0) (filter (λ x. x.1) fates)
  pub counted : new.offered ≡ old.offered + length packets

-- whether a list has a number
abbrev pub has_number : List ℕ → ℕ → Bool
has_number numbers number = list_any (λ n. n == number) numbers

-- packets are counted from 1 as they are offered: those are lost whose numbers the link's list has, and one is refused only where the queue is full
pub record TurnsAwayByRule (now : ℕ) (old : PortState) (acts : List Act) (new : PortState) : Type 0 where
  pub offers : ℕ
  pub counted : new.offered ≡ old.offered + offers
  pub lost : count_by is_lost_act acts ≡ count_by (has_number old.lose) (range_with_len (old.offered + 1) offers)
  pub refused : 1 ≤ count_by is_refused acts → length (waiting_in new.queue) ≡ (fifo_of new.queue).capacity
  pub list_stays : new.lose ≡ old.lose
