-- What is said of percentiles, and of what is counted of every run.
use Rattle.std.specs.Prelude.{◌≡◌, ◌≤◌, ◌<◌, ◌+◌, ◌*◌, ◌/◌, ◌^◌, ◌==◌, ℕ, nat_lt, nat_le, false, List, length, filter, count_by, All, Contains, Option, IfSome, Some, None}
use Rattle.std.specs.List.{slice_get, fold}
use Rattle.packet_chain.specs.declared.packet.Packet.{Packet}
use Rattle.aqm.specs.Queue.{refuses}
use Rattle.port.specs.Port.{PortState, with_packet}
use Rattle.port.specs.Laws.{NothingWaitsWhereIdle}
use Rattle.reno_sender.specs.declared.fields.SenderFields.{SenderFields}
use Rattle.reno_sender.specs.Timer.{sampled}
use Rattle.scenario_image.specs.declared.parts.FlowPart.{FlowPart}
use Rattle.scenario_image.specs.declared.parts.ScenarioParts.{ScenarioParts}
use Rattle.scenario_image.specs.Scenario.{IsScenario}
use Rattle.node_core.specs.declared.role.Role.TheVariants.{Sends}
use Rattle.node_core.specs.TraceLine.{TraceLine}
use Rattle.table_run.specs.State.{State, part_at, initial, step}
use Rattle.table_run.specs.Flow.{received_next}
use Rattle.table_run.specs.Laws.{ComesTo}
use Rattle.figures.specs.Moments.{moments, turns_at}
use Rattle.run_laws.specs.Links.{link_of}
use Rattle.figures.specs.Links.{port_at, acts_at, waiting_at, all_dropped_of, tx_of, wait_of_given, waits_of}
use Rattle.figures.specs.Turns.{Turn}
use Rattle.figures.specs.Senders.{sent_of_turns, again_in_recovery_of, again_otherwise_of, trips_of}
use Rattle.figures.specs.Classes.{class_of, rank_of, percentile, least_of, greatest_of}

-- the value is one of these, and the nearest rank of a percentile is its: fewer than the rank are below it, and at least as many are at most it
pub record IsExact (percent : ℕ) (xs : List ℕ) (v : ℕ) : Type 0 where
  pub one_of : Contains xs v
  pub below : count_by (λ x. nat_lt x v) xs < rank_of percent (length xs)
  pub upto : rank_of percent (length xs) ≤ count_by (λ x. nat_le x v) xs

-- an answer is at least the exact percentile, and at most a 32nd above it
abbrev pub PercentilesAreNear : Type 0
PercentilesAreNear =
    (percent : ℕ) (xs : List ℕ) (v : ℕ) → All (λ x. x < 2 ^ 50) xs → IsExact percent xs v → IfSome (percentile percent xs) (λ answer. (v ≤ answer) × (32 * answer ≤ 33 * v))

-- the least value, the percentiles from 1 on and the greatest value rise
abbrev pub PercentilesRise : Type 0
PercentilesRise =
    (p q : ℕ) (xs : List ℕ) → 1 ≤ p → p ≤ q → All (λ x. x < 2 ^ 50) xs
    → IfSome (least_of xs) (λ least. IfSome (percentile p xs) (λ a. IfSome (percentile q xs) (λ b. IfSome (greatest_of xs) (λ most. (least ≤ a) × ((a ≤ b) × (b ≤ most))))))

-- a value below 64 is a class of its own; from there on each doubling of values has 32 classes, one behind another, each of as many values
abbrev pub EachDoublingHas32Classes : Type 0
EachDoublingHas32Classes =
    ((v : ℕ) → v < 64 → class_of v ≡ v)
    × ((d v : ℕ) → v < 2 ^ 64 → 32 * 2 ^ d ≤ v → v < 64 * 2 ^ d → class_of v ≡ 32 * d + v / 2 ^ d)

-- no more is sent again than is sent
abbrev pub SentAgainIsSent : Type 0
SentAgainIsSent = (ts : List Turn) → again_in_recovery_of ts + again_otherwise_of ts ≤ sent_of_turns ts

-- P holds of each link of each state that a run of a scenario comes to, by the node that it leaves and its place among that node's links
abbrev pub AtEachLink : (ScenarioParts → ℕ → State → ℕ → ℕ → Type 0) → Type 0
AtEachLink P = (p : ScenarioParts) (n : ℕ) (lines : List TraceLine) (s : State) → IsScenario p → ComesTo p n lines s → (node index : ℕ) → index < length (part_at s node).links → P p n s node index

-- the packets that were offered to a link are those that were dropped, each for one reason, those that were sent, and those that wait
abbrev pub OfferedArePlaced : Type 0
OfferedArePlaced =
    AtEachLink (λ p n s node index. let ms = moments (initial p) n in
    (port_at s node index).offered ≡ all_dropped_of node index ms + tx_of node index ms + waiting_at (port_at s node index))

-- there are as many waits as packets that were sent
abbrev pub EachSentHasItsWait : Type 0
EachSentHasItsWait = AtEachLink (λ p n s node index. length (waits_of node index (moments (initial p) n)) ≡ tx_of node index (moments (initial p) n))

-- where a link is idle nothing waits at it, and a packet that its queue takes in is given at once: it has waited for 0
abbrev pub SentAsOffered : Type 0
SentAsOffered =
    (now : ℕ) (port : PortState) (packet : Packet) → NothingWaitsWhereIdle port → port.next_free ≡ None → refuses port.queue ≡ false → wait_of_given now (with_packet now port packet) ≡ Some 0

-- no receiver has more than all bytes of its flow
abbrev pub DeliveredIsOfTheFlow : Type 0
DeliveredIsOfTheFlow =
    (p : ScenarioParts) (n : ℕ) (lines : List TraceLine) (s : State) → IsScenario p → ComesTo p n lines s → (number : ℕ) (flow : FlowPart) → slice_get p.flows number ≡ Some flow → received_next s flow ≤ flow.segments * flow.mss

-- what is counted of a run are values below 2^50: each wait at a link, and each sample of a sender's round trip
abbrev pub CountedLieBelow : Type 0
CountedLieBelow =
    (p : ScenarioParts) (n : ℕ) (lines : List TraceLine) (s : State) → IsScenario p → ComesTo p n lines s →
    ((node index : ℕ) → All (λ x. x < 2 ^ 50) (waits_of node index (moments (initial p) n))) × ((node : ℕ) → All (λ x. x < 2 ^ 50) (trips_of (turns_at node (moments (initial p) n))))

-- the acts that are counted of a link at an event of a run are those of the event's acts whose own link it is
abbrev pub ActsAreOfTheirLink : Type 0
ActsAreOfTheirLink =
    (p : ScenarioParts) (n : ℕ) (lines : List TraceLine) (s : State) → IsScenario p → ComesTo p n lines s → (line : TraceLine) (t : State) → step s ≡ Some (line, t) →
    (node index : ℕ) → index < length (part_at s node).links → acts_at node index (record { before = s; line = line; after = t }) ≡ filter (λ act. link_of act == (port_at s node index).link) line.acts

-- what a sender keeps of its round trip, srtt and rttvar, and what one sample more leaves of it (RFC 6298 section 2)
abbrev pub trip_kept : SenderFields → Option ℕ × ℕ
trip_kept f = (f.srtt, f.rttvar)

abbrev pub smoothed : Option ℕ × ℕ → ℕ → Option ℕ × ℕ
smoothed kept trip = let estimate = sampled kept.0 kept.1 trip in (Some estimate.srtt, estimate.rttvar)

-- in each state of a run the table of a flow's sender has taken the samples that are counted: it keeps what they leave, one after another, from no srtt and an rttvar of 0 on
abbrev pub TripsAreTakenByTheTable : Type 0
TripsAreTakenByTheTable =
    (p : ScenarioParts) (n : ℕ) (lines : List TraceLine) (s : State) → IsScenario p → ComesTo p n lines s →
    (number : ℕ) (flow : FlowPart) → slice_get p.flows number ≡ Some flow → (f : SenderFields) → (part_at s flow.sender).role ≡ Sends number f →
    trip_kept f ≡ fold smoothed (None, 0) (trips_of (turns_at flow.sender (moments (initial p) n)))
