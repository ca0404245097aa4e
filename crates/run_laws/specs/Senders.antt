-- What each event does to the sender of a flow.
use Rattle.std.specs.Prelude.{◌≡◌, ◌≢◌, ℕ, ◌+◌, ◌-◌, ◌*◌, ◌/◌, ◌<◌, ◌≤◌, ◌⊎◌, min, max, true, false, [], ◌∷◌, length, Contains, None, Some, IfSome, IsFalse}
use Rattle.std.specs.Int.{abs_diff}
use Rattle.std.specs.List.{slice_get}
use Rattle.packet_chain.specs.declared.packet.Packet.{Packet}
use Rattle.packet_chain.specs.declared.packet.Kind.{Kind}
use Rattle.packet_chain.specs.declared.packet.Kind.TheVariants.{Data, Ack}
use Rattle.scenario_image.specs.declared.parts.FlowPart.{FlowPart}
use Rattle.reno_sender.specs.declared.fields.SenderFields.{SenderFields}
use Rattle.reno_sender.specs.declared.fields.Timing.{Timing}
use Rattle.reno_sender.specs.Fields.{total, is_newreno}
use Rattle.reno_sender.specs.Sending.{Planned}
use Rattle.reno_sender.specs.LossRecovery.{nothing_sent}
use Rattle.reno_sender.specs.Table.{started, acknowledged, timed_out}
use Rattle.node_core.specs.declared.event.Event.{Event}
use Rattle.node_core.specs.declared.event.Event.TheVariants.{Start, Rto, DelAck, Free, Arrive}
use Rattle.node_core.specs.declared.role.Role.TheVariants.{Sends}
use Rattle.table_run.specs.State.{part_at, effect_of, stepped}
use Rattle.table_run.specs.Laws.{AtEachEvent}
use Rattle.run_laws.specs.Links.{port_of_link}

-- the row of the sender's table for an event at its node
abbrev pub for_packet : SenderFields → Kind → ℕ → ℕ → Planned
for_packet f Data number now = nothing_sent f
for_packet f Ack number now = acknowledged f number now

abbrev pub row_of : SenderFields → Event → ℕ → Planned
row_of f (Start flow) now = started f now
row_of f (Rto flow) now = timed_out f now
row_of f (DelAck flow) now = nothing_sent f
row_of f (Free link) now = nothing_sent f
row_of f (Arrive packet) now = for_packet f packet.kind packet.number now

-- P holds of each event at a flow's sender: its moment, the event, the fields before, and what the sender then does
abbrev pub AtEachSender : (ℕ → Event → SenderFields → Planned → Type 0) → Type 0
AtEachSender P = AtEachEvent (λ p s k v. (number : ℕ) (flow : FlowPart) → slice_get p.flows number ≡ Some flow → flow.sender ≡ k.node → (f : SenderFields) → (part_at s flow.sender).role ≡ Sends number f
    → ((part_at (stepped s k (effect_of s (k, v))) flow.sender).role ≡ Sends number (row_of f v k.time).fields) × P k.time v f (row_of f v k.time))

-- of a flow that is complete its sender sends nothing, and nothing of it changes
abbrev pub IsSilentOnceComplete : ℕ → Event → SenderFields → Planned → Type 0
IsSilentOnceComplete now v f q = f.una ≡ total f → q ≡ nothing_sent f

-- a timer that is set ends one rto later
abbrev pub EndsAfterRto : ℕ → Event → SenderFields → Planned → Type 0
EndsAfterRto now v f q = (q.fields.deadline ≡ None) ⊎ ((q.fields.deadline ≡ f.deadline) ⊎ (q.fields.deadline ≡ Some (now + q.fields.rto)))

-- each timeout doubles the rto, up to 60 seconds; else it stays where no segment that is timed is acknowledged
pub record GoesByTimeouts (now : ℕ) (v : Event) (f : SenderFields) (q : Planned) : Type 0 where
  pub doubles : (number : ℕ) → v ≡ Rto number → q.fields.rto ≡ min (2 * f.rto) 60000000000
  pub stays : ((number : ℕ) → v ≢ Rto number) → ((x : Packet) → v ≡ Arrive x → IfSome f.timing (λ t. x.number < t.number)) → q.fields.rto ≡ f.rto

-- nothing that is sent again is timed (Karn's algorithm)
abbrev pub TimesNoneResent : ℕ → Event → SenderFields → Planned → Type 0
TimesNoneResent now v f q = (x : ℕ) → Contains q.sent x → x < f.high → IfSome q.fields.timing (λ t. (f.high < t.number) × (t.sent_at ≡ now))

-- a sender's link is offered as many packets as the sender sends segments
abbrev pub SendersOfferWhatTheySend : Type 0
SendersOfferWhatTheySend = AtEachEvent (λ p s k v. (number : ℕ) (flow : FlowPart) → slice_get p.flows number ≡ Some flow → flow.sender ≡ k.node → (f : SenderFields) → (part_at s flow.sender).role ≡ Sends number f
    → (port_of_link (stepped s k (effect_of s (k, v))) flow.sender 0).offered ≡ (port_of_link s flow.sender 0).offered + length (row_of f v k.time).sent)

-- a new acknowledgement comes: it acknowledges more than any before it
abbrev pub IsNewAck : Event → SenderFields → ℕ → Type 0
IsNewAck v f ack = (x : Packet) × (v ≡ Arrive x) × (x.kind ≡ Ack) × (x.number ≡ ack) × (f.una < ack)

-- a duplicate comes: the last acknowledgement once more, while bytes are in flight (RFC 5681 section 2)
abbrev pub IsDuplicate : Event → SenderFields → Type 0
IsDuplicate v f = (x : Packet) × (v ≡ Arrive x) × (x.kind ≡ Ack) × (x.number ≡ f.una) × (f.una < f.nxt)

-- a first or second duplicate outside recovery
abbrev pub IsEarlyDuplicate : Event → SenderFields → Type 0
IsEarlyDuplicate v f = IsDuplicate v f × (f.recovery ≡ false) × (f.dups < 2)

-- new segments end within the congestion window and the receiver's; only an early duplicate may send up to two segments past the former (limited transmit, RFC 3042)
abbrev pub FitsWindows : ℕ → Event → SenderFields → Planned → Type 0
FitsWindows now v f q = let g = q.fields in ((g.high ≡ f.high) ⊎ (g.high ≤ g.una + min g.cwnd g.rwnd)) ⊎ (IsEarlyDuplicate v f × (g.high ≤ g.una + min (g.cwnd + 2 * g.mss) g.rwnd))

-- half of some bytes, two segments at least (RFC 5681 section 3.1, equation 4)
abbrev pub half_of : ℕ → SenderFields → ℕ
half_of bytes f = max (bytes / 2) (2 * f.mss)

-- a timeout (RFC 5681 section 3.1, RFC 6298 section 5): una alone is sent again, cwnd is one segment, and ssthresh half of what was in flight, but for a further timeout of the same segment; recovery is over
pub record AnswersTimeout (f : SenderFields) (q : Planned) : Type 0 where
  pub sends : q.sent ≡ f.una ∷ []
  pub goes_back : q.fields.nxt ≡ f.una + f.mss
  pub cwnd : q.fields.cwnd ≡ f.mss
  pub first : f.resent ≡ false → q.fields.ssthresh ≡ half_of (f.nxt - f.una) f
  pub further : f.resent ≡ true → q.fields.ssthresh ≡ f.ssthresh
  pub resent : q.fields.resent ≡ true
  pub recovery : q.fields.recovery ≡ false

abbrev pub AnswersTimeouts : ℕ → Event → SenderFields → Planned → Type 0
AnswersTimeouts now v f q = (number : ℕ) → v ≡ Rto number → AnswersTimeout f q

-- NewReno's recover is behind una, or none is set (RFC 6582 section 3.2 step 2); Reno has none
abbrev pub IsPastRecover : SenderFields → Type 0
IsPastRecover f = IsFalse (is_newreno f) ⊎ IfSome f.recover (λ r. r < f.una)

-- recovery begins (RFC 5681 section 3.2 steps 2 and 3): at a third duplicate, with NewReno past recover; ssthresh is half of what is in flight, without what limited transmit sent, cwnd three segments more, and una alone is sent again
pub record BeginsRecovery (v : Event) (f : SenderFields) (q : Planned) : Type 0 where
  pub third : IsDuplicate v f × (f.dups ≡ 2)
  pub past : IsPastRecover f
  pub ssthresh : q.fields.ssthresh ≡ half_of (f.nxt - f.una - f.lt) f
  pub cwnd : q.fields.cwnd ≡ half_of (f.nxt - f.una - f.lt) f + 3 * f.mss
  pub sends : q.sent ≡ f.una ∷ []

-- duplicates are counted, from 0 after a new acknowledgement; the third begins recovery where NewReno is past recover, and recovery begins so alone
pub record AnswersDuplicates (now : ℕ) (v : Event) (f : SenderFields) (q : Planned) : Type 0 where
  pub counts : IsDuplicate v f → f.dups < 4294967295 → q.fields.dups ≡ f.dups + 1
  pub anew : (ack : ℕ) → IsNewAck v f ack → q.fields.recovery ≡ false → q.fields.dups ≡ 0
  pub begins : IsDuplicate v f → f.recovery ≡ false → f.dups ≡ 2 → IsPastRecover f → q.fields.recovery ≡ true
  pub so_alone : f.recovery ≡ false → q.fields.recovery ≡ true → BeginsRecovery v f q

-- ssthresh moves where a timeout comes or recovery begins, and nowhere else
abbrev pub ThresholdStaysWithoutLoss : ℕ → Event → SenderFields → Planned → Type 0
ThresholdStaysWithoutLoss now v f q = ((number : ℕ) → v ≢ Rto number) → (f.recovery ≡ true) ⊎ (q.fields.recovery ≡ false) → q.fields.ssthresh ≡ f.ssthresh

-- recovery (RFC 5681 section 3.2 steps 4 to 6, RFC 6582 section 3.2 step 3): a duplicate lets cwnd grow by a segment, up to 2^40; a new acknowledgement ends it, and cwnd is ssthresh; but with NewReno one below recover is partial: recovery goes on, cwnd falls by what it acknowledges and rises by a segment, to one segment at least, and una is sent again
pub record KeepsRecovery (now : ℕ) (v : Event) (f : SenderFields) (q : Planned) : Type 0 where
  pub inflates : IsDuplicate v f → f.recovery ≡ true → (q.fields.cwnd ≡ min (f.cwnd + f.mss) 1099511627776) × (q.fields.recovery ≡ true)
  pub ends : (ack : ℕ) → IsNewAck v f ack → f.recovery ≡ true → IsFalse (is_newreno f) ⊎ IfSome f.recover (λ r. r ≤ ack) → (q.fields.cwnd ≡ f.ssthresh) × (q.fields.recovery ≡ false)
  pub partly : (ack r : ℕ) → IsNewAck v f ack → f.recovery ≡ true → is_newreno f ≡ true → f.recover ≡ Some r → ack < r → (q.fields.cwnd ≡ max (f.cwnd + f.mss - (ack - f.una)) f.mss) × (q.fields.recovery ≡ true) × Contains q.sent ack

-- after the start, and after a new acknowledgement outside recovery, no further segment fits the flow and both windows
abbrev pub StartsOrGoesOn : Event → SenderFields → Type 0
StartsOrGoesOn v f = ((number : ℕ) × (v ≡ Start number)) ⊎ ((ack : ℕ) × IsNewAck v f ack × (f.recovery ≡ false))

abbrev pub FillsWindows : ℕ → Event → SenderFields → Planned → Type 0
FillsWindows now v f q = let g = q.fields in StartsOrGoesOn v f → min (total g) (g.una + min g.cwnd g.rwnd) < g.nxt + g.mss

-- a new acknowledgement outside recovery sets the timer anew, where bytes are in flight afterwards (RFC 6298 section 5.3)
abbrev pub RestartsTimer : ℕ → Event → SenderFields → Planned → Type 0
RestartsTimer now v f q = (ack : ℕ) → IsNewAck v f ack → f.recovery ≡ false → q.fields.una < q.fields.nxt → q.fields.deadline ≡ Some (now + q.fields.rto)

-- how cwnd grows outside recovery (RFC 5681 section 3.1): at a new acknowledgement, in slow start by what it acknowledges, a segment at most, else by mss·mss/cwnd, a byte at least; up to 2^40; and at no other event but a timeout
pub record GrowsByReno (now : ℕ) (v : Event) (f : SenderFields) (q : Planned) : Type 0 where
  pub slow_start : (ack : ℕ) → IsNewAck v f ack → f.recovery ≡ false → f.cwnd < f.ssthresh → q.fields.cwnd ≡ min (f.cwnd + min (ack - f.una) f.mss) 1099511627776
  pub avoidance : (ack : ℕ) → IsNewAck v f ack → f.recovery ≡ false → f.ssthresh ≤ f.cwnd → q.fields.cwnd ≡ min (f.cwnd + max (f.mss * f.mss / f.cwnd) 1) 1099511627776
  pub stays : f.recovery ≡ false → q.fields.recovery ≡ false → ((number : ℕ) → v ≢ Rto number) → ((ack : ℕ) → IsNewAck v f ack → ⊥) → q.fields.cwnd ≡ f.cwnd

-- a round trip is measured (RFC 6298 section 2): the first, or a later one; RTTVAR goes by the SRTT before it
pub record IsMeasured (f g : SenderFields) (r : ℕ) : Type 0 where
  pub first_srtt : f.srtt ≡ None → g.srtt ≡ Some r
  pub first_rttvar : f.srtt ≡ None → g.rttvar ≡ r / 2
  pub later_srtt : (srtt : ℕ) → f.srtt ≡ Some srtt → g.srtt ≡ Some ((7 * srtt + r) / 8)
  pub later_rttvar : (srtt : ℕ) → f.srtt ≡ Some srtt → g.rttvar ≡ (3 * f.rttvar + abs_diff srtt r) / 4
  pub rto : IfSome g.srtt (λ srtt. g.rto ≡ min (max (srtt + max 1 (4 * g.rttvar)) 1000000000) 60000000000)

-- a new acknowledgement of the segment that is timed measures the time since it was sent
abbrev pub MeasuresRoundTrips : ℕ → Event → SenderFields → Planned → Type 0
MeasuresRoundTrips now v f q = (ack : ℕ) (t : Timing) → IsNewAck v f ack → f.timing ≡ Some t → t.number ≤ ack → IsMeasured f q.fields (now - t.sent_at)
