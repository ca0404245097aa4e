-- What else an event does to a sender: which segments it lets go, and what an acknowledgement and a loss leave behind.
use Rattle.std.specs.Prelude.{◌≡◌, ◌≢◌, ℕ, zero, suc, ◌+◌, ◌*◌, ◌<◌, ◌≤◌, ◌⊎◌, min, max, true, false, List, [], ◌∷◌, length, None, Some}
use Rattle.packet_chain.specs.declared.packet.Packet.{Packet}
use Rattle.packet_chain.specs.declared.packet.Kind.TheVariants.{Ack}
use Rattle.reno_sender.specs.declared.fields.SenderFields.{SenderFields}
use Rattle.reno_sender.specs.declared.fields.Timing.{Timing}
use Rattle.reno_sender.specs.Fields.{total, is_newreno}
use Rattle.reno_sender.specs.Sending.{Planned}
use Rattle.reno_sender.specs.LossRecovery.{nothing_sent}
use Rattle.node_core.specs.declared.event.Event.{Event}
use Rattle.node_core.specs.declared.event.Event.TheVariants.{Start, Rto, Arrive}
use Rattle.run_laws.specs.Senders.{IsNewAck, IsDuplicate, IsEarlyDuplicate}

-- a new segment may go: nothing is to be sent again first, the flow goes on, and the segment ends within a byte
pub record MaySendNew (f : SenderFields) (end : ℕ) : Type 0 where
  pub once : f.nxt ≡ f.high
  pub more : f.nxt < total f
  pub fits : f.nxt + f.mss ≤ end

-- one new segment goes where it may, and else none
pub record LetsOneGo (f : SenderFields) (end : ℕ) (sent : List ℕ) : Type 0 where
  pub goes : MaySendNew f end → sent ≡ f.nxt ∷ []
  pub none : (MaySendNew f end → ⊥) → sent ≡ []

-- what a duplicate sends (RFC 5681 section 3.2 steps 1 and 5, RFC 3042): one new segment within two more than cwnd, which limited transmit counts; in recovery one within the widened cwnd; else nothing, but for una as recovery begins; the timer stays
pub record SendsAtDuplicates (now : ℕ) (v : Event) (f : SenderFields) (q : Planned) : Type 0 where
  pub early : IsEarlyDuplicate v f → LetsOneGo f (f.una + min (f.cwnd + 2 * f.mss) f.rwnd) q.sent × (q.fields.lt ≡ f.lt + length q.sent * f.mss)
  pub further : IsDuplicate v f → f.recovery ≡ true → LetsOneGo f (f.una + min q.fields.cwnd f.rwnd) q.sent
  pub others : IsDuplicate v f → f.recovery ≡ false → 2 ≤ f.dups → q.fields.recovery ≡ false → q.sent ≡ []
  pub deadline : IsDuplicate v f → q.fields.deadline ≡ f.deadline

-- segments from a byte on, one behind the other
abbrev pub from_on : ℕ → ℕ → ℕ → List ℕ
from_on first step zero = []
from_on first step (suc n) = first ∷ from_on (first + step) step n

-- what is sent begins at a byte and has no gap, and nxt is behind it
pub record GoesInTurn (first mss : ℕ) (q : Planned) : Type 0 where
  pub sent : q.sent ≡ from_on first mss (length q.sent)
  pub nxt : q.fields.nxt ≡ first + length q.sent * mss

-- a segment is sent again, and behind it one new segment goes where it may
pub record ResendsOne (f : SenderFields) (first end : ℕ) (sent : List ℕ) : Type 0 where
  pub rest : List ℕ
  pub again : sent ≡ first ∷ rest
  pub one : LetsOneGo f end rest

-- a new acknowledgement moves una to what it acknowledges, and segments go from nxt on; where a recovery goes on, una is sent again, and behind it one new segment where it may go; an old one does nothing
pub record TakesAcknowledgements (now : ℕ) (v : Event) (f : SenderFields) (q : Planned) : Type 0 where
  pub moves : (ack : ℕ) → IsNewAck v f ack → (q.fields.una ≡ ack) × (q.fields.lt ≡ 0) × (q.fields.resent ≡ false)
  pub in_turn : (ack : ℕ) → IsNewAck v f ack → q.fields.recovery ≡ false → GoesInTurn (max f.nxt ack) f.mss q
  pub partly : (ack : ℕ) → IsNewAck v f ack → q.fields.recovery ≡ true → ResendsOne (record f { nxt = max f.nxt ack }) ack (ack + min q.fields.cwnd f.rwnd) q.sent
  pub old : (x : Packet) → v ≡ Arrive x → x.kind ≡ Ack → (x.number < f.una) ⊎ ((x.number ≡ f.una) × (f.una ≡ f.nxt)) → q ≡ nothing_sent f
  pub start : (number : ℕ) → v ≡ Start number → GoesInTurn f.nxt f.mss q

-- what a loss leaves: after a timeout nothing is counted or timed, and the timer ends one rto later; NewReno's recover is all that was sent, after a timeout and as recovery begins, and it stays else (RFC 6582 section 3.2); the first partial acknowledgement of a recovery sets the timer anew, and no further one does
pub record MarksLosses (now : ℕ) (v : Event) (f : SenderFields) (q : Planned) : Type 0 where
  pub at_timeout : (number : ℕ) → v ≡ Rto number → (q.fields.dups ≡ 0) × (q.fields.lt ≡ 0) × (q.fields.timing ≡ None) × (q.fields.deadline ≡ Some (now + q.fields.rto))
  pub recover_then : (number : ℕ) → v ≡ Rto number → is_newreno f ≡ true → q.fields.recover ≡ Some f.high
  pub at_third : f.recovery ≡ false → q.fields.recovery ≡ true → is_newreno f ≡ true → (q.fields.recover ≡ Some f.high) × (q.fields.partial ≡ false)
  pub stays : ((number : ℕ) → v ≢ Rto number) → (f.recovery ≡ true) ⊎ (q.fields.recovery ≡ false) → q.fields.recover ≡ f.recover
  pub partly : (ack r : ℕ) → IsNewAck v f ack → f.recovery ≡ true → is_newreno f ≡ true → f.recover ≡ Some r → ack < r
      → (q.fields.partial ≡ true) × (f.partial ≡ false → q.fields.deadline ≡ Some (now + q.fields.rto)) × (f.partial ≡ true → q.fields.deadline ≡ f.deadline)

-- nothing is timed, or what is timed is acknowledged
abbrev pub IsUntimed : Event → SenderFields → Type 0
IsUntimed v f = (f.timing ≡ None) ⊎ ((ack : ℕ) × (t : Timing) × IsNewAck v f ack × (f.timing ≡ Some t) × (t.number ≤ ack))

-- where nothing is timed, the first segment that is sent for the first time is, if it goes first (RFC 6298 section 3); SRTT and RTTVAR stay where nothing is measured
pub record TimesSegments (now : ℕ) (v : Event) (f : SenderFields) (q : Planned) : Type 0 where
  pub begins : (rest : List ℕ) → IsUntimed v f → q.sent ≡ f.high ∷ rest → q.fields.timing ≡ Some (record { number = f.high + f.mss; sent_at = now })
  pub estimates : ((ack : ℕ) (t : Timing) → IsNewAck v f ack → f.timing ≡ Some t → t.number ≤ ack → ⊥) → (q.fields.srtt ≡ f.srtt) × (q.fields.rttvar ≡ f.rttvar)
