-- What a sender does at its events.
use Rattle.std.specs.Prelude.{◌≡◌, ◌-◌, ◌/◌, ◌==◌, ◌&&◌, ◌||◌, ℕ, Bool, true, false, not, max, nat_lt, nat_le, if◌then◌else◌, List, [], ◌∷◌, ◌++◌, count_by, Option, Some, None}
use Rattle.reno_sender.specs.declared.fields.SenderFields.{SenderFields}
use Rattle.reno_sender.specs.declared.fields.Timing.{Timing}
use Rattle.reno_sender.specs.Fields.{total, IsMultiple, IsSound}
use Rattle.reno_sender.specs.Sending.{Planned, spaced}
use Rattle.reno_sender.specs.Table.{started, acknowledged, timed_out}
use Rattle.figures.specs.declared.turn.KeptSender.{KeptSender}
use Rattle.figures.specs.declared.turn.Cause.{Cause}
use Rattle.figures.specs.declared.turn.Cause.TheVariants.{Starts, Acknowledged, TimesOut}

-- what a sender keeps before it acts, why it acts, and when
pub record Turn : Type 0 where
  pub old : SenderFields
  pub cause : Cause
  pub now : ℕ

-- what it keeps from then on, and the whole list of byte numbers that it sends
abbrev pub planned_by : SenderFields → Cause → ℕ → Planned
planned_by f Starts now = started f now
planned_by f (Acknowledged ack) now = acknowledged f ack now
planned_by f TimesOut now = timed_out f now

abbrev pub planned_in : Turn → Planned
planned_in t = planned_by t.old t.cause t.now

-- what is kept of a sender from before it acts
abbrev pub kept_of : SenderFields → KeptSender
kept_of f = record { una = f.una; nxt = f.nxt; high = f.high; timing = f.timing; recovery = f.recovery }

-- this is kept of these fields
pub record Keeps (k : KeptSender) (f : SenderFields) : Type 0 where
  pub is : k ≡ kept_of f
  pub sound : IsSound f

-- a sender of which this was kept has acted, and keeps g
pub record HasActedFrom (k : KeptSender) (cause : Cause) (now : ℕ) (g : SenderFields) : Type 0 where
  pub old : SenderFields
  pub kept : Keeps k old
  pub planned : g ≡ (planned_by old cause now).fields

-- its places are whole numbers of segments
pub record IsOfSegments (k : KeptSender) (mss : ℕ) : Type 0 where
  pub nxt : IsMultiple mss k.nxt
  pub high : IsMultiple mss k.high

-- una is sent again: recovery begins, or goes on and una rises
abbrev pub resends : KeptSender → SenderFields → Bool
resends k g = g.recovery && (not k.recovery || nat_lt k.una g.una)

-- what is sent where a sender has acted on an acknowledgement: una, where that is sent again, and then a run up to nxt
abbrev pub sent_between : KeptSender → SenderFields → List ℕ
sent_between k g = (if resends k g then g.una ∷ [] else []) ++ spaced (max k.nxt g.una) g.mss ((g.nxt - max k.nxt g.una) / g.mss)

-- the same for each cause: a start sends a run from nxt on, and a timeout sends una
abbrev pub sent_as : KeptSender → SenderFields → Cause → List ℕ
sent_as k g Starts = spaced k.nxt g.mss ((g.nxt - k.nxt) / g.mss)
sent_as k g (Acknowledged ack) = sent_between k g
sent_as k g TimesOut = k.una ∷ []

-- the segments that it sends again: those below the greatest byte sent before
abbrev pub again_in : Turn → ℕ
again_in t = count_by (λ x. nat_lt x t.old.high) (planned_in t).sent

-- it acts on an acknowledgement, and enters recovery or stays in it
abbrev pub recovers : Cause → SenderFields → Bool
recovers Starts g = false
recovers (Acknowledged ack) g = g.recovery
recovers TimesOut g = false

abbrev pub in_recovery : Turn → Bool
in_recovery t = recovers t.cause (planned_in t).fields

abbrev pub is_timeout : Cause → Bool
is_timeout Starts = false
is_timeout (Acknowledged ack) = false
is_timeout TimesOut = true

-- an acknowledgement at or past the timed number is a sample of the round trip (RFC 6298 section 3)
abbrev pub trip_of : Option Timing → ℕ → ℕ → Option ℕ
trip_of None ack now = None
trip_of (Some t) ack now = if nat_le t.number ack then Some (now - t.sent_at) else None

abbrev pub sample_by : Option Timing → Cause → ℕ → Option ℕ
sample_by timing Starts now = None
sample_by timing (Acknowledged ack) now = trip_of timing ack now
sample_by timing TimesOut now = None

abbrev pub sample_in : Turn → Option ℕ
sample_in t = sample_by t.old.timing t.cause t.now

-- all bytes of its flow are acknowledged
abbrev pub is_complete : SenderFields → Bool
is_complete g = g.una == total g
