-- What every row of the table keeps, in the subject's own words.
use Rattle.std.specs.Prelude.{◌≡◌, ◌≤◌, ◌<◌, ◌+◌, ◌*◌, ◌⊎◌, ◌↔◌, ℕ, IsTrue, true, false, min, List, length, Contains, Option, None, Some, IsSome, IfSome}
use Rattle.std.specs.List.{AllByRecursion}
use Rattle.sim_time.specs.Moment.{IsMoment}
use Rattle.sim_time.specs.declared.settings.SenderSettings.{SenderSettings}
use Rattle.reno_sender.specs.declared.fields.SenderFields.{SenderFields}
use Rattle.reno_sender.specs.Fields.{IsSound, IsMultiple, total, is_newreno}
use Rattle.reno_sender.specs.declared.congestion_control.TheConstants.{MOST_CWND}
use Rattle.reno_sender.specs.declared.congestion_control.Progress.{Progress}
use Rattle.reno_sender.specs.declared.congestion_control.Progress.TheVariants.{NewData, FurtherDuplicate, PartialData, RecoveryEnd}
use Rattle.reno_sender.specs.declared.congestion_control.Loss.{Loss}
use Rattle.reno_sender.specs.CongestionControl.{window_at, lowered_at}
use Rattle.reno_sender.specs.Sending.{Planned, filling}
use Rattle.reno_sender.specs.Table.{initial_fields, started, acknowledged, timed_out}

-- what an acknowledgement has to be: a whole number of segments that were sent, no earlier than the timed segment
pub record IsAckFor (f : SenderFields) (ack now : ℕ) : Type 0 where
  pub multiple : IsMultiple f.mss ack
  pub most : ack ≤ f.high
  pub timed_before : IfSome f.timing (λ t. t.sent_at ≤ now)

-- a byte number that is sent names a whole segment of the flow, within the receiver's window
pub record IsSegment (g : SenderFields) (x : ℕ) : Type 0 where
  pub multiple : IsMultiple g.mss x
  pub by_high : x + g.mss ≤ g.high
  pub by_total : x + g.mss ≤ total g
  pub in_window : x + g.mss ≤ g.una + g.rwnd

-- a new deadline lies one to sixty seconds after now
pub record IsDeadlineSetAt (now : ℕ) (deadline : Option ℕ) : Type 0 where
  pub after : ℕ
  pub after_least : 1000000000 ≤ after
  pub after_most : after ≤ 60000000000
  pub is_then : deadline ≡ Some (now + after)

-- a row leads from sound fields to sound fields; una and high never fall, and what is sent lies within the flow and the window
pub record RowKeeps (f g : SenderFields) (sent : List ℕ) (now : ℕ) : Type 0 where
  pub sound : IsSound g
  pub mss_same : g.mss ≡ f.mss
  pub segments_same : g.segments ≡ f.segments
  pub rwnd_same : g.rwnd ≡ f.rwnd
  pub variant_same : g.variant ≡ f.variant
  pub una_rises : f.una ≤ g.una
  pub high_rises : f.high ≤ g.high
  pub sends : AllByRecursion (IsSegment g) sent
  pub few : length sent ≤ 1073741825
  pub timing : (g.timing ≡ f.timing) ⊎ IfSome g.timing (λ t. t.sent_at ≤ now)
  pub deadline : (g.deadline ≡ None) ⊎ ((g.deadline ≡ f.deadline) ⊎ IsDeadlineSetAt now g.deadline)

abbrev pub StartKeeps : Type 0
StartKeeps = (f : SenderFields) (now : ℕ) → IsSound f → IsMoment now → RowKeeps f (started f now).fields (started f now).sent now

abbrev pub AcknowledgementKeeps : Type 0
AcknowledgementKeeps =
    (f : SenderFields) (ack now : ℕ) → IsSound f → IsMoment now → IsAckFor f ack now →
    RowKeeps f (acknowledged f ack now).fields (acknowledged f ack now).sent now

abbrev pub TimeoutKeeps : Type 0
TimeoutKeeps =
    (f : SenderFields) (now : ℕ) → IsSound f → IsMoment now → IsSome f.deadline →
    RowKeeps f (timed_out f now).fields (timed_out f now).sent now

-- one segment at least, and no more than where additions stop
pub record IsWindowSize (f : SenderFields) (bytes : ℕ) : Type 0 where
  pub least : f.mss ≤ bytes
  pub most : bytes ≤ MOST_CWND

-- what is acknowledged in part is one segment at least
abbrev pub IsProgress : SenderFields → Progress → Type 0
IsProgress f (NewData bytes) = Unit {0}
IsProgress f FurtherDuplicate = Unit {0}
IsProgress f (PartialData bytes) = f.mss ≤ bytes
IsProgress f RecoveryEnd = Unit {0}

-- all that loss recovery's proofs need of congestion control: each of its rows leaves windows in range
abbrev pub ProgressKeepsWindow : Type 0
ProgressKeepsWindow = (f : SenderFields) (progress : Progress) → IsSound f → IsProgress f progress → IsWindowSize f (window_at f progress)

abbrev pub LossKeepsWindows : Type 0
LossKeepsWindows = (f : SenderFields) (loss : Loss) → IsSound f → IsWindowSize f (lowered_at f loss).ssthresh × IsWindowSize f (lowered_at f loss).cwnd

-- the ranges of a flow
pub record IsFlow (s : SenderSettings) : Type 0 where
  pub mss_least : 1 ≤ s.mss
  pub mss_most : s.mss ≤ 9000
  pub segments_least : 1 ≤ s.segments
  pub segments_most : s.segments ≤ 1000000000
  pub rwnd_least : s.mss ≤ s.rwnd
  pub rwnd_most : s.rwnd ≤ 1073741824

abbrev pub InitialIsSound : Type 0
InitialIsSound = (s : SenderSettings) → IsFlow s → IsSound (initial_fields s)

-- the states that events lead to from the initial state of a flow
pub data IsReachable (s : SenderSettings) : SenderFields → Type 0 where
  initial : {f : SenderFields} → f ≡ initial_fields s → IsReachable s f
  by_start : {f g : SenderFields} (now : ℕ) → IsReachable s f → IsMoment now → g ≡ (started f now).fields → IsReachable s g
  by_acknowledgement : {f g : SenderFields} (ack now : ℕ) → IsReachable s f → IsMoment now → IsAckFor f ack now → g ≡ (acknowledged f ack now).fields → IsReachable s g
  by_timeout : {f g : SenderFields} (now : ℕ) → IsReachable s f → IsMoment now → IsSome f.deadline → g ≡ (timed_out f now).fields → IsReachable s g

abbrev pub ReachableIsSound : Type 0
ReachableIsSound = (s : SenderSettings) (f : SenderFields) → IsFlow s → IsReachable s f → IsSound f

-- filling sends the segments from nxt on, before the flow's end, that end within both windows, and no others
abbrev pub FillIsAllAllowed : Type 0
FillIsAllAllowed =
    (f : SenderFields) (now x : ℕ) → IsSound f →
    Contains (filling f now).sent x ↔ (IsMultiple f.mss x × (f.nxt ≤ x) × (x < total f) × (x + f.mss ≤ f.una + min f.cwnd f.rwnd))

-- a loss found by the third duplicate leaves ssthresh at two segments at least (RFC 5681 section 3.1, equation 4)
abbrev pub ThresholdAtRecovery : Type 0
ThresholdAtRecovery =
    (f : SenderFields) (ack now : ℕ) → f.recovery ≡ false → (acknowledged f ack now).fields.recovery ≡ true →
    2 * f.mss ≤ (acknowledged f ack now).fields.ssthresh

-- a loss found by the timer leaves it there too, and a further timeout of the same segment leaves it as it was
abbrev pub ThresholdAtTimeout : Type 0
ThresholdAtTimeout = (f : SenderFields) (now : ℕ) → f.resent ≡ false → 2 * f.mss ≤ (timed_out f now).fields.ssthresh

abbrev pub ThresholdAtFurtherTimeout : Type 0
ThresholdAtFurtherTimeout = (f : SenderFields) (now : ℕ) → f.resent ≡ true → (timed_out f now).fields.ssthresh ≡ f.ssthresh

-- without a loss ssthresh stays
abbrev pub ThresholdStays : Type 0
ThresholdStays =
    (f : SenderFields) (ack now : ℕ) → (f.recovery ≡ true) ⊎ ((acknowledged f ack now).fields.recovery ≡ false) →
    (acknowledged f ack now).fields.ssthresh ≡ f.ssthresh

-- a new acknowledgement in NewReno's recovery: it goes on exactly where that is below recover, and the byte after it is then sent again (RFC 6582 section 3.2 step 3)
pub record LastsUntilRecover (p : Planned) (recover ack : ℕ) : Type 0 where
  pub lasts : IsTrue p.fields.recovery ↔ (ack < recover)
  pub again : ack < recover → Contains p.sent ack

abbrev pub RecoveryLasts : Type 0
RecoveryLasts =
    (f : SenderFields) (recover ack now : ℕ) → IsTrue (is_newreno f) → IsTrue f.recovery → f.recover ≡ Some recover → f.una < ack →
    LastsUntilRecover (acknowledged f ack now) recover ack

-- where a number that was sent before is sent again, nothing is timed afterwards but a new segment, sent now (RFC 6298 section 3, Karn's algorithm)
pub record NeverTimesResent (f : SenderFields) (p : Planned) (now : ℕ) : Type 0 where
  pub fresh : (x : ℕ) → Contains p.sent x → x < f.high → IfSome p.fields.timing (λ t. (f.high < t.number) × (t.sent_at ≡ now))

abbrev pub StartNeverTimesResent : Type 0
StartNeverTimesResent = (f : SenderFields) (now : ℕ) → 1 ≤ f.mss → NeverTimesResent f (started f now) now

abbrev pub AcknowledgementNeverTimesResent : Type 0
AcknowledgementNeverTimesResent = (f : SenderFields) (ack now : ℕ) → 1 ≤ f.mss → NeverTimesResent f (acknowledged f ack now) now

abbrev pub TimeoutNeverTimesResent : Type 0
TimeoutNeverTimesResent = (f : SenderFields) (now : ℕ) → 1 ≤ f.mss → NeverTimesResent f (timed_out f now) now

-- a timeout doubles the rto, up to sixty seconds, and without a sample it stays (RFC 6298 section 5)
abbrev pub TimeoutDoublesRto : Type 0
TimeoutDoublesRto = (f : SenderFields) (now : ℕ) → (timed_out f now).fields.rto ≡ min (2 * f.rto) 60000000000

abbrev pub RtoStaysUntilSample : Type 0
RtoStaysUntilSample =
    (f : SenderFields) (ack now : ℕ) → IfSome f.timing (λ t. ack < t.number) → (acknowledged f ack now).fields.rto ≡ f.rto
