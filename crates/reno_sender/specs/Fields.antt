-- What a sender keeps, and the facts that hold of it in every reachable state.
use Rattle.std.specs.Prelude.{◌≡◌, ◌≤◌, ◌<◌, ◌*◌, ◌-◌, ◌%◌, ◌⊎◌, ◌↔◌, ℕ, Bool, IsTrue, IsFalse, Some, None, IsSome, IfSome, IsSomeAnd}
use Rattle.reno_sender.specs.declared.fields.SenderFields.{SenderFields}
use Rattle.reno_sender.specs.declared.fields.Timing.{Timing}

-- a whole number of segments
abbrev pub IsMultiple : ℕ → ℕ → Type 0
IsMultiple mss x = x % mss ≡ 0

-- the bytes of the whole flow
abbrev pub total : SenderFields → ℕ
total f = f.segments * f.mss

-- FlightSize (RFC 5681 section 2): the bytes sent and not acknowledged
abbrev pub flight_size : SenderFields → ℕ
flight_size f = f.nxt - f.una

-- how the sender recovers from losses: as NewReno does (RFC 6582), or as Reno (RFC 5681 section 3.2)
abbrev pub is_newreno : SenderFields → Bool
is_newreno f = f.variant.newreno

-- the timed number lies above una and at most at high
pub record IsTimedWithin (una high : ℕ) (t : Timing) : Type 0 where
  pub above : una < t.number
  pub most : t.number ≤ high
  pub sent_most : t.sent_at ≤ 2000000000000000

pub record IsSound (f : SenderFields) : Type 0 where
  pub mss_least : 1 ≤ f.mss
  pub mss_most : f.mss ≤ 9000
  pub segments_least : 1 ≤ f.segments
  pub segments_most : f.segments ≤ 1000000000
  pub rwnd_least : f.mss ≤ f.rwnd
  pub rwnd_most : f.rwnd ≤ 1073741824
  pub una_nxt : f.una ≤ f.nxt
  pub nxt_high : f.nxt ≤ f.high
  pub high_total : f.high ≤ total f
  pub una_multiple : IsMultiple f.mss f.una
  pub nxt_multiple : IsMultiple f.mss f.nxt
  pub high_multiple : IsMultiple f.mss f.high
  pub in_window : flight_size f ≤ f.rwnd
  pub lt_flight : f.lt ≤ flight_size f
  pub recovery_dups : IsTrue f.recovery → 3 ≤ f.dups
  pub reno_recovery : IsFalse (is_newreno f) → 3 ≤ f.dups → IsTrue f.recovery
  pub reno_recover : IsFalse (is_newreno f) → f.recover ≡ None
  pub reno_partial : IsFalse (is_newreno f) → IsFalse f.partial
  pub recover_most : IfSome f.recover (λ r. r ≤ f.high)
  pub newreno_nxt : IsTrue (is_newreno f) → (f.nxt ≡ f.high) ⊎ (f.recover ≡ Some f.high)
  pub newreno_recovery : IsTrue (is_newreno f) → IsTrue f.recovery → IsSomeAnd f.recover (λ r. f.una < r) × (f.nxt ≡ f.high)
  pub cwnd_least : f.mss ≤ f.cwnd
  pub cwnd_most : f.cwnd ≤ 1099511627776
  pub ssthresh_least : f.mss ≤ f.ssthresh
  pub ssthresh_most : f.ssthresh ≤ 1099511627776
  pub rto_least : 1000000000 ≤ f.rto
  pub rto_most : f.rto ≤ 60000000000
  pub deadline_flight : IsSome f.deadline ↔ (f.una < f.nxt)
  pub deadline_most : IfSome f.deadline (λ t. t ≤ 2000000000000000)
  pub timed : IfSome f.timing (IsTimedWithin f.una f.high)
  pub srtt_most : IfSome f.srtt (λ s. s ≤ 2000000000000000)
  pub rttvar_most : f.rttvar ≤ 2000000000000000
