-- The retransmission timer (RFC 6298 sections 2 to 5).
use Rattle.std.specs.Prelude.{◌+◌, ◌-◌, ◌*◌, ◌/◌, ℕ, min, max, nat_le, ◌==◌, if◌then◌else◌, Option, Some, None}
use Rattle.std.specs.Int.{abs_diff}
use Rattle.reno_sender.specs.declared.fields.SenderFields.{SenderFields}
use Rattle.reno_sender.specs.declared.fields.Timing.{Timing}

-- what a round-trip time leaves, in nanoseconds
pub record Estimate : Type 0 where
  pub srtt : ℕ
  pub rttvar : ℕ
  pub rto : ℕ

-- RTO = SRTT + max(G, K·RTTVAR) with G one nanosecond and K four (2.2, 2.3), at least one second (2.4), at most sixty (2.5)
abbrev pub rto_of : ℕ → ℕ → ℕ
rto_of srtt rttvar = min (max (srtt + max 1 (4 * rttvar)) 1000000000) 60000000000

abbrev pub estimate_of : ℕ → ℕ → Estimate
estimate_of srtt rttvar = record { srtt = srtt; rttvar = rttvar; rto = rto_of srtt rttvar }

-- the first sample (2.2), and a later one (2.3): RTTVAR uses the old SRTT
abbrev pub sampled : Option ℕ → ℕ → ℕ → Estimate
sampled None rttvar r = estimate_of r (r / 2)
sampled (Some srtt) rttvar r = estimate_of ((7 * srtt + r) / 8) ((3 * rttvar + abs_diff srtt r) / 4)

-- a timeout doubles the RTO (5.5), up to sixty seconds
abbrev pub backed_off : ℕ → ℕ
backed_off rto = min (2 * rto) 60000000000

-- all that a sample does: it replaces the estimates and ends the timing; a backed-off rto stays until then
abbrev pub with_sample : SenderFields → ℕ → SenderFields
with_sample f r = let e = sampled f.srtt f.rttvar r in record f { timing = None; srtt = Some e.srtt; rttvar = e.rttvar; rto = e.rto }

-- an acknowledgement at or past the timed number gives a sample (sections 2 and 3)
abbrev pub measured_by : Option Timing → SenderFields → ℕ → ℕ → SenderFields
measured_by None f ack now = f
measured_by (Some t) f ack now = if nat_le t.number ack then with_sample f (now - t.sent_at) else f

-- the timer after a new acknowledgement: off where all is acknowledged, else from now on (sections 5.2 and 5.3)
abbrev pub restarted : ℕ → ℕ → ℕ → Option ℕ
restarted una nxt deadline = if una == nxt then None else Some deadline
