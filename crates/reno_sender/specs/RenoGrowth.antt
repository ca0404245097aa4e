-- How Reno's congestion window grows, and NewReno's (RFC 5681 section 3.1).
use Rattle.std.specs.Prelude.{◌+◌, ◌*◌, ◌/◌, ℕ, min, max, nat_lt, if◌then◌else◌}
use Rattle.reno_sender.specs.declared.fields.SenderFields.{SenderFields}
use Rattle.reno_sender.specs.declared.congestion_control.TheConstants.{MOST_CWND}

-- cwnd with so many bytes more, where additions stop at 2^40
abbrev pub enlarged : ℕ → ℕ → ℕ
enlarged cwnd bytes = min (cwnd + bytes) MOST_CWND

-- N bytes are newly acknowledged outside recovery: below ssthresh slow start, cwnd + min (N, SMSS) (equation 2); else congestion avoidance, cwnd + max (SMSS * SMSS / cwnd, 1) (equation 3)
abbrev pub grown_by_reno : SenderFields → ℕ → ℕ
grown_by_reno f bytes = if nat_lt f.cwnd f.ssthresh then enlarged f.cwnd (min bytes f.mss) else enlarged f.cwnd (max (f.mss * f.mss / f.cwnd) 1)
