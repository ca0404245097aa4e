-- Congestion control: what cwnd and ssthresh become (RFC 5681 sections 3.1 and 3.2, and with NewReno RFC 6582 section 3.2). One equation a row, from the fields and from what loss recovery says. What counts as a loss, and what is sent, is in LossRecovery.
use Rattle.std.specs.Prelude.{◌+◌, ◌-◌, ◌*◌, ◌/◌, ℕ, max, if◌then◌else◌}
use Rattle.reno_sender.specs.declared.fields.SenderFields.{SenderFields}
use Rattle.reno_sender.specs.declared.congestion_control.Progress.{Progress}
use Rattle.reno_sender.specs.declared.congestion_control.Progress.TheVariants.{NewData, FurtherDuplicate, PartialData, RecoveryEnd}
use Rattle.reno_sender.specs.declared.congestion_control.Loss.{Loss}
use Rattle.reno_sender.specs.declared.congestion_control.Loss.TheVariants.{ByDuplicates, ByTimer}
use Rattle.reno_sender.specs.declared.congestion_control.Lowered.{Lowered}
use Rattle.reno_sender.specs.Fields.{flight_size}
use Rattle.reno_sender.specs.RenoGrowth.{enlarged, grown_by_reno}

-- max (FlightSize / 2, 2 * SMSS) (RFC 5681 section 3.1, equation 4)
abbrev pub halved : ℕ → ℕ → ℕ
halved flight mss = max (flight / 2) (2 * mss)

-- cwnd where no loss is found, in four rows; ssthresh stays
abbrev pub window_at : SenderFields → Progress → ℕ
-- so many bytes are newly acknowledged outside recovery: slow start or congestion avoidance (RFC 5681 section 3.1)
window_at f (NewData bytes) = grown_by_reno f bytes
-- a further duplicate in recovery: cwnd + SMSS, as one segment has left the network (RFC 5681 section 3.2 step 4)
window_at f FurtherDuplicate = enlarged f.cwnd f.mss
-- a partial acknowledgement: cwnd falls by the bytes acknowledged and grows by SMSS, to SMSS at least (RFC 6582 section 3.2 step 3)
window_at f (PartialData bytes) = max (f.cwnd + f.mss - bytes) f.mss
-- a new acknowledgement ends recovery: cwnd = ssthresh (RFC 5681 section 3.2 step 6)
window_at f RecoveryEnd = f.ssthresh

-- ssthresh and cwnd where a loss is found, in two rows
abbrev pub lowered_at : SenderFields → Loss → Lowered
-- by the third duplicate: ssthresh = max ((FlightSize - lt) / 2, 2 * SMSS), as what limited transmit sent doesn't count; cwnd = ssthresh + 3 * SMSS, as three segments have left the network (RFC 5681 section 3.2 steps 2 and 3)
lowered_at f ByDuplicates = let threshold = halved (flight_size f - f.lt) f.mss in record { ssthresh = threshold; cwnd = threshold + 3 * f.mss }
-- by the timer: ssthresh = max (FlightSize / 2, 2 * SMSS) at the first timeout of a segment alone; cwnd = SMSS, the loss window (RFC 5681 section 3.1)
lowered_at f ByTimer = record { ssthresh = if f.resent then f.ssthresh else halved (flight_size f) f.mss; cwnd = f.mss }
