-- Each row of congestion control leaves windows in range, and a loss leaves ssthresh as RFC 5681 says.
use Rattle.std.proofs.Common.{◌≡◌, ℕ, ◌*◌, ◌≤◌, true, false, refl, arith}
use Rattle.reno_sender.specs.declared.fields.SenderFields.{SenderFields}
use Rattle.reno_sender.specs.declared.congestion_control.Progress.TheVariants.{NewData, FurtherDuplicate, PartialData, RecoveryEnd}
use Rattle.reno_sender.specs.declared.congestion_control.Loss.TheVariants.{ByDuplicates, ByTimer}
use Rattle.reno_sender.specs.Fields.{IsSound, flight_size}
use Rattle.reno_sender.specs.CongestionControl.{halved, lowered_at}
use Rattle.reno_sender.specs.LossRecovery.{window_after}
use Rattle.reno_sender.specs.Laws.{IsWindowSize, ProgressKeepsWindow, LossKeepsWindows}
use Rattle.reno_sender.proofs.RenoGrowth.{either_size, enlarged_is, reno_grows_in_range}

halved_is : (f : SenderFields) (flight : ℕ) → IsSound f → flight ≤ flight_size f → IsWindowSize f (halved flight f.mss)
halved_is f flight s few = record { least = omega arith; most = omega (arith, s.in_window, s.rwnd_most, s.mss_most) }

pub progress_keeps_window : ProgressKeepsWindow
progress_keeps_window f (NewData bytes) s is = reno_grows_in_range f bytes s
progress_keeps_window f FurtherDuplicate s is = enlarged_is f f.mss s
progress_keeps_window f (PartialData bytes) s is = record { least = omega arith; most = omega (arith, s.cwnd_most, s.mss_most, is) }
progress_keeps_window f RecoveryEnd s is = record { least = s.ssthresh_least; most = s.ssthresh_most }

pub loss_keeps_windows : LossKeepsWindows
loss_keeps_windows f ByDuplicates s =
    (halved_is f _ s (omega arith), record { least = omega arith; most = omega (arith, s.in_window, s.rwnd_most, s.mss_most) })
loss_keeps_windows f ByTimer s = (
  either_size f f.resent _ _ (record { least = s.ssthresh_least; most = s.ssthresh_most }) (halved_is f (flight_size f) s (omega arith)),
  record { least = omega arith; most = omega (arith, s.mss_most) },
)

pub window_after_is : (f : SenderFields) (bytes : ℕ) → IsSound f → IsWindowSize f (window_after f bytes)
window_after_is f bytes s = either_size f f.recovery _ _ (progress_keeps_window f RecoveryEnd s tt) (progress_keeps_window f (NewData bytes) s tt)

-- a loss that duplicates or the first timeout of a segment tell of leaves ssthresh at two segments at least; a further timeout leaves it as it was
pub loss_leaves_two : (f : SenderFields) → 2 * f.mss ≤ (lowered_at f ByDuplicates).ssthresh
loss_leaves_two f = omega arith

pub first_timeout_leaves_two : (f : SenderFields) → f.resent ≡ false → 2 * f.mss ≤ (lowered_at f ByTimer).ssthresh
first_timeout_leaves_two f first = rw first (omega arith)

pub further_timeout_leaves : (f : SenderFields) → f.resent ≡ true → (lowered_at f ByTimer).ssthresh ≡ f.ssthresh
further_timeout_leaves f again = rw again refl
