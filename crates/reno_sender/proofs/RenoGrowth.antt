-- Reno's growth leaves a window in range.
use Rattle.std.proofs.Common.{ℕ, ◌*◌, ◌/◌, Bool, true, false, cond, ltb, min, max, arith}
use Rattle.reno_sender.specs.declared.fields.SenderFields.{SenderFields}
use Rattle.reno_sender.specs.Fields.{IsSound}
use Rattle.reno_sender.specs.RenoGrowth.{enlarged, grown_by_reno}
use Rattle.reno_sender.specs.Laws.{IsWindowSize}

pub enlarged_is : (f : SenderFields) (bytes : ℕ) → IsSound f → IsWindowSize f (enlarged f.cwnd bytes)
enlarged_is f bytes s = record { least = omega (arith, s.cwnd_least, s.mss_most); most = omega arith }

pub either_size : (f : SenderFields) (b : Bool) (x y : ℕ) → IsWindowSize f x → IsWindowSize f y → IsWindowSize f (cond b x y)
either_size f true x y p q = p
either_size f false x y p q = q

pub reno_grows_in_range : (f : SenderFields) (bytes : ℕ) → IsSound f → IsWindowSize f (grown_by_reno f bytes)
reno_grows_in_range f bytes s =
    either_size f (ltb f.cwnd f.ssthresh) _ _ (enlarged_is f (min bytes f.mss) s) (enlarged_is f (max (f.mss * f.mss / f.cwnd) 1) s)
