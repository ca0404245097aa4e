-- What a line keeps of a sender when the program runs.
use Rattle.std.specs.Prelude.{ℕ, Bool, ◌≡◌}
use Rattle.reno_sender.specs.declared.fields.SenderFields.{SenderFields}

-- each of these is the sender's
pub record IsShownOf (fields : SenderFields) (una nxt cwnd ssthresh : ℕ) (recovery : Bool) : Type 0 where
  pub una_is : una ≡ fields.una
  pub nxt_is : nxt ≡ fields.nxt
  pub cwnd_is : cwnd ≡ fields.cwnd
  pub ssthresh_is : ssthresh ≡ fields.ssthresh
  pub recovery_is : recovery ≡ fields.recovery
