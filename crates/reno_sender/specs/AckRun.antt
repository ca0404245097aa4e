-- A new acknowledgement that is not partial, by the run of segments that it lets go.
use Rattle.std.specs.Prelude.{◌≡◌, ◌<◌, ◌+◌, ◌-◌, ◌/◌, ℕ, false, min, max}
use Rattle.reno_sender.specs.declared.fields.SenderFields.{SenderFields}
use Rattle.reno_sender.specs.declared.plan.AckRun.{AckRun}
use Rattle.reno_sender.specs.Fields.{total}
use Rattle.reno_sender.specs.LossRecovery.{is_partial, window_after}

-- how many whole segments the windows and the flow allow then
abbrev pub let_go : SenderFields → ℕ → ℕ
let_go f ack = (min (total f) (ack + min (window_after f (ack - f.una)) f.rwnd) - max f.nxt ack) / f.mss

-- it is new and not partial, and so many segments go, from the next byte to send on
pub record IsAckRun (f : SenderFields) (ack : ℕ) (run : AckRun) : Type 0 where
  pub new : f.una < ack
  pub whole : is_partial f ack ≡ false
  pub first_is : run.first ≡ max f.nxt ack
  pub count_is : run.count ≡ let_go f ack
