-- What holds of a sender with a sample and of one without holds where an acknowledgement may give one.
use Rattle.std.proofs.Common.{ℕ, ◌-◌, true, false, cond, leb, Option, Some, None}
use Rattle.reno_sender.specs.declared.fields.SenderFields.{SenderFields}
use Rattle.reno_sender.specs.declared.fields.Timing.{Timing}
use Rattle.reno_sender.specs.Timer.{measured_by, with_sample}

pub by_sample : (P : SenderFields → Type 0) (timing : Option Timing) (f : SenderFields) (ack now : ℕ) → P f → ((r : ℕ) → P (with_sample f r)) → P (measured_by timing f ack now)
by_sample P None f ack now same sampled = same
by_sample P (Some t) f ack now same sampled = elim (leb t.number ack) as (λ b. P (cond b (with_sample f (now - t.sent_at)) f)) [ true ↦ sampled (now - t.sent_at) | false ↦ same ]
