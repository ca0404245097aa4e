-- What a new acknowledgement that is not partial lets go.
use Rattle.std.proofs.Common.{◌≡◌, ℕ, ◌+◌, ◌-◌, ◌*◌, ◌<◌, ◌≤◌, false, max, Option, refl, sym, ap, ◌∙◌, subst, arith}
use Rattle.std.proofs.lemmas.Bool.{lt-ltb}
use Rattle.reno_sender.specs.declared.fields.SenderFields.{SenderFields}
use Rattle.reno_sender.specs.declared.fields.Timing.{Timing}
use Rattle.reno_sender.specs.declared.plan.AckRun.{AckRun}
use Rattle.reno_sender.specs.AckRun.{IsAckRun, let_go}
use Rattle.reno_sender.specs.Fields.{IsSound, total}
use Rattle.reno_sender.specs.Laws.{IsAckFor}
use Rattle.reno_sender.specs.Sending.{Planned, fill_count, spaced}
use Rattle.reno_sender.specs.LossRecovery.{advanced, new_acknowledgement, window_after}
use Rattle.reno_sender.specs.Table.{acknowledged, newly_acknowledged}
use Rattle.reno_sender.specs.Timer.{measured_by, restarted}
use Rattle.sim_time.specs.Moment.{IsMoment}
use Rattle.reno_sender.proofs.Advances.{advanced_keeps, new_acknowledgement_keeps}
use Rattle.reno_sender.proofs.Rows.{fill_in_total}
use Rattle.reno_sender.proofs.Runs.{length-spaced}
use Rattle.reno_sender.proofs.Samples.{by_sample}

abbrev advanced_from : SenderFields → SenderFields → ℕ → ℕ → SenderFields
advanced_from g f ack now = record g {
  una = ack;
  nxt = max f.nxt ack;
  cwnd = window_after f (ack - f.una);
  dups = 0;
  lt = 0;
  recovery = false;
  resent = false;
  deadline = restarted ack (max f.nxt ack) (now + g.rto);
}

-- a sample changes nothing of how much goes
count_by : (o : Option Timing) (f : SenderFields) (ack now : ℕ) → fill_count (advanced_from (measured_by o f ack now) f ack now) ≡ let_go f ack
count_by o f ack now = by_sample (λ g. fill_count (advanced_from g f ack now) ≡ let_go f ack) o f ack now refl (λ r. refl)

pub count_is : (f : SenderFields) (ack now : ℕ) → fill_count (advanced f ack now) ≡ let_go f ack
count_is f ack now = count_by f.timing f ack now

pub of_new_data : (f : SenderFields) (ack now : ℕ) → f.una < ack → acknowledged f ack now ≡ newly_acknowledged f ack now
unfolding acknowledged
of_new_data f ack now new = rw (lt-ltb f.una ack new) refl

pub is_new : (f : SenderFields) (ack now : ℕ) (run : AckRun) → IsAckRun f ack run → acknowledged f ack now ≡ new_acknowledgement f ack now
unfolding acknowledged
is_new f ack now run is = rw (lt-ltb f.una ack is.new, is.whole) refl

pub run_mss : (f : SenderFields) (ack now : ℕ) (run : AckRun) → IsSound f → IsMoment now → IsAckFor f ack now → IsAckRun f ack run → (acknowledged f ack now).fields.mss ≡ f.mss
run_mss f ack now run s moment a is = ap (λ (p : Planned). p.fields.mss) (is_new f ack now run is) ∙ (advanced_keeps f ack now s moment a is.new).mss_same

-- what goes is the run
pub run_sent : (f : SenderFields) (ack now : ℕ) (run : AckRun) → IsSound f → IsMoment now → IsAckFor f ack now → IsAckRun f ack run → (acknowledged f ack now).sent ≡ spaced run.first f.mss run.count
run_sent f ack now run s moment a is =
    let g = advanced f ack now in
    ap (λ (p : Planned). p.sent) (is_new f ack now run is)
    ∙ ap (λ (n : ℕ). spaced g.nxt g.mss n) (count_is f ack now ∙ sym is.count_is)
    ∙ ap (λ (m : ℕ). spaced g.nxt m run.count) (advanced_keeps f ack now s moment a is.new).mss_same
    ∙ ap (λ (x : ℕ). spaced x f.mss run.count) (sym is.first_is)

-- it ends within the greatest flow
pub run_ends : (f : SenderFields) (ack now : ℕ) (run : AckRun) → IsSound f → IsMoment now → IsAckFor f ack now → IsAckRun f ack run → run.first + run.count * f.mss ≤ total f
run_ends f ack now run s moment a is =
    let g = advanced f ack now in
    let k = advanced_keeps f ack now s moment a is.new in
    let whole : g.nxt + fill_count g * g.mss ≤ total g = fill_in_total g now k.sound moment in
    let counted : g.nxt + run.count * g.mss ≤ total g = subst (λ (n : ℕ). g.nxt + n * g.mss ≤ total g) (count_is f ack now ∙ sym is.count_is) whole in
    let sized : g.nxt + run.count * f.mss ≤ g.segments * f.mss = subst (λ (m : ℕ). g.nxt + run.count * m ≤ g.segments * m) k.mss_same counted in
    let flow : g.nxt + run.count * f.mss ≤ f.segments * f.mss = subst (λ (n : ℕ). g.nxt + run.count * f.mss ≤ n * f.mss) k.segments_same sized in
    subst (λ (x : ℕ). x + run.count * f.mss ≤ f.segments * f.mss) (sym is.first_is) flow

-- and is not long
pub run_few : (f : SenderFields) (ack now : ℕ) (run : AckRun) → IsSound f → IsMoment now → IsAckFor f ack now → IsAckRun f ack run → run.count ≤ 1073741825
run_few f ack now run s moment a is =
    let g = advanced f ack now in
    let few = (new_acknowledgement_keeps f ack now s moment a is.new).few in
    omega (arith, few, length-spaced g.nxt g.mss (fill_count g), count_is f ack now, is.count_is)
