-- While drop state lasts, drops are due on one schedule, take after take.
use Rattle.std.proofs.Common.{◌≡◌, ◌+◌, ◌-◌, ℕ, zero, suc, true, cond, sym, ap, ◌∙◌, arith, add-suc, add-zero}
use Rattle.sim_time.specs.ControlLaw.{gap_of}
use Rattle.aqm.specs.Codel.{CodelState}
use Rattle.aqm.specs.Judgement.{judgement}
use Rattle.aqm.specs.Drops.{count_after_drops, drop_due, drops, after_drops}
use Rattle.aqm.specs.Taken.{CodelTaken, codel_taken}
use Rattle.aqm.proofs.TakenCases.{taken_in_drop_state}
use Rattle.aqm.specs.Laws.{ScheduleStays}

schedule : (s : CodelState) (now k j : ℕ) → (judgement s now k).ok ≡ true → drop_due (after_drops s now k) j ≡ drop_due s (k + j)
schedule s now k zero ok = ap (λ b. drop_due s (cond b k (k - 1))) ok ∙ ap (drop_due s) (sym (add-zero k))
schedule s now k (suc j) ok =
    let c : count_after_drops (count_after_drops s.count k) (suc j) ≡ count_after_drops s.count (suc (k + j)) = omega arith in
    let before = schedule s now k j ok in
    rw (add-suc k j) (ap (λ n. n + gap_of s.interval (count_after_drops (count_after_drops s.count k) (suc j))) before ∙ ap (λ n. drop_due s (k + j) + gap_of s.interval n) c)

pub schedule_stays : ScheduleStays
schedule_stays s now j on still =
    let e : (codel_taken s now).queue ≡ after_drops s now (drops s now) = ap (λ (t : CodelTaken). t.queue) (taken_in_drop_state s now on) in
    rw e (schedule s now (drops s now) j (rw e at still))
