-- What sending a run of segments leaves.
use Rattle.std.proofs.Common.{◌≡◌, ℕ, zero, suc, ◌+◌, ◌-◌, ◌*◌, ◌<◌, ◌≤◌, ◌⊎◌, ◌↔◌, inl, inr, Bool, true, false, cond, ◌&&◌, ltb, leb, max, Option, Some, None, List, [], length, refl, ap, sym, ◌∙◌, subst, arith}
use Rattle.std.specs.Prelude.{find, option_map, IfSome, IsSome}
use Rattle.std.specs.Option.{option_or}
use Rattle.std.specs.List.{list_any}
use Rattle.std.proofs.lemmas.Bool.{le-ltb, lt-ltb, ltb-true, cases_lt}
use Rattle.std.proofs.Math.Nat.{zero-mul, suc-mul, le-mul_of_pos_right}
use Rattle.reno_sender.specs.declared.fields.SenderFields.{SenderFields}
use Rattle.reno_sender.specs.declared.fields.Timing.{Timing}
use Rattle.reno_sender.specs.Fields.{IsSound, IsTimedWithin, IsMultiple, total}
use Rattle.reno_sender.specs.Sending.{spaced, sending, timing_after, timing_of, deadline_after}
use Rattle.sim_time.specs.Moment.{IsMoment}
use Rattle.reno_sender.specs.Laws.{RowKeeps, IsSegment, IsDeadlineSetAt}
use Rattle.reno_sender.proofs.Multiples.{multiples_apart, multiple_after, multiple_below, multiple_max, places_below, places_up_to}
use Rattle.reno_sender.proofs.Runs.{length-spaced, find-spaced, find_none-spaced, none_below-spaced, all-spaced}

still_timed : (o : Option Timing) (una high high' : ℕ) → high ≤ high' → IfSome o (IsTimedWithin una high) → IfSome o (IsTimedWithin una high')
still_timed None una high high' l h = tt
still_timed (Some t) una high high' l h = record { above = h.above; most = omega (arith, h.most); sent_most = h.sent_most }

pub still_below : (o : Option ℕ) (high high' : ℕ) → high ≤ high' → IfSome o (λ r. r ≤ high) → IfSome o (λ r. r ≤ high')
still_below None high high' l h = tt
still_below (Some r) high high' l h = omega arith

-- where all was sent once only, or else recover is high, that stays while nxt rises
recover_still : (o : Option ℕ) (nxt high nxt' : ℕ) → nxt ≤ nxt' → (nxt ≡ high) ⊎ (o ≡ Some high) → (nxt' ≡ max high nxt') ⊎ (o ≡ Some (max high nxt'))
recover_still o nxt high nxt' l h =
    elim (cases_lt nxt' high) [
      | inl below ↦ elim h [ inl e ↦ absurd (omega arith) | inr e ↦ (let same : max high nxt' ≡ high = omega arith in inr (rw same e)) ]
      | inr past ↦ inl (omega arith)
    ]

-- the first of a run is its least
any_below-spaced : (high first m n : ℕ) → list_any (λ x. ltb x high) (spaced first m (suc n)) ≡ ltb first high
any_below-spaced high first m n =
    elim (cases_lt first high) [
      | inl l ↦ rw (lt-ltb first high l) refl
      | inr l ↦ rw (le-ltb first high l) (none_below-spaced high (first + m) m n (omega arith))
    ]

find_new-spaced : (high first m n k : ℕ) → 1 ≤ m → high ≡ first + k * m → find (λ x. leb high x) (spaced first m n) ≡ cond (ltb high (first + n * m)) (Some high) None
find_new-spaced high first m n k p e =
    elim (cases_lt k n) [
      | inl l ↦ rw (lt-ltb high (first + n * m) (omega (arith, places_below m k n l))) (find-spaced high first m n k p e l)
      | inr l ↦ rw (le-ltb high (first + n * m) (omega (arith, places_up_to m k n l))) (find_none-spaced high first m n k p e l)
    ]

shape : (b c d : Bool) (t : Option Timing) (G : ℕ → Timing) (x : ℕ) → d ≡ true → option_or (cond c None t) (option_map G (cond b (Some x) None)) ≡ option_or (cond (d && c) None t) (cond b (Some (G x)) None)
shape true c d t G x e = rw e refl
shape false c d t G x e = rw e refl

timing_split : (o t : Option Timing) (u : Timing) (a b : Bool) (P : Type 0) → (b ≡ true → P) → o ≡ option_or (cond a None t) (cond b (Some u) None) → (o ≡ t) ⊎ ((o ≡ None) ⊎ ((o ≡ Some u) × P))
timing_split o t u true true P p e = inr (inr (e, p refl))
timing_split o t u true false P p e = inr (inl e)
timing_split o None u false true P p e = inr (inr (e, p refl))
timing_split o None u false false P p e = inl e
timing_split o (Some t) u false b P p e = inl e

option_or-some : (d : Option ℕ) (t : ℕ) → (option_or d (Some t) ≡ d) ⊎ (option_or d (Some t) ≡ Some t)
option_or-some None t = inr refl
option_or-some (Some u) t = inl refl

option_or-is_some : (d : Option ℕ) (t : ℕ) → IsSome (option_or d (Some t))
option_or-is_some None t = refl
option_or-is_some (Some u) t = refl

-- the timing after a run, by its ends
pub timing_after-spaced : (h : SenderFields) (n now : ℕ) → IsSound h → timing_after h (spaced h.nxt h.mss n) now ≡ option_or (cond (ltb 0 n && ltb h.nxt h.high) None h.timing) (cond (ltb h.high (h.nxt + n * h.mss)) (Some (timing_of (h.high + h.mss) now)) None)
timing_after-spaced h zero now s = rw (le-ltb h.high (h.nxt + 0 * h.mss) (omega (arith, zero-mul h.mss))) refl
timing_after-spaced h (suc n) now s =
    let d : (k : ℕ) × (h.high ≡ h.nxt + k * h.mss) = multiples_apart h.mss h.nxt h.high s.mss_least s.nxt_multiple s.high_multiple s.nxt_high in
    let G : ℕ → Timing = λ x. timing_of (x + h.mss) now in
    let run : List ℕ = spaced h.nxt h.mss (suc n) in
    let first : Option ℕ = find (λ x. leb h.high x) run in
    ap (λ b. option_or (cond b None h.timing) (option_map G first)) (any_below-spaced h.high h.nxt h.mss n)
    ∙ (ap (λ o. option_or (cond (ltb h.nxt h.high) None h.timing) (option_map G o)) (find_new-spaced h.high h.nxt h.mss (suc n) d.0 s.mss_least d.1)
    ∙ shape (ltb h.high (h.nxt + suc n * h.mss)) (ltb h.nxt h.high) (ltb 0 (suc n)) h.timing G h.high (lt-ltb 0 (suc n) (omega arith)))

-- the timing after a run is none, what it was, or that of the first new segment, sent now
pub timing_cases : (h : SenderFields) (n now : ℕ) → IsSound h →
    (timing_after h (spaced h.nxt h.mss n) now ≡ h.timing) ⊎ ((timing_after h (spaced h.nxt h.mss n) now ≡ None)
    ⊎ ((timing_after h (spaced h.nxt h.mss n) now ≡ Some (timing_of (h.high + h.mss) now)) × (h.high < h.nxt + n * h.mss)))
timing_cases h n now s =
    timing_split _ h.timing (timing_of (h.high + h.mss) now) (ltb 0 n && ltb h.nxt h.high) (ltb h.high (h.nxt + n * h.mss)) (h.high < h.nxt + n * h.mss)
    (λ e. ltb-true _ _ e) (timing_after-spaced h n now s)

-- the deadline after a run: kept, or set where it was off
deadline_cases : (h : SenderFields) (n now : ℕ) →
    (deadline_after h (spaced h.nxt h.mss n) now ≡ h.deadline) ⊎ (deadline_after h (spaced h.nxt h.mss n) now ≡ Some (now + h.rto))
deadline_cases h zero now = inl refl
deadline_cases h (suc n) now = option_or-some h.deadline (now + h.rto)

deadline_on : (h : SenderFields) (n now : ℕ) → 0 < n → IsSome (deadline_after h (spaced h.nxt h.mss n) now)
deadline_on h zero now l = absurd (omega arith)
deadline_on h (suc n) now l = option_or-is_some h.deadline (now + h.rto)

deadline_flight-run : (h : SenderFields) (n nxt now : ℕ) → IsSound h → nxt ≡ h.nxt + n * h.mss → IsSome (deadline_after h (spaced h.nxt h.mss n) now) ↔ (h.una < nxt)
deadline_flight-run h zero nxt now s at =
    let same : nxt ≡ h.nxt = omega (arith, zero-mul h.mss) in
    subst (λ x. IsSome h.deadline ↔ (h.una < x)) (sym same) s.deadline_flight
deadline_flight-run h (suc n) nxt now s at = (λ _. omega (arith, suc-mul n h.mss, s.mss_least, s.una_nxt), λ _. deadline_on h (suc n) now (omega arith))

-- what the timing, the deadline and the list of a run are, for `run_keeps`
module _ (f h : SenderFields) (n nxt now : ℕ) (k : RowKeeps f h [] now) (moment : IsMoment now) (at : nxt ≡ h.nxt + n * h.mss) where
  abbrev run : List ℕ
  run = spaced h.nxt h.mss n

  deadline_most-run : IfSome (deadline_after h run now) (λ t. t ≤ 2000000000000000)
  deadline_most-run =
      elim (deadline_cases h n now) [
        | inl e ↦ subst (λ (o : Option ℕ). IfSome o (λ t. t ≤ 2000000000000000)) (sym e) k.sound.deadline_most
        | inr e ↦ subst (λ (o : Option ℕ). IfSome o (λ t. t ≤ 2000000000000000)) (sym e) (omega (arith, k.sound.rto_most))
      ]

  deadline-run : (deadline_after h run now ≡ None) ⊎ ((deadline_after h run now ≡ f.deadline) ⊎ IsDeadlineSetAt now (deadline_after h run now))
  deadline-run =
      elim (deadline_cases h n now) [
        | inl e ↦ subst (λ (o : Option ℕ). (o ≡ None) ⊎ ((o ≡ f.deadline) ⊎ IsDeadlineSetAt now o)) (sym e) k.deadline
        | inr e ↦ inr (inr (record { after = h.rto; after_least = k.sound.rto_least; after_most = k.sound.rto_most; is_then = e }))
      ]

  timed_new : h.high < h.nxt + n * h.mss → IsTimedWithin h.una (max h.high nxt) (timing_of (h.high + h.mss) now)
  timed_new l =
      let s : IsSound h = k.sound in
      let beyond : h.high + h.mss ≤ nxt = multiple_below h.mss h.high nxt s.mss_least s.high_multiple (subst (IsMultiple h.mss) (sym at) (multiple_after h.mss h.nxt n s.nxt_multiple)) (omega arith) in
      record { above = omega arith; most = omega arith; sent_most = omega arith }

  timed-run : IfSome (timing_after h run now) (IsTimedWithin h.una (max h.high nxt))
  timed-run =
      elim (timing_cases h n now k.sound) [
        | inl e ↦ subst (λ (o : Option Timing). IfSome o (IsTimedWithin h.una (max h.high nxt))) (sym e) (still_timed h.timing h.una h.high (max h.high nxt) (omega arith) k.sound.timed)
        | inr (inl e) ↦ subst (λ (o : Option Timing). IfSome o (IsTimedWithin h.una (max h.high nxt))) (sym e) tt
        | inr (inr p) ↦ subst (λ (o : Option Timing). IfSome o (IsTimedWithin h.una (max h.high nxt))) (sym p.0) (timed_new p.1)
      ]

  timing-run : (timing_after h run now ≡ f.timing) ⊎ IfSome (timing_after h run now) (λ t. t.sent_at ≤ now)
  timing-run =
      elim (timing_cases h n now k.sound) [
        | inl e ↦ subst (λ (o : Option Timing). (o ≡ f.timing) ⊎ IfSome o (λ t. t.sent_at ≤ now)) (sym e) k.timing
        | inr (inl e) ↦ inr (subst (λ (o : Option Timing). IfSome o (λ t. t.sent_at ≤ now)) (sym e) tt)
        | inr (inr p) ↦ inr (subst (λ (o : Option Timing). IfSome o (λ t. t.sent_at ≤ now)) (sym p.0) (omega arith))
      ]

  few-run : nxt - h.una ≤ h.rwnd → length run ≤ 1073741825
  few-run in_window =
      let s : IsSound h = k.sound in
      rw (length-spaced h.nxt h.mss n) (omega (arith, le-mul_of_pos_right {m = h.mss} n (omega arith)))

-- a row that leads to h leads further by a run from there
pub run_keeps : (f h : SenderFields) (n nxt now lt : ℕ) → RowKeeps f h [] now → IsMoment now → nxt ≡ h.nxt + n * h.mss → nxt ≤ total h → nxt - h.una ≤ h.rwnd → lt ≤ nxt - h.una →
    RowKeeps f (record (sending h (spaced h.nxt h.mss n) nxt now).fields { lt = lt }) (spaced h.nxt h.mss n) now
run_keeps f h n nxt now lt k moment at in_total in_window lt_flight =
    let s : IsSound h = k.sound in
    let nxt_whole : IsMultiple h.mss nxt = subst (IsMultiple h.mss) (sym at) (multiple_after h.mss h.nxt n s.nxt_multiple) in
    let further : h.nxt ≤ nxt = omega arith in
    record {
      sound = record {
        mss_least = s.mss_least;
        mss_most = s.mss_most;
        segments_least = s.segments_least;
        segments_most = s.segments_most;
        rwnd_least = s.rwnd_least;
        rwnd_most = s.rwnd_most;
        una_nxt = omega arith;
        nxt_high = omega arith;
        high_total = omega (arith, s.high_total);
        una_multiple = s.una_multiple;
        nxt_multiple = nxt_whole;
        high_multiple = multiple_max h.mss h.high nxt s.high_multiple nxt_whole;
        in_window = in_window;
        lt_flight = lt_flight;
        recovery_dups = s.recovery_dups;
        reno_recovery = s.reno_recovery;
        reno_recover = s.reno_recover;
        reno_partial = s.reno_partial;
        recover_most = still_below h.recover h.high (max h.high nxt) (omega arith) s.recover_most;
        newreno_nxt = λ e. recover_still h.recover h.nxt h.high nxt further (s.newreno_nxt e);
        newreno_recovery = λ e on. ((s.newreno_recovery e on).0, omega (arith, (s.newreno_recovery e on).1));
        cwnd_least = s.cwnd_least;
        cwnd_most = s.cwnd_most;
        ssthresh_least = s.ssthresh_least;
        ssthresh_most = s.ssthresh_most;
        rto_least = s.rto_least;
        rto_most = s.rto_most;
        deadline_flight = deadline_flight-run h n nxt now s at;
        deadline_most = deadline_most-run f h n nxt now k moment at;
        timed = timed-run f h n nxt now k moment at;
        srtt_most = s.srtt_most;
        rttvar_most = s.rttvar_most;
      };
      mss_same = k.mss_same;
      segments_same = k.segments_same;
      rwnd_same = k.rwnd_same;
      variant_same = k.variant_same;
      una_rises = k.una_rises;
      high_rises = omega (arith, k.high_rises);
      sends = all-spaced (IsSegment (record (sending h (spaced h.nxt h.mss n) nxt now).fields { lt = lt })) h.mss nxt
          (λ x whole ends. record { multiple = whole; by_high = omega arith; by_total = omega arith; in_window = omega arith }) h.nxt n s.nxt_multiple (omega arith);
      few = few-run f h n nxt now k moment at in_window;
      timing = timing-run f h n nxt now k moment at;
      deadline = deadline-run f h n nxt now k moment at;
    }
