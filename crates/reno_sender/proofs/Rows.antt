-- Each row of the table keeps the facts on fields.
use Rattle.std.proofs.Common.{◌≡◌, ℕ, ◌+◌, ◌-◌, ◌*◌, ◌<◌, ◌≤◌, ◌⊎◌, ◌↔◌, inl, inr, Bool, true, false, cond, ◌&&◌, ◌||◌, ltb, leb, eqb, min, max, Option, Some, None, [], ◌∷◌, refl, ap, sym, ◌∙◌, subst, arith}
use Rattle.std.specs.Prelude.{IfSome, IsSome, IsSomeAnd, IsTrue, IsFalse, find, option_map}
use Rattle.std.specs.Option.{option_or}
use Rattle.std.proofs.lemmas.Bool.{le-ltb, lt-ltb, ltb-true, leb-true, lt-leb, cases_lt, and_parts, false≢true}
use Rattle.std.proofs.Math.Nat.{zero-mul, one-mul, mul-mod_left}
use Rattle.reno_sender.specs.declared.fields.SenderFields.{SenderFields}
use Rattle.reno_sender.specs.declared.fields.Timing.{Timing}
use Rattle.reno_sender.specs.Fields.{IsSound, IsTimedWithin, IsMultiple, total, flight_size, is_newreno}
use Rattle.reno_sender.specs.Timer.{backed_off}
use Rattle.reno_sender.specs.Sending.{Planned, spaced, sending, timing_of, timing_after, filling, fill_count, allowed_end}
use Rattle.reno_sender.specs.declared.congestion_control.Lowered.{Lowered}
use Rattle.reno_sender.specs.declared.congestion_control.Progress.TheVariants.{FurtherDuplicate}
use Rattle.reno_sender.specs.declared.congestion_control.Loss.TheVariants.{ByDuplicates, ByTimer}
use Rattle.reno_sender.specs.CongestionControl.{window_at, lowered_at}
use Rattle.reno_sender.specs.LossRecovery.{one_more, may_send_new, nothing_sent, early_duplicate, is_past, enters, recover_at_loss, fast_retransmit, repeated_duplicate, further_duplicate, inflated}
use Rattle.reno_sender.specs.Table.{timed_out}
use Rattle.sim_time.specs.Moment.{IsMoment}
use Rattle.reno_sender.specs.Laws.{RowKeeps, IsDeadlineSetAt, IsWindowSize}
use Rattle.reno_sender.proofs.Multiples.{multiple_next, multiple_below, fits_count}
use Rattle.reno_sender.specs.PlanView.{IsWellMade}
use Rattle.reno_sender.proofs.CongestionControl.{progress_keeps_window, loss_keeps_windows}
use Rattle.reno_sender.proofs.Runs.{length-spaced}
use Rattle.reno_sender.proofs.Sends.{run_keeps}

-- a change that sends nothing
pub quiet_keeps : (f h : SenderFields) (now : ℕ) → IsSound h → h.mss ≡ f.mss → h.segments ≡ f.segments → h.rwnd ≡ f.rwnd → h.variant ≡ f.variant → f.una ≤ h.una → f.high ≤ h.high →
    ((h.timing ≡ f.timing) ⊎ IfSome h.timing (λ t. t.sent_at ≤ now)) → ((h.deadline ≡ None) ⊎ ((h.deadline ≡ f.deadline) ⊎ IsDeadlineSetAt now h.deadline)) → RowKeeps f h [] now
quiet_keeps f h now s m g w v u i t d = record {
  sound = s;
  mss_same = m;
  segments_same = g;
  rwnd_same = w;
  variant_same = v;
  una_rises = u;
  high_rises = i;
  sends = tt;
  few = omega arith;
  timing = t;
  deadline = d;
}

-- what a sender keeps of losses
record IsOfLosses (f : SenderFields) (dups : ℕ) (recovery : Bool) (recover : Option ℕ) (partial : Bool) : Type 0 where
  recovery_dups : IsTrue recovery → 3 ≤ dups
  reno_recovery : IsFalse (is_newreno f) → 3 ≤ dups → IsTrue recovery
  reno_recover : IsFalse (is_newreno f) → recover ≡ None
  reno_partial : IsFalse (is_newreno f) → IsFalse partial
  recover_most : IfSome recover (λ r. r ≤ f.high)
  newreno_nxt : IsTrue (is_newreno f) → (f.nxt ≡ f.high) ⊎ (recover ≡ Some f.high)
  newreno_recovery : IsTrue (is_newreno f) → IsTrue recovery → IsSomeAnd recover (λ r. f.una < r) × (f.nxt ≡ f.high)

same_losses : (f : SenderFields) → IsSound f → IsOfLosses f f.dups f.recovery f.recover f.partial
same_losses f s = record {
  recovery_dups = s.recovery_dups;
  reno_recovery = s.reno_recovery;
  reno_recover = s.reno_recover;
  reno_partial = s.reno_partial;
  recover_most = s.recover_most;
  newreno_nxt = s.newreno_nxt;
  newreno_recovery = s.newreno_recovery;
}

-- the facts where a row changes the windows, the counts, the timer and what is kept of losses
windows_sound : (f : SenderFields) (cwnd ssthresh dups lt rto : ℕ) (recovery resent : Bool) (timing : Option Timing) (deadline recover : Option ℕ) (partial : Bool) → IsSound f →
    lt ≤ flight_size f → IsOfLosses f dups recovery recover partial → f.mss ≤ cwnd → cwnd ≤ 1099511627776 → f.mss ≤ ssthresh → ssthresh ≤ 1099511627776 →
    1000000000 ≤ rto → rto ≤ 60000000000 → (IsSome deadline ↔ (f.una < f.nxt)) → IfSome deadline (λ t. t ≤ 2000000000000000) → IfSome timing (IsTimedWithin f.una f.high) →
    IsSound (record f { cwnd = cwnd; ssthresh = ssthresh; dups = dups; lt = lt; rto = rto; recovery = recovery; resent = resent; timing = timing; deadline = deadline; recover = recover; partial = partial })
windows_sound f cwnd ssthresh dups lt rto recovery resent timing deadline recover partial s l r c c' t t' o o' d d' g = record {
  mss_least = s.mss_least;
  mss_most = s.mss_most;
  segments_least = s.segments_least;
  segments_most = s.segments_most;
  rwnd_least = s.rwnd_least;
  rwnd_most = s.rwnd_most;
  una_nxt = s.una_nxt;
  nxt_high = s.nxt_high;
  high_total = s.high_total;
  una_multiple = s.una_multiple;
  nxt_multiple = s.nxt_multiple;
  high_multiple = s.high_multiple;
  in_window = s.in_window;
  lt_flight = l;
  recovery_dups = r.recovery_dups;
  reno_recovery = r.reno_recovery;
  reno_recover = r.reno_recover;
  reno_partial = r.reno_partial;
  recover_most = r.recover_most;
  newreno_nxt = r.newreno_nxt;
  newreno_recovery = r.newreno_recovery;
  cwnd_least = c;
  cwnd_most = c';
  ssthresh_least = t;
  ssthresh_most = t';
  rto_least = o;
  rto_most = o';
  deadline_flight = d;
  deadline_most = d';
  timed = g;
  srtt_most = s.srtt_most;
  rttvar_most = s.rttvar_most;
}

-- nothing changes
pub same_keeps : (f : SenderFields) (now : ℕ) → IsSound f → RowKeeps f f [] now
same_keeps f now s = quiet_keeps f f now s refl refl refl refl (omega arith) (omega arith) (inl refl) (inr (inl refl))

-- a row that leads to h leads further by filling the window there
pub fill_keeps : (f h : SenderFields) (now : ℕ) → RowKeeps f h [] now → IsMoment now → RowKeeps f (filling h now).fields (filling h now).sent now
fill_keeps f h now k moment =
    let s : IsSound h = k.sound in
    let n : ℕ = fill_count h in
    let fits : 0 < n → h.nxt + n * h.mss ≤ allowed_end h = fits_count h.mss h.nxt (allowed_end h) n s.mss_least refl in
    let none : n ≡ 0 → n * h.mss ≡ 0 = λ e. ap (λ x. x * h.mss) e ∙ zero-mul h.mss in
    elim (cases_lt 0 n) [
      | inl l ↦ run_keeps f h n (h.nxt + n * h.mss) now h.lt k moment refl (omega (arith, fits l)) (omega (arith, fits l)) (omega (arith, s.lt_flight))
      | inr l ↦ (let e : n * h.mss ≡ 0 = none (omega arith) in
          run_keeps f h n (h.nxt + n * h.mss) now h.lt k moment refl (omega (arith, s.nxt_high, s.high_total)) (omega (arith, s.in_window)) (omega (arith, s.lt_flight)))
    ]

-- what a plan that sends a run holds, from the row that it is
pub run_well_made : (f g : SenderFields) (first n now : ℕ) → RowKeeps f g (spaced first g.mss n) now → first + n * g.mss ≡ g.nxt → IsWellMade (record { fields = g; resent = None; first = first; count = n })
run_well_made f g first n now k ends = record { sound = k.sound; resends_una = tt; run_ends = ends; few = subst (λ x. x ≤ 1073741825) (length-spaced first g.mss n) k.few }

pub fill_in_total : (f : SenderFields) (now : ℕ) → IsSound f → IsMoment now → f.nxt + fill_count f * f.mss ≤ total f
fill_in_total f now s moment =
    let k : RowKeeps f (filling f now).fields (filling f now).sent now = fill_keeps f f now (same_keeps f now s) moment in
    omega (arith, k.sound.nxt_high, k.sound.high_total)

pub fill_well_made : (f : SenderFields) (now : ℕ) → IsSound f → IsMoment now → IsWellMade (record { fields = (filling f now).fields; resent = None; first = f.nxt; count = fill_count f })
fill_well_made f now s moment = run_well_made f (filling f now).fields f.nxt (fill_count f) now (fill_keeps f f now (same_keeps f now s) moment) refl

-- a row that leads to h leads further by one new segment from there
pub one_keeps : (f h : SenderFields) (now lt : ℕ) → RowKeeps f h [] now → IsMoment now → h.nxt + h.mss ≤ total h → h.nxt + h.mss ≤ h.una + h.rwnd → lt ≤ h.nxt + h.mss - h.una →
    RowKeeps f (record (sending h (h.nxt ∷ []) (h.nxt + h.mss) now).fields { lt = lt }) (h.nxt ∷ []) now
one_keeps f h now lt k moment in_total in_window lt_flight =
    run_keeps f h 1 (h.nxt + h.mss) now lt k moment (omega (arith, one-mul h.mss)) in_total (omega arith) lt_flight

-- what a plan that sends one segment holds
pub one_well_made : (h : SenderFields) (now lt : ℕ) → IsSound h → IsMoment now → h.nxt + h.mss ≤ total h → h.nxt + h.mss ≤ h.una + h.rwnd → lt ≤ h.nxt + h.mss - h.una →
    IsWellMade (record { fields = record (sending h (h.nxt ∷ []) (h.nxt + h.mss) now).fields { lt = lt }; resent = None; first = h.nxt; count = 1 })
one_well_made h now lt s moment in_total in_window lt_flight =
    run_well_made h _ h.nxt 1 now (one_keeps h h now lt (same_keeps h now s) moment in_total in_window lt_flight) (omega (arith, one-mul h.mss))

-- sending una again
timing_again : (h : SenderFields) (now : ℕ) → h.una < h.high → timing_after h (h.una ∷ []) now ≡ None
timing_again h now l = rw (lt-ltb h.una h.high l, lt-leb h.high h.una l) refl

deadline_again : (d : Option ℕ) (t : ℕ) → IsSome d → option_or d (Some t) ≡ d
deadline_again None t e = cc
deadline_again (Some u) t e = refl

-- nxt stays, or it goes back at the end of recovery, with recover as high
abbrev WentBack : SenderFields → ℕ → Type 0
WentBack h nxt = (nxt ≡ h.nxt) ⊎ (IsFalse h.recovery × (IsTrue (is_newreno h) → h.recover ≡ Some h.high))

back_nxt : (h : SenderFields) (nxt : ℕ) → IsSound h → WentBack h nxt → IsTrue (is_newreno h) → (nxt ≡ h.high) ⊎ (h.recover ≡ Some h.high)
back_nxt h nxt s went e =
    elim went [
      | inl stays ↦ elim (s.newreno_nxt e) [ inl all ↦ inl (stays ∙ all) | inr is ↦ inr is ]
      | inr ended ↦ inr (ended.1 e)
    ]

back_recovery : (h : SenderFields) (nxt : ℕ) → IsSound h → WentBack h nxt → IsTrue (is_newreno h) → IsTrue h.recovery → IsSomeAnd h.recover (λ r. h.una < r) × (nxt ≡ h.high)
back_recovery h nxt s went e on =
    elim went [
      | inl stays ↦ (let was : IsSomeAnd h.recover (λ r. h.una < r) × (h.nxt ≡ h.high) = s.newreno_recovery e on in (was.0, stays ∙ was.1))
      | inr ended ↦ absurd (false≢true (sym ended.0 ∙ on))
    ]

again_sound : (h : SenderFields) (nxt : ℕ) → IsSound h → h.una < nxt → nxt ≤ h.nxt → IsMultiple h.mss nxt → h.lt ≤ nxt - h.una → WentBack h nxt → IsSound (record h { nxt = nxt; timing = None })
again_sound h nxt s out back whole lt_flight went = record {
  mss_least = s.mss_least;
  mss_most = s.mss_most;
  segments_least = s.segments_least;
  segments_most = s.segments_most;
  rwnd_least = s.rwnd_least;
  rwnd_most = s.rwnd_most;
  una_nxt = omega arith;
  nxt_high = omega (arith, s.nxt_high);
  high_total = s.high_total;
  una_multiple = s.una_multiple;
  nxt_multiple = whole;
  high_multiple = s.high_multiple;
  in_window = omega (arith, s.in_window);
  lt_flight = lt_flight;
  recovery_dups = s.recovery_dups;
  reno_recovery = s.reno_recovery;
  reno_recover = s.reno_recover;
  reno_partial = s.reno_partial;
  recover_most = s.recover_most;
  newreno_nxt = back_nxt h nxt s went;
  newreno_recovery = back_recovery h nxt s went;
  cwnd_least = s.cwnd_least;
  cwnd_most = s.cwnd_most;
  ssthresh_least = s.ssthresh_least;
  ssthresh_most = s.ssthresh_most;
  rto_least = s.rto_least;
  rto_most = s.rto_most;
  deadline_flight = (λ _. out, λ _. s.deadline_flight.1 (omega arith));
  deadline_most = s.deadline_most;
  timed = tt;
  srtt_most = s.srtt_most;
  rttvar_most = s.rttvar_most;
}

pub resend_well_made : (h : SenderFields) (nxt : ℕ) → IsSound h → h.una < nxt → nxt ≤ h.nxt → IsMultiple h.mss nxt → h.lt ≤ nxt - h.una → WentBack h nxt →
    IsWellMade (record { fields = record h { nxt = nxt; timing = None }; resent = Some h.una; first = nxt; count = 0 })
resend_well_made h nxt s out back whole lt_flight went = record {
  sound = again_sound h nxt s out back whole lt_flight went;
  resends_una = refl;
  run_ends = omega (arith, zero-mul h.mss);
  few = omega arith;
}

pub resend_keeps : (f h : SenderFields) (nxt now : ℕ) → RowKeeps f h [] now → h.una < nxt → nxt ≤ h.nxt → IsMultiple h.mss nxt → h.lt ≤ nxt - h.una → WentBack h nxt →
    RowKeeps f (sending h (h.una ∷ []) nxt now).fields (h.una ∷ []) now
resend_keeps f h nxt now k out back whole lt_flight went =
    let s : IsSound h = k.sound in
    let same : max h.high nxt ≡ h.high = omega (arith, s.nxt_high) in
    let untimed : timing_after h (h.una ∷ []) now ≡ None = timing_again h now (omega (arith, s.nxt_high)) in
    let kept : option_or h.deadline (Some (now + h.rto)) ≡ h.deadline = deadline_again h.deadline (now + h.rto) (s.deadline_flight.1 (omega arith)) in
    let ends : h.una + h.mss ≤ nxt = multiple_below h.mss h.una nxt s.mss_least s.una_multiple whole out in
    record {
      sound = rw (same, untimed, kept) (again_sound h nxt s out back whole lt_flight went);
      mss_same = k.mss_same;
      segments_same = k.segments_same;
      rwnd_same = k.rwnd_same;
      variant_same = k.variant_same;
      una_rises = k.una_rises;
      high_rises = omega (arith, k.high_rises);
      sends = (record { multiple = s.una_multiple; by_high = omega (arith, s.nxt_high); by_total = omega (arith, s.nxt_high, s.high_total); in_window = omega (arith, s.rwnd_least) }, tt);
      few = omega arith;
      timing = inr (subst (λ (o : Option Timing). IfSome o (λ t. t.sent_at ≤ now)) (sym untimed) tt);
      deadline = subst (λ (o : Option ℕ). (o ≡ None) ⊎ ((o ≡ f.deadline) ⊎ IsDeadlineSetAt now o)) (sym kept) k.deadline;
    }

untimed_keeps : (f h : SenderFields) (now : ℕ) → RowKeeps f h [] now → RowKeeps f (record h { timing = None }) [] now
untimed_keeps f h now k =
    let s : IsSound h = k.sound in
    let sound_u : IsSound (record h { timing = None }) = windows_sound h h.cwnd h.ssthresh h.dups h.lt h.rto h.recovery h.resent None h.deadline h.recover h.partial s
    s.lt_flight (same_losses h s) s.cwnd_least s.cwnd_most s.ssthresh_least s.ssthresh_most
    s.rto_least s.rto_most s.deadline_flight s.deadline_most tt in
    quiet_keeps f (record h { timing = None }) now sound_u k.mss_same k.segments_same k.rwnd_same k.variant_same k.una_rises k.high_rises (inr tt) k.deadline

either_none : (b : Bool) (o : Option Timing) → option_or (cond b None None) o ≡ o
either_none true o = refl
either_none false o = refl

-- the resending ends the timing, so the new segment is timed
timing_again_and_next : (h : SenderFields) (now : ℕ) → h.una < h.high → timing_after (record h { timing = None }) (h.nxt ∷ []) now ≡ timing_after h (h.una ∷ h.nxt ∷ []) now
timing_again_and_next h now l =
    rw (lt-ltb h.una h.high l, lt-leb h.high h.una l)
    (either_none (ltb h.nxt h.high || false) (option_map (λ x. timing_of (x + h.mss) now) (find (λ x. leb h.high x) (h.nxt ∷ []))))

-- una is sent again, and one new segment after it
pub again_and_next_keeps : (f h : SenderFields) (now : ℕ) → RowKeeps f h [] now → IsMoment now → h.una < h.nxt → h.nxt + h.mss ≤ total h → h.nxt + h.mss ≤ h.una + h.rwnd →
    RowKeeps f (sending h (h.una ∷ h.nxt ∷ []) (h.nxt + h.mss) now).fields (h.una ∷ h.nxt ∷ []) now
again_and_next_keeps f h now k moment out in_total in_window =
    let g : SenderFields = (sending h (h.una ∷ h.nxt ∷ []) (h.nxt + h.mss) now).fields in
    let s : IsSound h = k.sound in
    let u : RowKeeps f (record h { timing = None }) [] now = untimed_keeps f h now k in
    let one : RowKeeps f (record (sending (record h { timing = None }) (h.nxt ∷ []) (h.nxt + h.mss) now).fields { lt = h.lt }) (h.nxt ∷ []) now =
    one_keeps f (record h { timing = None }) now h.lt u moment in_total in_window (omega (arith, s.lt_flight)) in
    let same : timing_after (record h { timing = None }) (h.nxt ∷ []) now ≡ timing_after h (h.una ∷ h.nxt ∷ []) now = timing_again_and_next h now (omega (arith, s.nxt_high)) in
    let kept : RowKeeps f g (h.nxt ∷ []) now =
    subst (λ (t : Option Timing). RowKeeps f (record g { timing = t }) (h.nxt ∷ []) now) same one in
    record {
      sound = kept.sound;
      mss_same = kept.mss_same;
      segments_same = kept.segments_same;
      rwnd_same = kept.rwnd_same;
      variant_same = kept.variant_same;
      una_rises = kept.una_rises;
      high_rises = kept.high_rises;
      sends = (record { multiple = s.una_multiple; by_high = omega (arith, s.nxt_high); by_total = omega (arith, s.nxt_high, s.high_total); in_window = omega (arith, s.rwnd_least) }, kept.sends);
      few = omega arith;
      timing = kept.timing;
      deadline = kept.deadline;
    }

-- what a plan that sends both holds
pub again_and_next_well_made : (h : SenderFields) (now : ℕ) → IsSound h → IsMoment now → h.nxt + h.mss ≤ total h → h.nxt + h.mss ≤ h.una + h.rwnd →
    IsWellMade (record { fields = (sending (record h { timing = None }) (h.nxt ∷ []) (h.nxt + h.mss) now).fields; resent = Some h.una; first = h.nxt; count = 1 })
again_and_next_well_made h now s moment in_total in_window =
    let u : RowKeeps h (record h { timing = None }) [] now = untimed_keeps h h now (same_keeps h now s) in
    let one : IsWellMade (record { fields = record (sending (record h { timing = None }) (h.nxt ∷ []) (h.nxt + h.mss) now).fields { lt = h.lt }; resent = None; first = h.nxt; count = 1 }) =
    one_well_made (record h { timing = None }) now h.lt u.sound moment in_total in_window (omega (arith, s.lt_flight)) in
    record { sound = one.sound; resends_una = refl; run_ends = one.run_ends; few = one.few }

-- a duplicate outside recovery is counted
counted_losses : (f : SenderFields) (dups : ℕ) → IsSound f → IsFalse f.recovery → (IsFalse (is_newreno f) → dups < 3) → IsOfLosses f dups f.recovery f.recover f.partial
counted_losses f dups s e few = record {
  recovery_dups = λ on. absurd (false≢true (sym e ∙ on));
  reno_recovery = λ reno many. absurd (omega (arith, few reno));
  reno_recover = s.reno_recover;
  reno_partial = s.reno_partial;
  recover_most = s.recover_most;
  newreno_nxt = s.newreno_nxt;
  newreno_recovery = s.newreno_recovery;
}

-- a row that changes only dups
counted_keeps : (f : SenderFields) (dups now : ℕ) → IsSound f → IsFalse f.recovery → (IsFalse (is_newreno f) → dups < 3) → RowKeeps f (record f { dups = dups }) [] now
counted_keeps f dups now s e few =
    let h : SenderFields = record f { dups = dups } in
    let sound_h : IsSound h = windows_sound f f.cwnd f.ssthresh dups f.lt f.rto f.recovery f.resent f.timing f.deadline f.recover f.partial s
    s.lt_flight (counted_losses f dups s e few) s.cwnd_least s.cwnd_most s.ssthresh_least s.ssthresh_most
    s.rto_least s.rto_most s.deadline_flight s.deadline_most s.timed in
    quiet_keeps f h now sound_h refl refl refl refl (omega arith) (omega arith) (inl refl) (inr (inl refl))

one_more_few : (dups : ℕ) → dups < 2 → one_more dups < 3
one_more_few dups l =
    let below : dups < 4294967295 = omega arith in
    rw (lt-ltb dups 4294967295 below) (omega arith)

pub early_counted_keeps : (f : SenderFields) (now : ℕ) → IsSound f → IsFalse f.recovery → f.dups < 2 → RowKeeps f (record f { dups = one_more f.dups }) [] now
early_counted_keeps f now s e few = counted_keeps f (one_more f.dups) now s e (λ _. one_more_few f.dups few)

-- outside recovery Reno has counted two duplicates at most
newreno_only : (f : SenderFields) → IsSound f → IsFalse f.recovery → 3 ≤ f.dups → IsFalse (is_newreno f) → ⊥
newreno_only f s e many reno = false≢true (sym e ∙ s.reno_recovery reno many)

pub repeated_duplicate_keeps : (f : SenderFields) (now : ℕ) → IsSound f → IsFalse f.recovery → 3 ≤ f.dups → RowKeeps f (repeated_duplicate f).fields (repeated_duplicate f).sent now
repeated_duplicate_keeps f now s e many = counted_keeps f (one_more f.dups) now s e (λ reno. absurd (newreno_only f s e many reno))

-- what the test for a new segment says
pub new_ends : (f : SenderFields) (end : ℕ) → IsSound f → may_send_new f end ≡ true → (f.nxt + f.mss ≤ total f) × (f.nxt + f.mss ≤ end)
new_ends f end s t =
    let parts : (eqb f.nxt f.high ≡ true) × ((ltb f.nxt (total f) && leb (f.nxt + f.mss) end) ≡ true) = and_parts _ _ t in
    let more : (ltb f.nxt (total f) ≡ true) × (leb (f.nxt + f.mss) end ≡ true) = and_parts _ _ parts.1 in
    let whole : IsMultiple f.mss (total f) = mul-mod_left f.segments f.mss in
    (multiple_below f.mss f.nxt (total f) s.mss_least s.nxt_multiple whole (ltb-true _ _ more.0), leb-true _ _ more.1)

early_split : (b : Bool) (f : SenderFields) (now : ℕ) → IsSound f → RowKeeps f (record f { dups = one_more f.dups }) [] now → IsMoment now →
    (b ≡ true → (f.nxt + f.mss ≤ total f) × (f.nxt + f.mss ≤ f.una + min (f.cwnd + 2 * f.mss) f.rwnd)) →
    (p : Planned) → p ≡ cond b (sending (record f { dups = one_more f.dups; lt = f.lt + f.mss }) (f.nxt ∷ []) (f.nxt + f.mss) now) (nothing_sent (record f { dups = one_more f.dups })) →
    RowKeeps f p.fields p.sent now
early_split true f now s k moment ends p e =
    let within : (f.nxt + f.mss ≤ total f) × (f.nxt + f.mss ≤ f.una + min (f.cwnd + 2 * f.mss) f.rwnd) = ends refl in
    subst (λ (q : Planned). RowKeeps f q.fields q.sent now) (sym e)
    (one_keeps f (record f { dups = one_more f.dups }) now (f.lt + f.mss) k moment within.0 (omega (arith, within.1)) (omega (arith, s.lt_flight, s.una_nxt)))
early_split false f now s k moment ends p e = subst (λ (q : Planned). RowKeeps f q.fields q.sent now) (sym e) k

pub early_duplicate_keeps : (f : SenderFields) (now : ℕ) → IsSound f → IsMoment now → f.recovery ≡ false → f.dups < 2 →
    RowKeeps f (early_duplicate f now).fields (early_duplicate f now).sent now
early_duplicate_keeps f now s moment e d =
    let h : SenderFields = record f { dups = one_more f.dups } in
    let k : RowKeeps f h [] now = early_counted_keeps f now s e d in
    early_split (may_send_new f (f.una + min (f.cwnd + 2 * f.mss) f.rwnd)) f now s k moment (λ t. new_ends f (f.una + min (f.cwnd + 2 * f.mss) f.rwnd) s t) (early_duplicate f now) refl

-- a loss is found with all sent once only
enters_all_sent : (f : SenderFields) → IsSound f → enters f ≡ true → IsTrue (is_newreno f) → f.nxt ≡ f.high
enters_all_sent f s e newreno =
    let past : is_past f.recover f.una ≡ true = rw newreno at e in
    elim (s.newreno_nxt newreno) [
      | inl all ↦ all
      | inr is ↦ (let beyond : f.high < f.una = ltb-true f.high f.una (rw is at past) in absurd (omega (arith, s.una_nxt, s.nxt_high)))
    ]

loss_most : (b : Bool) (f : SenderFields) → IsSound f → IfSome (cond b (Some f.high) f.recover) (λ r. r ≤ f.high)
loss_most true f s = omega arith
loss_most false f s = s.recover_most

entered_losses : (f : SenderFields) → IsSound f → f.una < f.nxt → enters f ≡ true → IsOfLosses f 3 true (recover_at_loss f) false
entered_losses f s out e = record {
  recovery_dups = λ _. omega arith;
  reno_recovery = λ _ _. refl;
  reno_recover = λ reno. rw reno (s.reno_recover reno);
  reno_partial = λ _. refl;
  recover_most = loss_most (is_newreno f) f s;
  newreno_nxt = λ newreno. inl (enters_all_sent f s e newreno);
  newreno_recovery = λ newreno _. (rw newreno (omega (arith, s.nxt_high)), enters_all_sent f s e newreno);
}

abbrev pub retransmitting : SenderFields → SenderFields
retransmitting f =
    let lowered = lowered_at f ByDuplicates in
    record f { dups = 3; ssthresh = lowered.ssthresh; cwnd = lowered.cwnd; recovery = true; recover = recover_at_loss f; partial = false }

pub retransmitting_sound : (f : SenderFields) → IsSound f → f.una < f.nxt → enters f ≡ true → IsSound (retransmitting f)
retransmitting_sound f s out e =
    let low : Lowered = lowered_at f ByDuplicates in
    let is : IsWindowSize f low.ssthresh × IsWindowSize f low.cwnd = loss_keeps_windows f ByDuplicates s in
    windows_sound f low.cwnd low.ssthresh 3 f.lt f.rto true f.resent f.timing f.deadline (recover_at_loss f) false s
    s.lt_flight (entered_losses f s out e) is.1.least is.1.most is.0.least is.0.most
    s.rto_least s.rto_most s.deadline_flight s.deadline_most s.timed

pub fast_retransmit_keeps : (f : SenderFields) (now : ℕ) → IsSound f → IsMoment now → f.una < f.nxt → enters f ≡ true →
    RowKeeps f (fast_retransmit f now).fields (fast_retransmit f now).sent now
fast_retransmit_keeps f now s moment out e =
    let h : SenderFields = retransmitting f in
    resend_keeps f h f.nxt now (quiet_keeps f h now (retransmitting_sound f s out e) refl refl refl refl (omega arith) (omega arith) (inl refl) (inr (inl refl))) out (omega arith) s.nxt_multiple s.lt_flight (inl refl)

-- a third duplicate that tells of no loss is NewReno's alone
not_entered_newreno : (f : SenderFields) → enters f ≡ false → IsFalse (is_newreno f) → ⊥
not_entered_newreno f e reno = false≢true (sym (rw reno at e))

pub unentered_keeps : (f : SenderFields) (now : ℕ) → IsSound f → f.recovery ≡ false → enters f ≡ false → RowKeeps f (record f { dups = 3 }) [] now
unentered_keeps f now s off e = counted_keeps f 3 now s off (λ reno. absurd (not_entered_newreno f e reno))

at_least_three : (dups : ℕ) → 3 ≤ dups → 3 ≤ one_more dups
at_least_three dups l =
    elim (cases_lt dups 4294967295) [
      | inl m ↦ rw (lt-ltb dups 4294967295 m) (omega arith)
      | inr m ↦ rw (le-ltb dups 4294967295 m) l
    ]

inflated_losses : (f : SenderFields) → IsSound f → f.recovery ≡ true → 3 ≤ one_more f.dups → IsOfLosses f (one_more f.dups) f.recovery f.recover f.partial
inflated_losses f s on still = record {
  recovery_dups = λ _. still;
  reno_recovery = λ _ _. on;
  reno_recover = s.reno_recover;
  reno_partial = s.reno_partial;
  recover_most = s.recover_most;
  newreno_nxt = s.newreno_nxt;
  newreno_recovery = s.newreno_recovery;
}

pub inflated_sound : (f : SenderFields) → IsSound f → f.recovery ≡ true → IsSound (inflated f)
inflated_sound f s e =
    let three : 3 ≤ f.dups = s.recovery_dups e in
    let still : 3 ≤ one_more f.dups = at_least_three f.dups three in
    let window : IsWindowSize f (window_at f FurtherDuplicate) = progress_keeps_window f FurtherDuplicate s tt in
    windows_sound f (window_at f FurtherDuplicate) f.ssthresh (one_more f.dups) f.lt f.rto f.recovery f.resent f.timing f.deadline f.recover f.partial s
    s.lt_flight (inflated_losses f s e still) window.least window.most s.ssthresh_least s.ssthresh_most
    s.rto_least s.rto_most s.deadline_flight s.deadline_most s.timed

further_split : (b : Bool) (f h : SenderFields) (now : ℕ) → RowKeeps f h [] now → IsMoment now →
    (b ≡ true → (h.nxt + h.mss ≤ total h) × (h.nxt + h.mss ≤ h.una + min h.cwnd h.rwnd)) →
    (p : Planned) → p ≡ cond b (sending h (h.nxt ∷ []) (h.nxt + h.mss) now) (nothing_sent h) →
    RowKeeps f p.fields p.sent now
further_split true f h now k moment ends p e =
    let within : (h.nxt + h.mss ≤ total h) × (h.nxt + h.mss ≤ h.una + min h.cwnd h.rwnd) = ends refl in
    subst (λ (q : Planned). RowKeeps f q.fields q.sent now) (sym e)
    (one_keeps f h now h.lt k moment within.0 (omega (arith, within.1)) (omega (arith, k.sound.lt_flight, k.sound.una_nxt)))
further_split false f h now k moment ends p e = subst (λ (q : Planned). RowKeeps f q.fields q.sent now) (sym e) k

pub further_duplicate_keeps : (f : SenderFields) (now : ℕ) → IsSound f → IsMoment now → f.recovery ≡ true →
    RowKeeps f (further_duplicate f now).fields (further_duplicate f now).sent now
further_duplicate_keeps f now s moment e =
    let h : SenderFields = inflated f in
    let k : RowKeeps f h [] now = quiet_keeps f h now (inflated_sound f s e) refl refl refl refl (omega arith) (omega arith) (inl refl) (inr (inl refl)) in
    let end : ℕ = f.una + min (window_at f FurtherDuplicate) f.rwnd in
    further_split (may_send_new f end) f h now k moment (λ t. new_ends f end s t) (further_duplicate f now) refl

timed_out_losses : (f : SenderFields) → IsSound f → IsOfLosses f 0 false (recover_at_loss f) f.partial
timed_out_losses f s = record {
  recovery_dups = λ on. absurd (false≢true on);
  reno_recovery = λ _ many. absurd (omega arith);
  reno_recover = λ reno. rw reno (s.reno_recover reno);
  reno_partial = s.reno_partial;
  recover_most = loss_most (is_newreno f) f s;
  newreno_nxt = λ newreno. inr (rw newreno refl);
  newreno_recovery = λ _ on. absurd (false≢true on);
}

abbrev pub ended : SenderFields → ℕ → SenderFields
ended f now =
    let lowered = lowered_at f ByTimer in
    record f { ssthresh = lowered.ssthresh; cwnd = lowered.cwnd; rto = backed_off f.rto; dups = 0; lt = 0; recovery = false; recover = recover_at_loss f; resent = true; timing = None; deadline = Some (now + backed_off f.rto) }

rto_in_range : (f : SenderFields) → IsSound f → (1000000000 ≤ backed_off f.rto) × (backed_off f.rto ≤ 60000000000)
rto_in_range f s = (omega (arith, s.rto_least), omega arith)

pub ended_sound : (f : SenderFields) (now : ℕ) → IsSound f → IsMoment now → IsSome f.deadline → IsSound (ended f now)
ended_sound f now s moment set =
    let out : f.una < f.nxt = s.deadline_flight.0 set in
    let low : Lowered = lowered_at f ByTimer in
    let is : IsWindowSize f low.ssthresh × IsWindowSize f low.cwnd = loss_keeps_windows f ByTimer s in
    let range = rto_in_range f s in
    windows_sound f low.cwnd low.ssthresh 0 0 (backed_off f.rto) false true None (Some (now + backed_off f.rto)) (recover_at_loss f) f.partial s
    (omega arith) (timed_out_losses f s) is.1.least is.1.most is.0.least is.0.most
    range.0 range.1 (λ _. out, λ _. refl) (omega (arith, range.1)) tt

pub timed_out_row_keeps : (f : SenderFields) (now : ℕ) → IsSound f → IsMoment now → IsSome f.deadline →
    RowKeeps f (timed_out f now).fields (timed_out f now).sent now
unfolding timed_out
timed_out_row_keeps f now s moment set =
    let out : f.una < f.nxt = s.deadline_flight.0 set in
    let h : SenderFields = ended f now in
    let range = rto_in_range f s in
    let k : RowKeeps f h [] now = quiet_keeps f h now (ended_sound f now s moment set) refl refl refl refl (omega arith) (omega arith) (inr tt) (inr (inr (record { after = backed_off f.rto; after_least = range.0; after_most = range.1; is_then = refl }))) in
    resend_keeps f h (f.una + f.mss) now k (omega (arith, s.mss_least)) (multiple_below f.mss f.una f.nxt s.mss_least s.una_multiple s.nxt_multiple out)
    (multiple_next f.mss f.una s.una_multiple) (omega arith) (inr (refl, λ newreno. rw newreno refl))
