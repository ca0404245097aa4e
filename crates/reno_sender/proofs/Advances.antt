-- A new acknowledgement keeps the facts on fields.
use Rattle.std.proofs.Common.{◌≡◌, ℕ, ◌+◌, ◌-◌, ◌/◌, ◌<◌, ◌≤◌, ◌⊎◌, ◌↔◌, inl, inr, Bool, true, false, cond, ◌&&◌, leb, eqb, min, max, Option, Some, None, [], ◌∷◌, refl, sym, ◌∙◌, subst, arith}
use Rattle.std.specs.Prelude.{IfSome, IsSome, IsSomeAnd, IsTrue, IsFalse, is_some}
use Rattle.std.proofs.lemmas.Bool.{leb-false, ltb-true, eqb-true, eqb-false, and_parts, false≢true}
use Rattle.reno_sender.specs.declared.fields.SenderFields.{SenderFields}
use Rattle.reno_sender.specs.declared.fields.Timing.{Timing}
use Rattle.reno_sender.specs.Fields.{IsSound, IsTimedWithin, total, is_newreno}
use Rattle.reno_sender.specs.Timer.{Estimate, sampled, estimate_of, with_sample, measured_by, restarted}
use Rattle.reno_sender.specs.declared.congestion_control.Progress.TheVariants.{PartialData}
use Rattle.reno_sender.specs.CongestionControl.{window_at}
use Rattle.reno_sender.specs.LossRecovery.{window_after, advanced, new_acknowledgement, may_send_new, is_below, is_partial, partly, partial_acknowledgement}
use Rattle.reno_sender.specs.Sending.{Planned, sending}
use Rattle.sim_time.specs.Moment.{IsMoment}
use Rattle.reno_sender.specs.Laws.{RowKeeps, IsAckFor, IsDeadlineSetAt, IsWindowSize}
use Rattle.reno_sender.proofs.Multiples.{multiple_max, multiple_below}
use Rattle.reno_sender.proofs.CongestionControl.{progress_keeps_window, window_after_is}
use Rattle.reno_sender.proofs.Rows.{quiet_keeps, fill_keeps, resend_keeps, again_and_next_keeps, new_ends}

-- what an estimate has to be
record IsEstimate (e : Estimate) : Type 0 where
  srtt_most : e.srtt ≤ 2000000000000000
  rttvar_most : e.rttvar ≤ 2000000000000000
  rto_least : 1000000000 ≤ e.rto
  rto_most : e.rto ≤ 60000000000

estimate_from : (srtt rttvar : ℕ) → srtt ≤ 2000000000000000 → rttvar ≤ 2000000000000000 → IsEstimate (estimate_of srtt rttvar)
estimate_from srtt rttvar a b = record { srtt_most = a; rttvar_most = b; rto_least = omega arith; rto_most = omega arith }

sampled_is : (o : Option ℕ) (rttvar r : ℕ) → IfSome o (λ s. s ≤ 2000000000000000) → rttvar ≤ 2000000000000000 → r ≤ 2000000000000000 → IsEstimate (sampled o rttvar r)
sampled_is None rttvar r a b c = estimate_from r (r / 2) c (omega arith)
sampled_is (Some srtt) rttvar r a b c = estimate_from _ _ (omega arith) (omega arith)

-- what the sample of an acknowledgement leaves
record IsMeasured (f g : SenderFields) (ack now : ℕ) : Type 0 where
  mss_same : g.mss ≡ f.mss
  segments_same : g.segments ≡ f.segments
  rwnd_same : g.rwnd ≡ f.rwnd
  variant_same : g.variant ≡ f.variant
  high_same : g.high ≡ f.high
  ssthresh_same : g.ssthresh ≡ f.ssthresh
  dups_same : g.dups ≡ f.dups
  recovery_same : g.recovery ≡ f.recovery
  recover_same : g.recover ≡ f.recover
  partial_same : g.partial ≡ f.partial
  timed : IfSome g.timing (IsTimedWithin ack f.high)
  timing : (g.timing ≡ f.timing) ⊎ IfSome g.timing (λ t. t.sent_at ≤ now)
  srtt_most : IfSome g.srtt (λ s. s ≤ 2000000000000000)
  rttvar_most : g.rttvar ≤ 2000000000000000
  rto_least : 1000000000 ≤ g.rto
  rto_most : g.rto ≤ 60000000000

not_measured : (f : SenderFields) (ack now : ℕ) → IsSound f → IfSome f.timing (IsTimedWithin ack f.high) → IsMeasured f f ack now
not_measured f ack now s t = record {
  mss_same = refl;
  segments_same = refl;
  rwnd_same = refl;
  variant_same = refl;
  high_same = refl;
  ssthresh_same = refl;
  dups_same = refl;
  recovery_same = refl;
  recover_same = refl;
  partial_same = refl;
  timed = t;
  timing = inl refl;
  srtt_most = s.srtt_most;
  rttvar_most = s.rttvar_most;
  rto_least = s.rto_least;
  rto_most = s.rto_most;
}

with_sample_is : (f : SenderFields) (r ack now : ℕ) → IsEstimate (sampled f.srtt f.rttvar r) → IsMeasured f (with_sample f r) ack now
with_sample_is f r ack now i = record {
  mss_same = refl;
  segments_same = refl;
  rwnd_same = refl;
  variant_same = refl;
  high_same = refl;
  ssthresh_same = refl;
  dups_same = refl;
  recovery_same = refl;
  recover_same = refl;
  partial_same = refl;
  timed = tt;
  timing = inr tt;
  srtt_most = i.srtt_most;
  rttvar_most = i.rttvar_most;
  rto_least = i.rto_least;
  rto_most = i.rto_most;
}

measured_split : (b : Bool) (f : SenderFields) (t : Timing) (ack now : ℕ) → IsSound f → IsMoment now → f.timing ≡ Some t → (b ≡ false → ack < t.number) →
    IsMeasured f (cond b (with_sample f (now - t.sent_at)) f) ack now
measured_split true f t ack now s m e l = with_sample_is f (now - t.sent_at) ack now (sampled_is f.srtt f.rttvar (now - t.sent_at) s.srtt_most s.rttvar_most (omega arith))
measured_split false f t ack now s m e l =
    let was : IsTimedWithin f.una f.high t = subst (λ (o : Option Timing). IfSome o (IsTimedWithin f.una f.high)) e s.timed in
    let still : IsTimedWithin ack f.high t = record { above = l refl; most = was.most; sent_most = was.sent_most } in
    not_measured f ack now s (subst (λ (o : Option Timing). IfSome o (IsTimedWithin ack f.high)) (sym e) still)

measured_is : (o : Option Timing) (f : SenderFields) (ack now : ℕ) → IsSound f → IsMoment now → f.timing ≡ o → IsMeasured f (measured_by o f ack now) ack now
measured_is None f ack now s m e = not_measured f ack now s (subst (λ (o : Option Timing). IfSome o (IsTimedWithin ack f.high)) (sym e) tt)
measured_is (Some t) f ack now s m e = measured_split (leb t.number ack) f t ack now s m e (λ k. leb-false t.number ack k)

restarted_is : (b : Bool) (una nxt deadline now : ℕ) (d : Option ℕ) → una ≤ nxt → b ≡ eqb una nxt → d ≡ cond b None (Some deadline) →
    (IsSome d ↔ (una < nxt)) × ((d ≡ None) ⊎ (d ≡ Some deadline))
restarted_is true una nxt deadline now d l e k = ((λ t. absurd (false≢true (subst (λ (o : Option ℕ). is_some o ≡ true) k t)), λ m. absurd (omega (arith, eqb-true una nxt (sym e)))), inl k)
restarted_is false una nxt deadline now d l e k =
    let apart : una ≡ nxt → ⊥ = eqb-false una nxt (sym e) in
    ((λ _. omega arith, λ _. subst (λ (o : Option ℕ). IsSome o) (sym k) refl), inr k)

deadline_most_from : (d : Option ℕ) (now rto : ℕ) → IsMoment now → rto ≤ 60000000000 → (d ≡ None) ⊎ (d ≡ Some (now + rto)) → IfSome d (λ t. t ≤ 2000000000000000)
deadline_most_from d now rto m r c =
    elim c [
      | inl e ↦ subst (λ (o : Option ℕ). IfSome o (λ t. t ≤ 2000000000000000)) (sym e) tt
      | inr e ↦ subst (λ (o : Option ℕ). IfSome o (λ t. t ≤ 2000000000000000)) (sym e) (omega arith)
    ]

deadline_from : (old d : Option ℕ) (now rto : ℕ) → 1000000000 ≤ rto → rto ≤ 60000000000 → (d ≡ None) ⊎ (d ≡ Some (now + rto)) → (d ≡ None) ⊎ ((d ≡ old) ⊎ IsDeadlineSetAt now d)
deadline_from old d now rto l m c =
    elim c [ inl e ↦ inl e | inr e ↦ inr (inr (record { after = rto; after_least = l; after_most = m; is_then = e })) ]

-- where all was sent once only, or else recover is high, an acknowledgement leaves it so
advanced_nxt : (f : SenderFields) (ack now : ℕ) → IsAckFor f ack now → (f.nxt ≡ f.high) ⊎ (f.recover ≡ Some f.high) → (max f.nxt ack ≡ f.high) ⊎ (f.recover ≡ Some f.high)
advanced_nxt f ack now a h = elim h [ inl all ↦ inl (omega (arith, a.most)) | inr is ↦ inr is ]

advanced_from : (f g : SenderFields) (ack now : ℕ) → IsSound f → IsMoment now → IsAckFor f ack now → f.una < ack → IsMeasured f g ack now →
    RowKeeps f (record g {
      una = ack;
      nxt = max f.nxt ack;
      cwnd = window_after f (ack - f.una);
      dups = 0;
      lt = 0;
      recovery = false;
      resent = false;
      deadline = restarted ack (max f.nxt ack) (now + g.rto);
    }) [] now
advanced_from f g ack now s moment a new m =
    let nxt : ℕ = max f.nxt ack in
    let cwnd : ℕ = window_after f (ack - f.una) in
    let deadline : Option ℕ = restarted ack nxt (now + g.rto) in
    let window : IsWindowSize f cwnd = window_after_is f (ack - f.una) s in
    let timer : (IsSome deadline ↔ (ack < nxt)) × ((deadline ≡ None) ⊎ (deadline ≡ Some (now + g.rto))) =
    restarted_is (eqb ack nxt) ack nxt (now + g.rto) now deadline (omega arith) refl refl in
    let h : SenderFields = record g { una = ack; nxt = nxt; cwnd = cwnd; dups = 0; lt = 0; recovery = false; resent = false; deadline = deadline } in
    let sound_h : IsSound h = record {
      mss_least = omega (arith, m.mss_same, s.mss_least);
      mss_most = omega (arith, m.mss_same, s.mss_most);
      segments_least = omega (arith, m.segments_same, s.segments_least);
      segments_most = omega (arith, m.segments_same, s.segments_most);
      rwnd_least = omega (arith, m.mss_same, m.rwnd_same, s.rwnd_least);
      rwnd_most = omega (arith, m.rwnd_same, s.rwnd_most);
      una_nxt = omega arith;
      nxt_high = omega (arith, m.high_same, s.nxt_high, a.most);
      high_total = rw (m.high_same, m.mss_same, m.segments_same) s.high_total;
      una_multiple = rw m.mss_same a.multiple;
      nxt_multiple = rw m.mss_same (multiple_max f.mss f.nxt ack s.nxt_multiple a.multiple);
      high_multiple = rw (m.mss_same, m.high_same) s.high_multiple;
      in_window = omega (arith, m.rwnd_same, s.in_window);
      lt_flight = omega arith;
      recovery_dups = λ on. absurd (false≢true on);
      reno_recovery = λ _ many. absurd (omega arith);
      reno_recover = λ reno. m.recover_same ∙ s.reno_recover (rw m.variant_same at reno);
      reno_partial = λ reno. m.partial_same ∙ s.reno_partial (rw m.variant_same at reno);
      recover_most = rw (m.recover_same, m.high_same) s.recover_most;
      newreno_nxt = λ newreno. rw (m.recover_same, m.high_same) (advanced_nxt f ack now a (s.newreno_nxt (rw m.variant_same at newreno)));
      newreno_recovery = λ _ on. absurd (false≢true on);
      cwnd_least = omega (arith, m.mss_same, window.least);
      cwnd_most = window.most;
      ssthresh_least = omega (arith, m.mss_same, m.ssthresh_same, s.ssthresh_least);
      ssthresh_most = omega (arith, m.ssthresh_same, s.ssthresh_most);
      rto_least = m.rto_least;
      rto_most = m.rto_most;
      deadline_flight = timer.0;
      deadline_most = deadline_most_from deadline now g.rto moment m.rto_most timer.1;
      timed = rw m.high_same m.timed;
      srtt_most = m.srtt_most;
      rttvar_most = m.rttvar_most;
    } in
    quiet_keeps f h now sound_h m.mss_same m.segments_same m.rwnd_same m.variant_same (omega arith) (omega (arith, m.high_same)) m.timing
    (deadline_from f.deadline deadline now g.rto m.rto_least m.rto_most timer.1)

pub advanced_keeps : (f : SenderFields) (ack now : ℕ) → IsSound f → IsMoment now → IsAckFor f ack now → f.una < ack → RowKeeps f (advanced f ack now) [] now
advanced_keeps f ack now s moment a new =
    advanced_from f (measured_by f.timing f ack now) ack now s moment a new (measured_is f.timing f ack now s moment refl)

pub new_acknowledgement_keeps : (f : SenderFields) (ack now : ℕ) → IsSound f → IsMoment now → IsAckFor f ack now → f.una < ack →
    RowKeeps f (new_acknowledgement f ack now).fields (new_acknowledgement f ack now).sent now
new_acknowledgement_keeps f ack now s moment a new = fill_keeps f (advanced f ack now) now (advanced_keeps f ack now s moment a new) moment

below_some : (ack : ℕ) (o : Option ℕ) → is_below ack o ≡ true → IsSomeAnd o (λ r. ack < r)
below_some ack None e = false≢true e
below_some ack (Some r) e = ltb-true ack r e

recover_above : (o : Option ℕ) (ack high : ℕ) → IsSomeAnd o (λ r. ack < r) → IfSome o (λ r. r ≤ high) → ack < high
recover_above None ack high b m = absurd b
recover_above (Some r) ack high b m = omega arith

kept_or_set : (b : Bool) (d : Option ℕ) (t : ℕ) → IsSome d → IsSome (cond b d (Some t)) × ((cond b d (Some t) ≡ d) ⊎ (cond b d (Some t) ≡ Some t))
kept_or_set true d t i = (i, inl refl)
kept_or_set false d t i = (refl, inr refl)

partly_deadline_most : (old d : Option ℕ) (now rto : ℕ) → IsMoment now → rto ≤ 60000000000 → IfSome old (λ t. t ≤ 2000000000000000) → (d ≡ old) ⊎ (d ≡ Some (now + rto)) → IfSome d (λ t. t ≤ 2000000000000000)
partly_deadline_most old d now rto m r o c =
    elim c [
      | inl e ↦ subst (λ (o : Option ℕ). IfSome o (λ t. t ≤ 2000000000000000)) (sym e) o
      | inr e ↦ subst (λ (o : Option ℕ). IfSome o (λ t. t ≤ 2000000000000000)) (sym e) (omega arith)
    ]

partly_deadline : (old d : Option ℕ) (now rto : ℕ) → 1000000000 ≤ rto → rto ≤ 60000000000 → (d ≡ old) ⊎ (d ≡ Some (now + rto)) → (d ≡ None) ⊎ ((d ≡ old) ⊎ IsDeadlineSetAt now d)
partly_deadline old d now rto l m c =
    elim c [ inl e ↦ inr (inl e) | inr e ↦ inr (inr (record { after = rto; after_least = l; after_most = m; is_then = e })) ]

-- a partial acknowledgement comes in recovery, with all sent once only
is_partial_facts : (f : SenderFields) (ack : ℕ) → IsSound f → is_partial f ack ≡ true → IsTrue (is_newreno f) × (IsTrue f.recovery × (IsSomeAnd f.recover (λ r. ack < r) × (f.nxt ≡ f.high)))
is_partial_facts f ack s e =
    let outer : (is_newreno f ≡ true) × ((f.recovery && is_below ack f.recover) ≡ true) = and_parts _ _ e in
    let inner : (f.recovery ≡ true) × (is_below ack f.recover ≡ true) = and_parts _ _ outer.1 in
    (outer.0, (inner.0, (below_some ack f.recover inner.1, (s.newreno_recovery outer.0 inner.0).1)))

partly_from : (f g : SenderFields) (ack now : ℕ) → IsSound f → IsMoment now → IsAckFor f ack now → f.una < ack → is_partial f ack ≡ true → IsMeasured f g ack now →
    RowKeeps f (record g {
      una = ack;
      nxt = max f.nxt ack;
      cwnd = window_at f (PartialData (ack - f.una));
      lt = 0;
      resent = false;
      deadline = cond f.partial f.deadline (Some (now + g.rto));
      partial = true;
    }) [] now
partly_from f g ack now s moment a new part m =
    let facts : IsTrue (is_newreno f) × (IsTrue f.recovery × (IsSomeAnd f.recover (λ r. ack < r) × (f.nxt ≡ f.high))) = is_partial_facts f ack s part in
    let newreno : IsTrue (is_newreno f) = facts.0 in
    let on : IsTrue f.recovery = facts.1.0 in
    let not_reno : IsFalse (is_newreno g) → ⊥ = λ reno. false≢true (sym (rw m.variant_same at reno) ∙ newreno) in
    let all_sent : f.nxt ≡ f.high = facts.1.1.1 in
    let out : ack < f.nxt = omega (arith, recover_above f.recover ack f.high facts.1.1.0 s.recover_most) in
    let segment : f.una + f.mss ≤ ack = multiple_below f.mss f.una ack s.mss_least s.una_multiple a.multiple new in
    let cwnd : ℕ = window_at f (PartialData (ack - f.una)) in
    let window : IsWindowSize f cwnd = progress_keeps_window f (PartialData (ack - f.una)) s (omega arith) in
    let deadline : Option ℕ = cond f.partial f.deadline (Some (now + g.rto)) in
    let timer : IsSome deadline × ((deadline ≡ f.deadline) ⊎ (deadline ≡ Some (now + g.rto))) = kept_or_set f.partial f.deadline (now + g.rto) (s.deadline_flight.1 (omega arith)) in
    let h : SenderFields = record g { una = ack; nxt = max f.nxt ack; cwnd = cwnd; lt = 0; resent = false; deadline = deadline; partial = true } in
    let sound_h : IsSound h = record {
      mss_least = omega (arith, m.mss_same, s.mss_least);
      mss_most = omega (arith, m.mss_same, s.mss_most);
      segments_least = omega (arith, m.segments_same, s.segments_least);
      segments_most = omega (arith, m.segments_same, s.segments_most);
      rwnd_least = omega (arith, m.mss_same, m.rwnd_same, s.rwnd_least);
      rwnd_most = omega (arith, m.rwnd_same, s.rwnd_most);
      una_nxt = omega arith;
      nxt_high = omega (arith, m.high_same, s.nxt_high, a.most);
      high_total = rw (m.high_same, m.mss_same, m.segments_same) s.high_total;
      una_multiple = rw m.mss_same a.multiple;
      nxt_multiple = rw m.mss_same (multiple_max f.mss f.nxt ack s.nxt_multiple a.multiple);
      high_multiple = rw (m.mss_same, m.high_same) s.high_multiple;
      in_window = omega (arith, m.rwnd_same, s.in_window);
      lt_flight = omega arith;
      recovery_dups = λ _. omega (arith, m.dups_same, s.recovery_dups on);
      reno_recovery = λ reno _. absurd (not_reno reno);
      reno_recover = λ reno. absurd (not_reno reno);
      reno_partial = λ reno. absurd (not_reno reno);
      recover_most = rw (m.recover_same, m.high_same) s.recover_most;
      newreno_nxt = λ _. inl (omega (arith, m.high_same));
      newreno_recovery = λ _ _. (rw m.recover_same facts.1.1.0, omega (arith, m.high_same));
      cwnd_least = omega (arith, m.mss_same, window.least);
      cwnd_most = window.most;
      ssthresh_least = omega (arith, m.mss_same, m.ssthresh_same, s.ssthresh_least);
      ssthresh_most = omega (arith, m.ssthresh_same, s.ssthresh_most);
      rto_least = m.rto_least;
      rto_most = m.rto_most;
      deadline_flight = (λ _. omega arith, λ _. timer.0);
      deadline_most = partly_deadline_most f.deadline deadline now g.rto moment m.rto_most s.deadline_most timer.1;
      timed = rw m.high_same m.timed;
      srtt_most = m.srtt_most;
      rttvar_most = m.rttvar_most;
    } in
    quiet_keeps f h now sound_h m.mss_same m.segments_same m.rwnd_same m.variant_same (omega arith) (omega (arith, m.high_same)) m.timing
    (partly_deadline f.deadline deadline now g.rto m.rto_least m.rto_most timer.1)

pub partly_keeps : (f : SenderFields) (ack now : ℕ) → IsSound f → IsMoment now → IsAckFor f ack now → f.una < ack → is_partial f ack ≡ true → RowKeeps f (partly f ack now) [] now
partly_keeps f ack now s moment a new part =
    partly_from f (measured_by f.timing f ack now) ack now s moment a new part (measured_is f.timing f ack now s moment refl)

-- what is acknowledged in part leaves something to be sent again
pub partly_out : (f : SenderFields) (ack now : ℕ) → IsSound f → is_partial f ack ≡ true → (partly f ack now).una < (partly f ack now).nxt
partly_out f ack now s part =
    let facts : IsTrue (is_newreno f) × (IsTrue f.recovery × (IsSomeAnd f.recover (λ r. ack < r) × (f.nxt ≡ f.high))) = is_partial_facts f ack s part in
    omega (arith, recover_above f.recover ack f.high facts.1.1.0 s.recover_most, facts.1.1.1)

partial_split : (b : Bool) (f h : SenderFields) (now : ℕ) → RowKeeps f h [] now → IsMoment now → h.una < h.nxt → h.lt ≤ h.nxt - h.una →
    (b ≡ true → (h.nxt + h.mss ≤ total h) × (h.nxt + h.mss ≤ h.una + min h.cwnd h.rwnd)) →
    (p : Planned) → p ≡ cond b (sending h (h.una ∷ h.nxt ∷ []) (h.nxt + h.mss) now) (sending h (h.una ∷ []) h.nxt now) →
    RowKeeps f p.fields p.sent now
partial_split true f h now k moment out lt ends p e =
    let within : (h.nxt + h.mss ≤ total h) × (h.nxt + h.mss ≤ h.una + min h.cwnd h.rwnd) = ends refl in
    subst (λ (q : Planned). RowKeeps f q.fields q.sent now) (sym e) (again_and_next_keeps f h now k moment out within.0 (omega (arith, within.1)))
partial_split false f h now k moment out lt ends p e =
    subst (λ (q : Planned). RowKeeps f q.fields q.sent now) (sym e) (resend_keeps f h h.nxt now k out (omega arith) k.sound.nxt_multiple lt (inl refl))

pub partial_acknowledgement_keeps : (f : SenderFields) (ack now : ℕ) → IsSound f → IsMoment now → IsAckFor f ack now → f.una < ack → is_partial f ack ≡ true →
    RowKeeps f (partial_acknowledgement f ack now).fields (partial_acknowledgement f ack now).sent now
partial_acknowledgement_keeps f ack now s moment a new part =
    let h : SenderFields = partly f ack now in
    let k : RowKeeps f h [] now = partly_keeps f ack now s moment a new part in
    let end : ℕ = h.una + min h.cwnd h.rwnd in
    partial_split (may_send_new h end) f h now k moment (partly_out f ack now s part) k.sound.lt_flight (λ t. new_ends h end k.sound t) (partial_acknowledgement f ack now) refl
