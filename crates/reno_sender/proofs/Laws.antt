-- Every row of the table keeps the facts on fields.
use Rattle.std.proofs.Common.{◌≡◌, ◌%◌, ◌<◌, ◌≤◌, ℕ, inl, refl, sym, subst, arith}
use Rattle.std.proofs.lemmas.Bool.Decides.{nat_tests}
use Rattle.std.proofs.lemmas.Bool.{false≢true}
use Rattle.sim_time.specs.InitialWindow.{initial_window_of}
use Rattle.sim_time.specs.declared.variant.Iw.{Iw}
use Rattle.sim_time.specs.declared.variant.Iw.TheVariants.{Iw3, Iw10}
use Rattle.reno_sender.specs.declared.fields.SenderFields.{SenderFields}
use Rattle.reno_sender.specs.Fields.{IsSound}
use Rattle.reno_sender.specs.Table.{started}
use Rattle.reno_sender.specs.Laws.{RowKeeps, initial, by_start, by_acknowledgement, by_timeout, ReachableIsSound, StartKeeps, AcknowledgementKeeps, TimeoutKeeps, InitialIsSound}
use Rattle.reno_sender.proofs.Multiples.{multiple_zero}
use Rattle.reno_sender.proofs.Rows.{same_keeps, fill_keeps, early_duplicate_keeps, fast_retransmit_keeps, unentered_keeps, repeated_duplicate_keeps, further_duplicate_keeps, timed_out_row_keeps}
use Rattle.reno_sender.proofs.RowLaws.{by_rows}
use Rattle.reno_sender.proofs.Advances.{new_acknowledgement_keeps, partial_acknowledgement_keeps}

window_bounds : (mss : ℕ) (iw : Iw) → 1 ≤ mss → mss ≤ 9000 → (mss ≤ initial_window_of mss iw) × (initial_window_of mss iw ≤ 90000)
window_bounds mss Iw3 least most = (grind (arith, nat_tests), grind (arith, nat_tests))
window_bounds mss Iw10 least most = (omega arith, omega arith)

pub initial_sound : InitialIsSound
initial_sound s flow =
    let zero_whole : 0 % s.mss ≡ 0 = multiple_zero s.mss flow.mss_least in
    let window : (s.mss ≤ initial_window_of s.mss s.variant.iw) × (initial_window_of s.mss s.variant.iw ≤ 90000) = window_bounds s.mss s.variant.iw flow.mss_least flow.mss_most in
    record {
      mss_least = flow.mss_least;
      mss_most = flow.mss_most;
      segments_least = flow.segments_least;
      segments_most = flow.segments_most;
      rwnd_least = flow.rwnd_least;
      rwnd_most = flow.rwnd_most;
      una_nxt = omega arith;
      nxt_high = omega arith;
      high_total = omega arith;
      una_multiple = zero_whole;
      nxt_multiple = zero_whole;
      high_multiple = zero_whole;
      in_window = omega arith;
      lt_flight = omega arith;
      recovery_dups = λ on. absurd (false≢true on);
      reno_recovery = λ _ many. absurd (omega arith);
      reno_recover = λ _. refl;
      reno_partial = λ _. refl;
      recover_most = tt;
      newreno_nxt = λ _. inl refl;
      newreno_recovery = λ _ on. absurd (false≢true on);
      cwnd_least = window.0;
      cwnd_most = omega (arith, window.1);
      ssthresh_least = flow.rwnd_least;
      ssthresh_most = omega (arith, flow.rwnd_most);
      rto_least = omega arith;
      rto_most = omega arith;
      deadline_flight = (λ t. absurd (false≢true t), λ l. absurd (omega arith));
      deadline_most = tt;
      timed = tt;
      srtt_most = tt;
      rttvar_most = omega arith;
    }

below : (f : SenderFields) → (f.una ≡ f.nxt → ⊥) → f.una ≤ f.nxt → f.una < f.nxt
below f apart l = omega arith

pub started_keeps : StartKeeps
unfolding started
started_keeps f now sound moment = fill_keeps f f now (same_keeps f now sound) moment

pub acknowledged_keeps : AcknowledgementKeeps
acknowledged_keeps f ack now sound moment is_ack =
    by_rows (λ p. RowKeeps f p.fields p.sent now) f ack now
    (λ new _. new_acknowledgement_keeps f ack now sound moment is_ack new) (λ new part. partial_acknowledgement_keeps f ack now sound moment is_ack new part) (same_keeps f now sound)
    (λ on. further_duplicate_keeps f now sound moment on) (λ apart _ enter. fast_retransmit_keeps f now sound moment (below f apart sound.una_nxt) enter)
    (λ off unentered. unentered_keeps f now sound off unentered)
    (λ off few. early_duplicate_keeps f now sound moment off few) (λ off many. repeated_duplicate_keeps f now sound off many)

pub timed_out_keeps : TimeoutKeeps
timed_out_keeps f now sound moment set = timed_out_row_keeps f now sound moment set

pub reachable_sound : ReachableIsSound
reachable_sound s f flow (initial e) = subst IsSound (sym e) (initial_sound s flow)
reachable_sound s g flow (by_start {f} now from moment e) =
    subst IsSound (sym e) (started_keeps f now (reachable_sound s f flow from) moment).sound
reachable_sound s g flow (by_acknowledgement {f} ack now from moment is_ack e) =
    subst IsSound (sym e) (acknowledged_keeps f ack now (reachable_sound s f flow from) moment is_ack).sound
reachable_sound s g flow (by_timeout {f} now from moment set e) =
    subst IsSound (sym e) (timed_out_keeps f now (reachable_sound s f flow from) moment set).sound
