-- The laws of single rows: ssthresh, the timing and the rto.
use Rattle.std.proofs.Common.{◌≡◌, ℕ, zero, suc, ◌+◌, ◌-◌, ◌*◌, ◌<◌, ◌≤◌, ◌⊎◌, inl, inr, Bool, true, false, cond, ◌&&◌, ◌||◌, ltb, leb, eqb, min, Option, Some, None, List, [], ◌∷◌, length, get_or, refl, sym, ◌∙◌, arith}
use Rattle.std.specs.Prelude.{find, option_map, IfSome, IsTrue}
use Rattle.std.specs.List.{list_any}
use Rattle.std.proofs.lemmas.Bool.{ltb-true, ltb-false, eqb-false, or_parts, or_left, or_right, and_parts, lt-ltb, le-ltb, lt-leb, le-leb, cases_lt, false≢true}
use Rattle.reno_sender.specs.declared.fields.SenderFields.{SenderFields}
use Rattle.reno_sender.specs.declared.fields.Timing.{Timing}
use Rattle.reno_sender.specs.Timer.{backed_off, measured_by}
use Rattle.reno_sender.specs.Sending.{Planned, sending, timing_of, spaced, fill_count}
use Rattle.reno_sender.specs.declared.congestion_control.Lowered.{Lowered}
use Rattle.reno_sender.specs.declared.congestion_control.Progress.TheVariants.{FurtherDuplicate}
use Rattle.reno_sender.specs.declared.congestion_control.Loss.TheVariants.{ByDuplicates, ByTimer}
use Rattle.reno_sender.specs.CongestionControl.{window_at, lowered_at}
use Rattle.reno_sender.specs.LossRecovery.{new_acknowledgement, nothing_sent, further_duplicate, enters, recover_at_loss, fast_retransmit, repeated_duplicate, early_duplicate, is_partial, is_below, partly, partial_acknowledgement, may_send_new, advanced, inflated, one_more}
use Rattle.reno_sender.specs.Table.{started, acknowledged, timed_out}
use Rattle.reno_sender.specs.Fields.{is_newreno}
use Rattle.reno_sender.specs.Laws.{ThresholdAtRecovery, ThresholdAtTimeout, ThresholdAtFurtherTimeout, ThresholdStays, NeverTimesResent, StartNeverTimesResent, AcknowledgementNeverTimesResent, TimeoutNeverTimesResent, TimeoutDoublesRto, RtoStaysUntilSample, LastsUntilRecover, RecoveryLasts}
use Rattle.reno_sender.proofs.CongestionControl.{loss_leaves_two, first_timeout_leaves_two, further_timeout_leaves}
use Rattle.reno_sender.proofs.AckRuns.{of_new_data}
use Rattle.reno_sender.proofs.Samples.{by_sample}

three_at_least : (dups : ℕ) → eqb dups 2 ≡ false → ltb dups 2 ≡ false → 3 ≤ dups
three_at_least dups not_two not_few =
    let apart : dups ≡ 2 → ⊥ = eqb-false dups 2 not_two in
    let most : 2 ≤ dups = ltb-false dups 2 not_few in
    omega arith

-- what holds of each row that an acknowledgement may have
rows_split : (P : Planned → Type 0) (a p b c d t e : Bool) (f : SenderFields) (ack now : ℕ) →
    a ≡ ltb f.una ack → p ≡ is_partial f ack → b ≡ (ltb ack f.una || eqb f.una f.nxt) → c ≡ f.recovery → d ≡ eqb f.dups 2 → t ≡ enters f → e ≡ ltb f.dups 2 →
    (f.una < ack → is_partial f ack ≡ false → P (new_acknowledgement f ack now)) → (f.una < ack → is_partial f ack ≡ true → P (partial_acknowledgement f ack now)) →
    P (nothing_sent f) → (f.recovery ≡ true → P (further_duplicate f now)) →
    ((f.una ≡ f.nxt → ⊥) → f.recovery ≡ false → enters f ≡ true → P (fast_retransmit f now)) → (f.recovery ≡ false → enters f ≡ false → P (nothing_sent (record f { dups = 3 }))) →
    (f.recovery ≡ false → f.dups < 2 → P (early_duplicate f now)) → (f.recovery ≡ false → 3 ≤ f.dups → P (repeated_duplicate f)) →
    P (cond a (cond p (partial_acknowledgement f ack now) (new_acknowledgement f ack now))
    (cond b (nothing_sent f) (cond c (further_duplicate f now)
    (cond d (cond t (fast_retransmit f now) (nothing_sent (record f { dups = 3 }))) (cond e (early_duplicate f now) (repeated_duplicate f))))))
rows_split P true true b c d t e f ack now ea ep eb ec ed et ee new part old further fast unentered early repeated = part (ltb-true _ _ (sym ea)) (sym ep)
rows_split P true false b c d t e f ack now ea ep eb ec ed et ee new part old further fast unentered early repeated = new (ltb-true _ _ (sym ea)) (sym ep)
rows_split P false p true c d t e f ack now ea ep eb ec ed et ee new part old further fast unentered early repeated = old
rows_split P false p false true d t e f ack now ea ep eb ec ed et ee new part old further fast unentered early repeated = further (sym ec)
rows_split P false p false false true true e f ack now ea ep eb ec ed et ee new part old further fast unentered early repeated = fast (eqb-false f.una f.nxt (or_parts _ _ (sym eb)).1) (sym ec) (sym et)
rows_split P false p false false true false e f ack now ea ep eb ec ed et ee new part old further fast unentered early repeated = unentered (sym ec) (sym et)
rows_split P false p false false false t true f ack now ea ep eb ec ed et ee new part old further fast unentered early repeated = early (sym ec) (ltb-true _ _ (sym ee))
rows_split P false p false false false t false f ack now ea ep eb ec ed et ee new part old further fast unentered early repeated = repeated (sym ec) (three_at_least f.dups (sym ed) (sym ee))

pub by_rows : (P : Planned → Type 0) (f : SenderFields) (ack now : ℕ) →
    (f.una < ack → is_partial f ack ≡ false → P (new_acknowledgement f ack now)) → (f.una < ack → is_partial f ack ≡ true → P (partial_acknowledgement f ack now)) →
    P (nothing_sent f) → (f.recovery ≡ true → P (further_duplicate f now)) →
    ((f.una ≡ f.nxt → ⊥) → f.recovery ≡ false → enters f ≡ true → P (fast_retransmit f now)) → (f.recovery ≡ false → enters f ≡ false → P (nothing_sent (record f { dups = 3 }))) →
    (f.recovery ≡ false → f.dups < 2 → P (early_duplicate f now)) → (f.recovery ≡ false → 3 ≤ f.dups → P (repeated_duplicate f)) →
    P (acknowledged f ack now)
unfolding acknowledged
by_rows P f ack now =
    rows_split P (ltb f.una ack) (is_partial f ack) (ltb ack f.una || eqb f.una f.nxt) f.recovery (eqb f.dups 2) (enters f) (ltb f.dups 2) f ack now refl refl refl refl refl refl refl

either_row : (P : Planned → Type 0) (b : Bool) (p q : Planned) → P p → P q → P (cond b p q)
either_row P true p q x y = x
either_row P false p q x y = y

-- a sample changes the estimates alone
measured_high : (o : Option Timing) (f : SenderFields) (ack now : ℕ) → (measured_by o f ack now).high ≡ f.high
measured_high o f ack now = by_sample (λ g. g.high ≡ f.high) o f ack now refl (λ r. refl)

measured_mss : (o : Option Timing) (f : SenderFields) (ack now : ℕ) → (measured_by o f ack now).mss ≡ f.mss
measured_mss o f ack now = by_sample (λ g. g.mss ≡ f.mss) o f ack now refl (λ r. refl)

measured_ssthresh : (o : Option Timing) (f : SenderFields) (ack now : ℕ) → (measured_by o f ack now).ssthresh ≡ f.ssthresh
measured_ssthresh o f ack now = by_sample (λ g. g.ssthresh ≡ f.ssthresh) o f ack now refl (λ r. refl)

measured_rto : (o : Option Timing) (f : SenderFields) (ack now : ℕ) → IfSome o (λ t. ack < t.number) → (measured_by o f ack now).rto ≡ f.rto
measured_rto None f ack now l = refl
measured_rto (Some t) f ack now l = rw (lt-leb t.number ack l) refl

-- a partial acknowledgement is one in recovery
partial_recovers : (f : SenderFields) (ack : ℕ) → is_partial f ack ≡ true → f.recovery ≡ true
partial_recovers f ack e =
    let inner : (f.recovery && is_below ack f.recover) ≡ true = (and_parts _ _ e).1 in
    (and_parts _ _ inner).0

-- ssthresh
pub threshold_at_recovery : ThresholdAtRecovery
threshold_at_recovery f ack now =
    by_rows (λ p. f.recovery ≡ false → p.fields.recovery ≡ true → 2 * f.mss ≤ p.fields.ssthresh) f ack now
    (λ _ _ no yes. absurd (false≢true yes)) (λ _ part no yes. absurd (false≢true (sym no ∙ partial_recovers f ack part)))
    (λ no yes. absurd (false≢true (sym no ∙ yes))) (λ was no yes. absurd (false≢true (sym no ∙ was)))
    (λ _ _ _ no yes. loss_leaves_two f) (λ _ _ no yes. absurd (false≢true (sym no ∙ yes)))
    (λ _ _. either_row (λ p. f.recovery ≡ false → p.fields.recovery ≡ true → 2 * f.mss ≤ p.fields.ssthresh) _ _ _ (λ no yes. absurd (false≢true (sym no ∙ yes))) (λ no yes. absurd (false≢true (sym no ∙ yes))))
    (λ _ _ no yes. absurd (false≢true (sym no ∙ yes)))

pub threshold_at_timeout : ThresholdAtTimeout
unfolding timed_out
threshold_at_timeout f now first = first_timeout_leaves_two f first

pub threshold_at_further_timeout : ThresholdAtFurtherTimeout
unfolding timed_out
threshold_at_further_timeout f now again = further_timeout_leaves f again

pub threshold_stays : ThresholdStays
threshold_stays f ack now =
    by_rows (λ p. (f.recovery ≡ true) ⊎ (p.fields.recovery ≡ false) → p.fields.ssthresh ≡ f.ssthresh) f ack now
    (λ _ _ _. measured_ssthresh f.timing f ack now)
    (λ _ _. either_row (λ p. (f.recovery ≡ true) ⊎ (p.fields.recovery ≡ false) → p.fields.ssthresh ≡ f.ssthresh) _ _ _ (λ _. measured_ssthresh f.timing f ack now) (λ _. measured_ssthresh f.timing f ack now))
    (λ _. refl)
    (λ _. either_row (λ p. (f.recovery ≡ true) ⊎ (p.fields.recovery ≡ false) → p.fields.ssthresh ≡ f.ssthresh) _ _ _ (λ _. refl) (λ _. refl))
    (λ _ no _ either. elim either [ inl on ↦ absurd (false≢true (sym no ∙ on)) | inr ended ↦ absurd (false≢true (sym ended)) ]) (λ _ _ _. refl)
    (λ _ _. either_row (λ p. (f.recovery ≡ true) ⊎ (p.fields.recovery ≡ false) → p.fields.ssthresh ≡ f.ssthresh) _ _ _ (λ _. refl) (λ _. refl)) (λ _ _ _. refl)

-- Karn's algorithm
any_from_contains : (high x : ℕ) (xs : List ℕ) (k : ℕ) → k < length xs → get_or xs k x ≡ x → x < high → list_any (λ y. ltb y high) xs ≡ true
any_from_contains high x [] k l e m = absurd (omega arith)
any_from_contains high x (y ∷ ys) zero l e m = or_left _ _ (lt-ltb y high (omega arith))
any_from_contains high x (y ∷ ys) (suc k) l e m = or_right _ _ (any_from_contains high x ys k (omega arith) e m)

find_reaches : (high : ℕ) (xs : List ℕ) → IfSome (find (λ y. leb high y) xs) (λ y. high ≤ y)
find_reaches high [] = tt
find_reaches high (y ∷ ys) =
    elim (cases_lt y high) [
      | inl l ↦ rw (lt-leb high y l) (find_reaches high ys)
      | inr l ↦ rw (le-leb high y l) l
    ]

timed_from : (high mss now : ℕ) (o : Option ℕ) → 1 ≤ mss → IfSome o (λ y. high ≤ y) → IfSome (option_map (λ y. timing_of (y + mss) now) o) (λ t. (high < t.number) × (t.sent_at ≡ now))
timed_from high mss now None p l = tt
timed_from high mss now (Some y) p l = (omega arith, refl)

sending_is_fresh : (f h : SenderFields) (xs : List ℕ) (nxt now : ℕ) → h.high ≡ f.high → h.mss ≡ f.mss → 1 ≤ f.mss → NeverTimesResent f (sending h xs nxt now) now
sending_is_fresh f h xs nxt now e m p = record {
  fresh = λ x c l.
      let any : list_any (λ y. ltb y h.high) xs ≡ true = any_from_contains h.high x xs c.0 c.1 c.2 (omega arith) in
      rw (any, ← e) (timed_from h.high h.mss now (find (λ y. leb h.high y) xs) (omega arith) (find_reaches h.high xs));
}

nothing_is_fresh : (f h : SenderFields) (now : ℕ) → NeverTimesResent f (nothing_sent h) now
nothing_is_fresh f h now = record { fresh = λ x c l. absurd (omega (arith, c.1)) }

pub start_never_times_resent : StartNeverTimesResent
unfolding started
start_never_times_resent f now p = sending_is_fresh f f _ _ now refl refl p

early_is_fresh : (f : SenderFields) (now : ℕ) → 1 ≤ f.mss → NeverTimesResent f (early_duplicate f now) now
early_is_fresh f now p =
    let sent : SenderFields = record f { dups = one_more f.dups; lt = f.lt + f.mss } in
    let counted : SenderFields = record f { dups = one_more f.dups } in
    either_row (λ q. NeverTimesResent f q now) (may_send_new f (f.una + min (f.cwnd + 2 * f.mss) f.rwnd)) (sending sent (f.nxt ∷ []) (f.nxt + f.mss) now) (nothing_sent counted)
    (sending_is_fresh f sent (f.nxt ∷ []) (f.nxt + f.mss) now refl refl p) (nothing_is_fresh f counted now)

retransmit_is_fresh : (f : SenderFields) (now : ℕ) → 1 ≤ f.mss → NeverTimesResent f (fast_retransmit f now) now
retransmit_is_fresh f now p =
    let low : Lowered = lowered_at f ByDuplicates in
    sending_is_fresh f (record f { dups = 3; ssthresh = low.ssthresh; cwnd = low.cwnd; recovery = true; recover = recover_at_loss f; partial = false }) (f.una ∷ []) f.nxt now refl refl p

further_is_fresh : (f : SenderFields) (now : ℕ) → 1 ≤ f.mss → NeverTimesResent f (further_duplicate f now) now
further_is_fresh f now p =
    either_row (λ q. NeverTimesResent f q now) (may_send_new f (f.una + min (window_at f FurtherDuplicate) f.rwnd)) (sending (inflated f) (f.nxt ∷ []) (f.nxt + f.mss) now) (nothing_sent (inflated f))
    (sending_is_fresh f (inflated f) (f.nxt ∷ []) (f.nxt + f.mss) now refl refl p) (nothing_is_fresh f (inflated f) now)

new_is_fresh : (f : SenderFields) (ack now : ℕ) → 1 ≤ f.mss → NeverTimesResent f (new_acknowledgement f ack now) now
new_is_fresh f ack now p =
    let h : SenderFields = advanced f ack now in
    sending_is_fresh f h (spaced h.nxt h.mss (fill_count h)) (h.nxt + fill_count h * h.mss) now (measured_high f.timing f ack now) (measured_mss f.timing f ack now) p

partial_is_fresh : (f : SenderFields) (ack now : ℕ) → 1 ≤ f.mss → NeverTimesResent f (partial_acknowledgement f ack now) now
partial_is_fresh f ack now p =
    let h : SenderFields = partly f ack now in
    let high : h.high ≡ f.high = measured_high f.timing f ack now in
    let mss : h.mss ≡ f.mss = measured_mss f.timing f ack now in
    either_row (λ q. NeverTimesResent f q now) (may_send_new h (h.una + min h.cwnd h.rwnd)) (sending h (h.una ∷ h.nxt ∷ []) (h.nxt + h.mss) now) (sending h (h.una ∷ []) h.nxt now)
    (sending_is_fresh f h (h.una ∷ h.nxt ∷ []) (h.nxt + h.mss) now high mss p) (sending_is_fresh f h (h.una ∷ []) h.nxt now high mss p)

pub acknowledgement_never_times_resent : AcknowledgementNeverTimesResent
acknowledgement_never_times_resent f ack now p =
    by_rows (λ q. NeverTimesResent f q now) f ack now (λ _ _. new_is_fresh f ack now p) (λ _ _. partial_is_fresh f ack now p) (nothing_is_fresh f f now)
    (λ _. further_is_fresh f now p) (λ _ _ _. retransmit_is_fresh f now p) (λ _ _. nothing_is_fresh f (record f { dups = 3 }) now) (λ _ _. early_is_fresh f now p)
    (λ _ _. nothing_is_fresh f (record f { dups = one_more f.dups }) now)

pub timeout_never_times_resent : TimeoutNeverTimesResent
unfolding timed_out
timeout_never_times_resent f now p =
    sending_is_fresh f (record f {
      ssthresh = (lowered_at f ByTimer).ssthresh;
      cwnd = (lowered_at f ByTimer).cwnd;
      rto = backed_off f.rto;
      dups = 0;
      lt = 0;
      recovery = false;
      recover = recover_at_loss f;
      resent = true;
      timing = None;
      deadline = Some (now + backed_off f.rto);
    }) (f.una ∷ []) (f.una + f.mss) now refl refl p

-- the rto
pub timeout_doubles_rto : TimeoutDoublesRto
unfolding timed_out
timeout_doubles_rto f now = refl

pub rto_stays_until_sample : RtoStaysUntilSample
rto_stays_until_sample f ack now none_ends =
    by_rows (λ p. p.fields.rto ≡ f.rto) f ack now
    (λ _ _. measured_rto f.timing f ack now none_ends)
    (λ _ _. either_row (λ p. p.fields.rto ≡ f.rto) _ _ _ (measured_rto f.timing f ack now none_ends) (measured_rto f.timing f ack now none_ends)) refl
    (λ _. either_row (λ p. p.fields.rto ≡ f.rto) _ _ _ refl refl) (λ _ _ _. refl) (λ _ _. refl)
    (λ _ _. either_row (λ p. p.fields.rto ≡ f.rto) _ _ _ refl refl) (λ _ _. refl)

-- recovery with NewReno
measured_recovery : (o : Option Timing) (f : SenderFields) (ack now : ℕ) → (measured_by o f ack now).recovery ≡ f.recovery
measured_recovery o f ack now = by_sample (λ g. g.recovery ≡ f.recovery) o f ack now refl (λ r. refl)

partial_lasts : (f : SenderFields) (recover ack now : ℕ) → IsTrue f.recovery → ack < recover → LastsUntilRecover (partial_acknowledgement f ack now) recover ack
partial_lasts f recover ack now on below =
    let h : SenderFields = partly f ack now in
    let still : IsTrue h.recovery = measured_recovery f.timing f ack now ∙ on in
    either_row (λ p. LastsUntilRecover p recover ack) (may_send_new h (h.una + min h.cwnd h.rwnd)) (sending h (h.una ∷ h.nxt ∷ []) (h.nxt + h.mss) now) (sending h (h.una ∷ []) h.nxt now)
    (record { lasts = (λ _. below, λ _. still); again = λ _. (0, omega arith, refl) })
    (record { lasts = (λ _. below, λ _. still); again = λ _. (0, omega arith, refl) })

new_ends_recovery : (f : SenderFields) (recover ack now : ℕ) → recover ≤ ack → LastsUntilRecover (new_acknowledgement f ack now) recover ack
new_ends_recovery f recover ack now past = record { lasts = (λ on. absurd (false≢true on), λ below. absurd (omega arith)); again = λ below. absurd (omega arith) }

not_below : (f : SenderFields) (recover ack : ℕ) → IsTrue (is_newreno f) → IsTrue f.recovery → f.recover ≡ Some recover → is_partial f ack ≡ ltb ack recover
not_below f recover ack newreno on is = rw (newreno, on, is) refl

pub recovery_lasts : RecoveryLasts
recovery_lasts f recover ack now newreno on is new =
    rw (of_new_data f ack now new, not_below f recover ack newreno on is)
    (elim (cases_lt ack recover) [
      | inl below ↦ rw (lt-ltb ack recover below) (partial_lasts f recover ack now on below)
      | inr past ↦ rw (le-ltb ack recover past) (new_ends_recovery f recover ack now past)
    ])
