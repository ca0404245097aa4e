-- How a sender answers losses and grows, and what it measures.
use Rattle.std.proofs.Common.{◌≡◌, ◌≢◌, ℕ, zero, suc, ◌+◌, ◌-◌, ◌*◌, ◌/◌, ◌<◌, ◌≤◌, min, max, Bool, true, false, cond, not, ◌&&◌, ◌||◌, eqb, ltb, refl, sym, ap, subst, ◌∙◌, Option, Some, None, arith, inl, inr, ◌⊎◌, ⊎_elim}
use Rattle.std.proofs.Math.Nat.{add-mul, one-mul, zero-mul}
use Rattle.std.proofs.lemmas.Nat.{le-div}
use Rattle.std.specs.Option.{option_or}
use Rattle.std.specs.Prelude.{IfSome, IsFalse, Contains}
use Rattle.std.proofs.lemmas.Bool.{cases_lt, and_left, and_parts, ltb-true, or_parts, or_right, eqb-true, eqb-false, ltb-false, lt-ltb, le-ltb, le-leb, ne_eqb, true≢false}
use Rattle.packet_chain.specs.declared.packet.Packet.{Packet}
use Rattle.packet_chain.specs.declared.packet.Kind.TheVariants.{Ack}
use Rattle.reno_sender.specs.declared.fields.SenderFields.{SenderFields}
use Rattle.reno_sender.specs.declared.fields.Timing.{Timing}
use Rattle.reno_sender.specs.Fields.{IsSound, total, is_newreno}
use Rattle.reno_sender.specs.Sending.{Planned, spaced, allowed_end, fill_count, deadline_after, filling}
use Rattle.reno_sender.specs.LossRecovery.{nothing_sent, may_send_new, one_more, is_past, enters, fast_retransmit, third_duplicate, early_duplicate, repeated_duplicate, further_duplicate, inflated, is_partial, is_below, partly, partial_acknowledgement, advanced, new_acknowledgement, window_after}
use Rattle.reno_sender.specs.Table.{started, acknowledged, timed_out}
use Rattle.reno_sender.specs.Timer.{rto_of, sampled, with_sample, measured_by}
use Rattle.reno_sender.proofs.RowLaws.{by_rows as by_row, threshold_stays}
use Rattle.reno_sender.proofs.Samples.{by_sample}
use Rattle.node_core.specs.declared.event.Event.{Event}
use Rattle.node_core.specs.declared.event.Event.TheVariants.{Start, Rto, Arrive}
use Rattle.run_laws.specs.Senders.{AtEachSender, IsNewAck, IsDuplicate, IsPastRecover, AnswersTimeout, AnswersTimeouts, AnswersDuplicates, ThresholdStaysWithoutLoss, GrowsByReno, KeepsRecovery, StartsOrGoesOn, FillsWindows, RestartsTimer, IsMeasured, MeasuresRoundTrips}
use Rattle.run_laws.proofs.Ports.{by_test}
use Rattle.run_laws.proofs.Senders.{by_rows, arrive_not, same_packet}

pub start_not : (a number : ℕ) → Start a ≢ Rto number
start_not a number e = cc

pub start_brings_none : (a : ℕ) (x : Packet) → Start a ≢ Arrive x
start_brings_none a x e = cc

pub rto_brings_none : (a : ℕ) (x : Packet) → Rto a ≢ Arrive x
rto_brings_none a x e = cc

-- timeouts
timeout_answers : (f : SenderFields) (now : ℕ) → AnswersTimeout f (timed_out f now)
unfolding timed_out
timeout_answers f now = record { sends = refl; goes_back = refl; cwnd = refl; first = λ e. rw e refl; further = λ e. rw e refl; resent = refl; recovery = refl }

pub timeouts_are_answered : AtEachSender AnswersTimeouts
timeouts_are_answered =
    by_rows AnswersTimeouts (λ _ n _ _ _ is _ m e. absurd (start_not n m (sym is ∙ e))) (λ now _ _ f _ _ _ _ _. timeout_answers f now)
    (λ _ x _ _ _ is _ _ m e. absurd (arrive_not x m (sym is ∙ e))) (λ _ _ _ _ other m e. absurd (other.not_timeout m e))

-- duplicates
abbrev pub duplicate_row : SenderFields → ℕ → Planned
duplicate_row f now = cond f.recovery (further_duplicate f now) (cond (eqb f.dups 2) (third_duplicate f now) (cond (ltb f.dups 2) (early_duplicate f now) (repeated_duplicate f)))

pub is_duplicate_row : (f : SenderFields) (now : ℕ) → f.una < f.nxt → acknowledged f f.una now ≡ duplicate_row f now
unfolding acknowledged
is_duplicate_row f now flies = rw (le-ltb f.una f.una (omega arith), ne_eqb f.una f.nxt (λ same. omega (arith, same, flies))) refl

one_more_is : (dups : ℕ) → dups < 4294967295 → one_more dups ≡ dups + 1
one_more_is dups few = rw (lt-ltb dups 4294967295 few) refl

duplicate_counts : (f : SenderFields) (now : ℕ) → f.dups < 4294967295 → (duplicate_row f now).fields.dups ≡ f.dups + 1
duplicate_counts f now few =
    let P : Planned → Type 0 = λ q. q.fields.dups ≡ f.dups + 1 in
    let one = one_more_is f.dups few in
    by_test P f.recovery _ _
    (λ _. by_test P (may_send_new f (f.una + min ((inflated f).cwnd) f.rwnd)) _ _ (λ _. one) (λ _. one))
    (λ _. by_test P (eqb f.dups 2) _ _
    (λ two. let is = eqb-true f.dups 2 two in by_test P (enters f) _ _ (λ _. omega (arith, is)) (λ _. omega (arith, is)))
    (λ _. by_test P (ltb f.dups 2) _ _ (λ _. by_test P (may_send_new f (f.una + min (f.cwnd + 2 * f.mss) f.rwnd)) _ _ (λ _. one) (λ _. one)) (λ _. one)))

past : (o : Option ℕ) (una : ℕ) → IfSome o (λ r. r < una) → is_past o una ≡ true
past None una h = refl
past (Some r) una h = lt-ltb r una h

enters_past : (f : SenderFields) → IsPastRecover f → enters f ≡ true
enters_past f h =
    ⊎_elim (λ (reno : IsFalse (is_newreno f)). rw reno refl) (λ (behind : IfSome f.recover (λ r. r < f.una)). or_right _ (is_past f.recover f.una) (past f.recover f.una behind)) h

past_back : (o : Option ℕ) (una : ℕ) → is_past o una ≡ true → IfSome o (λ r. r < una)
past_back None una e = tt
past_back (Some r) una e = ltb-true r una e

entered_past : (f : SenderFields) → enters f ≡ true → IsPastRecover f
entered_past f e = by (is_newreno f) refl e
  where
    by : (b : Bool) → is_newreno f ≡ b → (not b || is_past f.recover f.una) ≡ true → IsPastRecover f
    by true is e = inr (past_back f.recover f.una e)
    by false is e = inl is

third_begins : (f : SenderFields) (now : ℕ) → f.recovery ≡ false → f.dups ≡ 2 → IsPastRecover f → (duplicate_row f now).fields.recovery ≡ true
third_begins f now off two behind = rw (off, two, enters_past f behind) refl

-- where an acknowledgement begins recovery, it is the third duplicate
abbrev pub Begun : SenderFields → ℕ → ℕ → Planned → Type 0
Begun f ack now q = q.fields.recovery ≡ true → (ack ≡ f.una) × (f.dups ≡ 2) × (f.una ≢ f.nxt) × (q ≡ fast_retransmit f now) × (enters f ≡ true)

pub measured_recovery : (f : SenderFields) (ack now : ℕ) → (measured_by f.timing f ack now).recovery ≡ f.recovery
measured_recovery f ack now = by_sample (λ g. g.recovery ≡ f.recovery) f.timing f ack now refl (λ r. refl)

-- a partial acknowledgement comes in recovery
pub partial_in_recovery : (f : SenderFields) (ack : ℕ) → is_partial f ack ≡ true → f.recovery ≡ true
partial_in_recovery f ack part = (and_parts f.recovery (is_below ack f.recover) (and_parts (is_newreno f) (f.recovery && is_below ack f.recover) part).1).0

pub partial_recovery : (f : SenderFields) (ack now : ℕ) → (partial_acknowledgement f ack now).fields.recovery ≡ f.recovery
partial_recovery f ack now =
    let h = partly f ack now in
    let same = measured_recovery f ack now in
    by_test (λ (q : Planned). q.fields.recovery ≡ f.recovery) (may_send_new h (h.una + min h.cwnd h.rwnd)) _ _ (λ _. same) (λ _. same)

early_recovery : (f : SenderFields) (now : ℕ) → (early_duplicate f now).fields.recovery ≡ f.recovery
early_recovery f now = by_test (λ (q : Planned). q.fields.recovery ≡ f.recovery) (may_send_new f (f.una + min (f.cwnd + 2 * f.mss) f.rwnd)) _ _ (λ _. refl) (λ _. refl)

-- the rows of an acknowledgement outside recovery
rows_outside : (P : Planned → Type 0) (f : SenderFields) (ack now : ℕ) → f.recovery ≡ false → P (partial_acknowledgement f ack now) → P (new_acknowledgement f ack now) → P (nothing_sent f)
    → (ack ≡ f.una → f.dups ≡ 2 → f.una ≢ f.nxt → enters f ≡ true → P (fast_retransmit f now)) → P (nothing_sent (record f { dups = 3 })) → P (early_duplicate f now) → P (repeated_duplicate f) → P (acknowledged f ack now)
unfolding acknowledged
rows_outside P f ack now off part new old fast unentered early repeated =
    by_test P (ltb f.una ack) _ _ (λ _. by_test P (is_partial f ack) _ _ (λ _. part) (λ _. new))
    (λ not_new. by_test P (ltb ack f.una || eqb f.una f.nxt) _ _ (λ _. old)
    (λ flies. by_test P f.recovery _ _ (λ was. absurd (true≢false (sym was ∙ off)))
    (λ _. by_test P (eqb f.dups 2) _ _
    (λ two. by_test P (enters f) _ _
    (λ entered.
    let parts = or_parts (ltb ack f.una) (eqb f.una f.nxt) flies in
    let a = ltb-false f.una ack not_new in
    let b = ltb-false ack f.una parts.0 in
    fast (omega (arith, a, b)) (eqb-true f.dups 2 two) (eqb-false f.una f.nxt parts.1) entered)
    (λ _. unentered))
    (λ _. by_test P (ltb f.dups 2) _ _ (λ _. early) (λ _. repeated)))))

pub begins_at_third : (f : SenderFields) (ack now : ℕ) → f.recovery ≡ false → Begun f ack now (acknowledged f ack now)
begins_at_third f ack now off =
    rows_outside (Begun f ack now) f ack now off (λ on. absurd (true≢false (sym on ∙ partial_recovery f ack now ∙ off))) (λ on. absurd (true≢false (sym on))) (λ on. absurd (true≢false (sym on ∙ off)))
    (λ at two apart entered _. (at, two, apart, refl, entered)) (λ on. absurd (true≢false (sym on ∙ off))) (λ on. absurd (true≢false (sym on ∙ early_recovery f now ∙ off))) (λ on. absurd (true≢false (sym on ∙ off)))

pub its_number : (x : Packet) (v : Event) (f : SenderFields) (ack : ℕ) → v ≡ Arrive x → IsNewAck v f ack → x.number ≡ ack
its_number x v f ack is new = ap (λ (y : Packet). y.number) (same_packet x new.0 (sym is ∙ new.1)) ∙ new.3

-- where a new acknowledgement leaves no recovery, duplicates are counted anew
ended_anew : (f : SenderFields) (ack now : ℕ) → f.una < ack → (acknowledged f ack now).fields.recovery ≡ false → (acknowledged f ack now).fields.dups ≡ 0
unfolding acknowledged
ended_anew f ack now new =
    let P : Planned → Type 0 = λ q. q.fields.recovery ≡ false → q.fields.dups ≡ 0 in
    by_test P (ltb f.una ack) _ _
    (λ _. by_test P (is_partial f ack) _ _ (λ part ended. absurd (true≢false (sym (partial_in_recovery f ack part) ∙ sym (partial_recovery f ack now) ∙ ended))) (λ _ _. refl))
    (λ not_new. absurd (let a = ltb-false f.una ack not_new in omega (arith, a, new)))

ack_answers : (now : ℕ) (x : Packet) (v : Event) (f : SenderFields) → IsSound f → v ≡ Arrive x → x.kind ≡ Ack → AnswersDuplicates now v f (acknowledged f x.number now)
ack_answers now x v f sound is kind_is = record {
  anew = λ ack new ended. ended_anew f x.number now (subst (λ n. f.una < n) (sym (its_number x v f ack is new)) new.4) ended;
  counts = λ d few. subst (λ (q : Planned). q.fields.dups ≡ f.dups + 1) (sym (row d)) (duplicate_counts f now few);
  begins = λ d off two behind. subst (λ (q : Planned). q.fields.recovery ≡ true) (sym (row d)) (third_begins f now off two behind);
  so_alone = λ off on. (
      let b = begins_at_third f x.number now off on in
      let flies : f.una < f.nxt = (let apart = b.2 in let most = sound.una_nxt in omega (arith, apart, most)) in
      record {
        third = ((x, is, kind_is, b.0, flies), b.1);
        past = entered_past f b.4;
        ssthresh = ap (λ (q : Planned). q.fields.ssthresh) b.3;
        cwnd = ap (λ (q : Planned). q.fields.cwnd) b.3;
        sends = ap (λ (q : Planned). q.sent) b.3;
      });
}
  where
    row : (d : IsDuplicate v f) → acknowledged f x.number now ≡ duplicate_row f now
    row d = ap (λ n. acknowledged f n now) (ap (λ (y : Packet). y.number) (same_packet x d.0 (sym is ∙ d.1)) ∙ d.3) ∙ is_duplicate_row f now d.4

silent_answers : (now : ℕ) (v : Event) (f : SenderFields) (q : Planned) → ((x : Packet) → v ≡ Arrive x → x.kind ≢ Ack) → (f.recovery ≡ false → q.fields.recovery ≡ true → ⊥) → AnswersDuplicates now v f q
silent_answers now v f q none never = record { anew = λ _ new. absurd (none new.0 new.1 new.2); counts = λ d. absurd (none d.0 d.1 d.2); begins = λ d. absurd (none d.0 d.1 d.2); so_alone = λ off on. absurd (never off on) }

pub started_recovery : (f : SenderFields) (now : ℕ) → (started f now).fields.recovery ≡ f.recovery
unfolding started
started_recovery f now = refl

pub timed_out_recovery : (f : SenderFields) (now : ℕ) → (timed_out f now).fields.recovery ≡ false
unfolding timed_out
timed_out_recovery f now = refl

pub duplicates_are_answered : AtEachSender AnswersDuplicates
duplicates_are_answered =
    by_rows AnswersDuplicates
    (λ now n v f _ is _. silent_answers now v f _ (λ x e _. start_brings_none n x (sym is ∙ e)) (λ off on. true≢false (sym on ∙ started_recovery f now ∙ off)))
    (λ now n v f _ is _. silent_answers now v f _ (λ x e _. rto_brings_none n x (sym is ∙ e)) (λ off on. true≢false (sym on ∙ timed_out_recovery f now)))
    (λ now x v f sound is kind_is _. ack_answers now x v f sound is kind_is)
    (λ now v f _ other. silent_answers now v f _ other.not_ack (λ off on. true≢false (sym on ∙ off)))

-- ssthresh
started_threshold : (f : SenderFields) (now : ℕ) → (started f now).fields.ssthresh ≡ f.ssthresh
unfolding started
started_threshold f now = refl

pub threshold_stays_without_loss : AtEachSender ThresholdStaysWithoutLoss
threshold_stays_without_loss =
    by_rows ThresholdStaysWithoutLoss (λ now _ _ f _ _ _ _ _. started_threshold f now) (λ _ n _ _ _ is _ not _. absurd (not n is))
    (λ now x _ f _ _ _ _ _ either. threshold_stays f x.number now either) (λ _ _ _ _ _ _ _. refl)

-- growth
outside_recovery : (newreno recovery below : Bool) → recovery ≡ false → (newreno && (recovery && below)) ≡ false
outside_recovery true recovery below off = and_left recovery below off
outside_recovery false recovery below off = refl

pub is_new_row : (f : SenderFields) (ack now : ℕ) → f.una < ack → f.recovery ≡ false → acknowledged f ack now ≡ new_acknowledgement f ack now
unfolding acknowledged
is_new_row f ack now new off = rw (lt-ltb f.una ack new, outside_recovery (is_newreno f) f.recovery (is_below ack f.recover) off) refl

pub slow_start : (f : SenderFields) (bytes : ℕ) → f.recovery ≡ false → f.cwnd < f.ssthresh → window_after f bytes ≡ min (f.cwnd + min bytes f.mss) 1099511627776
slow_start f bytes off below = rw (off, lt-ltb f.cwnd f.ssthresh below) refl

pub avoidance : (f : SenderFields) (bytes : ℕ) → f.recovery ≡ false → f.ssthresh ≤ f.cwnd → window_after f bytes ≡ min (f.cwnd + max (f.mss * f.mss / f.cwnd) 1) 1099511627776
avoidance f bytes off above = rw (off, le-ltb f.cwnd f.ssthresh above) refl

stays_but_for_new : (f : SenderFields) (ack now : ℕ) → f.recovery ≡ false → (f.una < ack → ⊥) → (acknowledged f ack now).fields.recovery ≡ false → (acknowledged f ack now).fields.cwnd ≡ f.cwnd
stays_but_for_new f ack now off not_new =
    let P : Planned → Type 0 = λ q. q.fields.recovery ≡ false → q.fields.cwnd ≡ f.cwnd in
    by_row P f ack now (λ new _. absurd (not_new new)) (λ new _. absurd (not_new new)) (λ _. refl) (λ on. absurd (true≢false (sym on ∙ off)))
    (λ _ _ _ ended. absurd (true≢false ended)) (λ _ _ _. refl)
    (λ _ _. by_test P (may_send_new f (f.una + min (f.cwnd + 2 * f.mss) f.rwnd)) _ _ (λ _ _. refl) (λ _ _. refl)) (λ _ _ _. refl)

ack_grows : (now : ℕ) (x : Packet) (v : Event) (f : SenderFields) → v ≡ Arrive x → x.kind ≡ Ack → GrowsByReno now v f (acknowledged f x.number now)
ack_grows now x v f is kind_is = record {
  slow_start = λ ack new off below. ap (λ (q : Planned). q.fields.cwnd) (row ack new off) ∙ slow_start f (ack - f.una) off below;
  avoidance = λ ack new off above. ap (λ (q : Planned). q.fields.cwnd) (row ack new off) ∙ avoidance f (ack - f.una) off above;
  stays = λ off ended _ none. stays_but_for_new f x.number now off (λ new. none x.number (x, is, kind_is, refl, new)) ended;
}
  where
    row : (ack : ℕ) → IsNewAck v f ack → f.recovery ≡ false → acknowledged f x.number now ≡ new_acknowledgement f ack now
    row ack new off = ap (λ n. acknowledged f n now) (its_number x v f ack is new) ∙ is_new_row f ack now new.4 off

no_new : (now : ℕ) (v : Event) (f : SenderFields) (q : Planned) → ((ack : ℕ) → IsNewAck v f ack → ⊥) → (((number : ℕ) → v ≢ Rto number) → q.fields.cwnd ≡ f.cwnd) → GrowsByReno now v f q
no_new now v f q none same = record { slow_start = λ ack new. absurd (none ack new); avoidance = λ ack new. absurd (none ack new); stays = λ _ _ not _. same not }

started_window : (f : SenderFields) (now : ℕ) → (started f now).fields.cwnd ≡ f.cwnd
unfolding started
started_window f now = refl

pub windows_grow_by_reno : AtEachSender GrowsByReno
windows_grow_by_reno =
    by_rows GrowsByReno
    (λ now n v f _ is _. no_new now v f _ (λ _ new. start_brings_none n new.0 (sym is ∙ new.1)) (λ _. started_window f now))
    (λ now n v f _ is _. no_new now v f _ (λ _ new. rto_brings_none n new.0 (sym is ∙ new.1)) (λ not. absurd (not n is)))
    (λ now x v f _ is kind_is _. ack_grows now x v f is kind_is)
    (λ now v f _ other. no_new now v f _ (λ _ new. other.not_ack new.0 new.1 new.2) (λ _. refl))

-- round trips
abbrev Measured : SenderFields → ℕ → Planned → Type 0
Measured f r q = IsMeasured f q.fields r

sample_measures : (f g : SenderFields) (r : ℕ) → g.srtt ≡ (with_sample f r).srtt → g.rttvar ≡ (with_sample f r).rttvar → g.rto ≡ (with_sample f r).rto → IsMeasured f g r
sample_measures f g r srtt rttvar rto = record {
  first_srtt = λ none. srtt ∙ rw none refl;
  first_rttvar = λ none. rttvar ∙ rw none refl;
  later_srtt = λ before some. srtt ∙ rw some refl;
  later_rttvar = λ before some. rttvar ∙ rw some refl;
  rto = subst (λ o. IfSome o (λ s. g.rto ≡ rto_of s g.rttvar)) (sym srtt) (rto ∙ formula ∙ ap (rto_of (sampled f.srtt f.rttvar r).srtt) (sym rttvar));
}
  where
    formula : (with_sample f r).rto ≡ rto_of (sampled f.srtt f.rttvar r).srtt (sampled f.srtt f.rttvar r).rttvar
    formula = by f.srtt
      where
        by : (o : Option ℕ) → (sampled o f.rttvar r).rto ≡ rto_of (sampled o f.rttvar r).srtt (sampled o f.rttvar r).rttvar
        by None = refl
        by (Some s) = refl

pub is_sampled : (f : SenderFields) (ack now : ℕ) (t : Timing) → f.timing ≡ Some t → t.number ≤ ack → measured_by f.timing f ack now ≡ with_sample f (now - t.sent_at)
is_sampled f ack now t timed upto = rw (timed, le-leb t.number ack upto) refl

new_measures : (f : SenderFields) (ack now : ℕ) (t : Timing) → f.una < ack → f.timing ≡ Some t → t.number ≤ ack → Measured f (now - t.sent_at) (acknowledged f ack now)
unfolding acknowledged
new_measures f ack now t new timed upto =
    let P : Planned → Type 0 = Measured f (now - t.sent_at) in
    let g = measured_by f.timing f ack now in
    let is = is_sampled f ack now t timed upto in
    let h = partly f ack now in
    let by_sample_of : (q : SenderFields) → q.srtt ≡ g.srtt → q.rttvar ≡ g.rttvar → q.rto ≡ g.rto → IsMeasured f q (now - t.sent_at) =
    λ q a b c. sample_measures f q (now - t.sent_at) (a ∙ ap (λ (y : SenderFields). y.srtt) is) (b ∙ ap (λ (y : SenderFields). y.rttvar) is) (c ∙ ap (λ (y : SenderFields). y.rto) is) in
    by_test P (ltb f.una ack) _ _
    (λ _. by_test P (is_partial f ack) _ _
    (λ _. by_test P (may_send_new h (h.una + min h.cwnd h.rwnd)) _ _ (λ _. by_sample_of _ refl refl refl) (λ _. by_sample_of _ refl refl refl))
    (λ _. by_sample_of _ refl refl refl))
    (λ not_new. absurd (let a = ltb-false f.una ack not_new in omega (arith, a, new)))

pub round_trips_are_measured : AtEachSender MeasuresRoundTrips
round_trips_are_measured =
    by_rows MeasuresRoundTrips
    (λ _ n _ _ _ is _ _ _ new _ _. absurd (start_brings_none n new.0 (sym is ∙ new.1)))
    (λ _ n _ _ _ is _ _ _ new _ _. absurd (rto_brings_none n new.0 (sym is ∙ new.1)))
    (λ now x v f _ is _ _ ack t new timed upto. subst (λ n. Measured f (now - t.sent_at) (acknowledged f n now)) (sym (its_number x v f ack is new)) (new_measures f ack now t new.4 timed upto))
    (λ _ _ _ _ other _ _ new _ _. absurd (other.not_ack new.0 new.1 new.2))

-- recovery
not_below : (o : Option ℕ) (ack : ℕ) → IfSome o (λ r. r ≤ ack) → is_below ack o ≡ false
not_below None ack past_it = refl
not_below (Some r) ack past_it = le-ltb ack r past_it

and_none : (a b c : Bool) → c ≡ false → (a && (b && c)) ≡ false
and_none false b c none = refl
and_none true false c none = refl
and_none true true c none = none

pub ends_recovery : (f : SenderFields) (ack now : ℕ) → f.una < ack → IsFalse (is_newreno f) ⊎ IfSome f.recover (λ r. r ≤ ack) → acknowledged f ack now ≡ new_acknowledgement f ack now
unfolding acknowledged
ends_recovery f ack now new ends = rw (lt-ltb f.una ack new, whole) refl
  where
    whole : is_partial f ack ≡ false
    whole =
        ⊎_elim (λ (reno : IsFalse (is_newreno f)). and_left (is_newreno f) (f.recovery && is_below ack f.recover) reno)
        (λ (past_it : IfSome f.recover (λ r. r ≤ ack)). and_none (is_newreno f) f.recovery (is_below ack f.recover) (not_below f.recover ack past_it)) ends

window_at_end : (f : SenderFields) (bytes : ℕ) → f.recovery ≡ true → window_after f bytes ≡ f.ssthresh
window_at_end f bytes on = rw on refl

abbrev InPart : SenderFields → ℕ → Planned → Type 0
InPart f ack q = (q.fields.cwnd ≡ max (f.cwnd + f.mss - (ack - f.una)) f.mss) × (q.fields.recovery ≡ true) × Contains q.sent ack

partial_row : (f : SenderFields) (ack now : ℕ) → f.recovery ≡ true → InPart f ack (partial_acknowledgement f ack now)
partial_row f ack now on =
    let h = partly f ack now in
    let still = measured_recovery f ack now ∙ on in
    by_test (InPart f ack) (may_send_new h (h.una + min h.cwnd h.rwnd)) _ _ (λ _. (refl, still, (0, omega arith, refl))) (λ _. (refl, still, (0, omega arith, refl)))

pub goes_on_in_part : (f : SenderFields) (ack now r : ℕ) → f.una < ack → f.recovery ≡ true → is_newreno f ≡ true → f.recover ≡ Some r → ack < r → acknowledged f ack now ≡ partial_acknowledgement f ack now
unfolding acknowledged
goes_on_in_part f ack now r new on newreno recover below = rw (lt-ltb f.una ack new, part) refl
  where
    under : is_below ack f.recover ≡ true
    under = ap (is_below ack) recover ∙ lt-ltb ack r below

    part : is_partial f ack ≡ true
    part = λ i. newreno i && (on i && under i)

further_inflates : (f : SenderFields) (now : ℕ) → f.recovery ≡ true → let q = duplicate_row f now in (q.fields.cwnd ≡ min (f.cwnd + f.mss) 1099511627776) × (q.fields.recovery ≡ true)
further_inflates f now on =
    let P : Planned → Type 0 = λ q. (q.fields.cwnd ≡ min (f.cwnd + f.mss) 1099511627776) × (q.fields.recovery ≡ true) in
    by_test P f.recovery _ _
    (λ _. by_test P (may_send_new f (f.una + min (inflated f).cwnd f.rwnd)) _ _ (λ _. (refl, on)) (λ _. (refl, on)))
    (λ off. absurd (true≢false (sym on ∙ off)))

no_recovery_row : (now : ℕ) (v : Event) (f : SenderFields) (q : Planned) → ((x : Packet) → v ≡ Arrive x → x.kind ≢ Ack) → KeepsRecovery now v f q
no_recovery_row now v f q none = record { inflates = λ d. absurd (none d.0 d.1 d.2); ends = λ _ new. absurd (none new.0 new.1 new.2); partly = λ _ _ new. absurd (none new.0 new.1 new.2) }

ack_keeps_recovery : (now : ℕ) (x : Packet) (v : Event) (f : SenderFields) → v ≡ Arrive x → KeepsRecovery now v f (acknowledged f x.number now)
ack_keeps_recovery now x v f is = record {
  inflates = λ d on.
      let row : acknowledged f x.number now ≡ duplicate_row f now = ap (λ n. acknowledged f n now) (ap (λ (y : Packet). y.number) (same_packet x d.0 (sym is ∙ d.1)) ∙ d.3) ∙ is_duplicate_row f now d.4 in
      subst (λ (q : Planned). (q.fields.cwnd ≡ min (f.cwnd + f.mss) 1099511627776) × (q.fields.recovery ≡ true)) (sym row) (further_inflates f now on);
  ends = λ ack new on ends.
      let row : acknowledged f x.number now ≡ new_acknowledgement f ack now = ap (λ n. acknowledged f n now) (its_number x v f ack is new) ∙ ends_recovery f ack now new.4 ends in
      (ap (λ (q : Planned). q.fields.cwnd) row ∙ window_at_end f (ack - f.una) on, ap (λ (q : Planned). q.fields.recovery) row);
  partly = λ ack r new on newreno recover below.
      let row : acknowledged f x.number now ≡ partial_acknowledgement f ack now = ap (λ n. acknowledged f n now) (its_number x v f ack is new) ∙ goes_on_in_part f ack now r new.4 on newreno recover below in
      subst (InPart f ack) (sym row) (partial_row f ack now on);
}

pub recovery_is_kept : AtEachSender KeepsRecovery
recovery_is_kept =
    by_rows KeepsRecovery
    (λ now n v f _ is _. no_recovery_row now v f _ (λ x e _. start_brings_none n x (sym is ∙ e)))
    (λ now n v f _ is _. no_recovery_row now v f _ (λ x e _. rto_brings_none n x (sym is ∙ e)))
    (λ now x v f _ is _ _. ack_keeps_recovery now x v f is)
    (λ now v f _ other. no_recovery_row now v f _ other.not_ack)

-- all that fits is sent
filled : (h : SenderFields) (now : ℕ) → 1 ≤ h.mss → allowed_end h < (filling h now).fields.nxt + h.mss
filled h now mss =
    ⊎_elim (λ (less : allowed_end h < h.nxt + fill_count h * h.mss + h.mss). less)
    (λ (more : h.nxt + fill_count h * h.mss + h.mss ≤ allowed_end h).
    let one_more_fits : (fill_count h + 1) * h.mss ≤ allowed_end h - h.nxt = (let a = add-mul (fill_count h) 1 h.mss in let b = one-mul h.mss in omega (arith, more, a, b)) in
    let counted = le-div (fill_count h + 1) (allowed_end h - h.nxt) h.mss mss one_more_fits in
    absurd (omega (arith, counted)))
    (cases_lt (allowed_end h) (h.nxt + fill_count h * h.mss + h.mss))

started_fills : (f : SenderFields) (now : ℕ) → IsSound f → let g = (started f now).fields in min (total g) (g.una + min g.cwnd g.rwnd) < g.nxt + g.mss
unfolding started
started_fills f now sound = filled f now sound.mss_least

pub measured_mss : (f : SenderFields) (ack now : ℕ) → (measured_by f.timing f ack now).mss ≡ f.mss
measured_mss f ack now = by_sample (λ g. g.mss ≡ f.mss) f.timing f ack now refl (λ r. refl)

started_or_new : (v : Event) (f : SenderFields) → ((number : ℕ) → v ≢ Start number) → ((x : Packet) → v ≡ Arrive x → x.kind ≢ Ack) → StartsOrGoesOn v f → ⊥
started_or_new v f not_start not_ack when =
    ⊎_elim (λ (s : (number : ℕ) × (v ≡ Start number)). not_start s.0 s.1) (λ (a : (ack : ℕ) × IsNewAck v f ack × (f.recovery ≡ false)). not_ack a.1.0 a.1.1 a.1.2) when

rto_not_start : (a number : ℕ) → Rto a ≢ Start number
rto_not_start a number e = cc

ack_fills : (now : ℕ) (x : Packet) (v : Event) (f : SenderFields) → IsSound f → v ≡ Arrive x → FillsWindows now v f (acknowledged f x.number now)
ack_fills now x v f sound is when =
    ⊎_elim
    (λ (s : (number : ℕ) × (v ≡ Start number)). absurd (start_brings_none s.0 x (sym s.1 ∙ is)))
    (λ (a : (ack : ℕ) × IsNewAck v f ack × (f.recovery ≡ false)).
    let row : acknowledged f x.number now ≡ new_acknowledgement f a.0 now = ap (λ n. acknowledged f n now) (its_number x v f a.0 is a.1) ∙ is_new_row f a.0 now a.1.4 a.2 in
    let mss = measured_mss f a.0 now in
    let least = sound.mss_least in
    subst (λ (q : Planned). let g = q.fields in min (total g) (g.una + min g.cwnd g.rwnd) < g.nxt + g.mss) (sym row) (filled (advanced f a.0 now) now (omega (arith, mss, least)))) when

pub windows_are_filled : AtEachSender FillsWindows
windows_are_filled =
    by_rows FillsWindows (λ now _ _ f sound _ _ _. started_fills f now sound)
    (λ _ n v f _ is _ when. absurd (started_or_new v f (λ m e. rto_not_start n m (sym is ∙ e)) (λ x e _. rto_brings_none n x (sym is ∙ e)) when))
    (λ now x v f sound is _ _. ack_fills now x v f sound is) (λ _ v f _ other when. absurd (started_or_new v f other.not_start other.not_ack when))

-- the timer is set anew
deadline_then : (h : SenderFields) (now : ℕ) (n : ℕ) → (h.deadline ≡ Some (now + h.rto)) ⊎ ((h.deadline ≡ None) × (h.una ≡ h.nxt)) → h.una < h.nxt + n * h.mss → deadline_after h (spaced h.nxt h.mss n) now ≡ Some (now + h.rto)
deadline_then h now zero either flies =
    ⊎_elim (λ (is : h.deadline ≡ Some (now + h.rto)). is) (λ (all : (h.deadline ≡ None) × (h.una ≡ h.nxt)). absurd (let a = all.1 in let b = zero-mul h.mss in omega (arith, a, b, flies))) either
deadline_then h now (suc n) either flies =
    ⊎_elim (λ (is : h.deadline ≡ Some (now + h.rto)). ap (λ d. option_or d (Some (now + h.rto))) is) (λ (all : (h.deadline ≡ None) × (h.una ≡ h.nxt)). ap (λ d. option_or d (Some (now + h.rto))) all.0) either

restarted_either : (una nxt rto now : ℕ) (b : Bool) → eqb una nxt ≡ b → (cond b None (Some (now + rto)) ≡ Some (now + rto)) ⊎ ((cond b None (Some (now + rto)) ≡ None) × (una ≡ nxt))
restarted_either una nxt rto now true same = inr (refl, eqb-true una nxt same)
restarted_either una nxt rto now false same = inl refl

new_restarts : (f : SenderFields) (ack now : ℕ) → let q = new_acknowledgement f ack now in q.fields.una < q.fields.nxt → q.fields.deadline ≡ Some (now + q.fields.rto)
new_restarts f ack now flies =
    let h = advanced f ack now in
    deadline_then h now (fill_count h) (restarted_either ack (max f.nxt ack) h.rto now (eqb ack (max f.nxt ack)) refl) flies

no_ack_restarts : (now : ℕ) (v : Event) (f : SenderFields) (q : Planned) → ((x : Packet) → v ≡ Arrive x → x.kind ≢ Ack) → RestartsTimer now v f q
no_ack_restarts now v f q none ack new = absurd (none new.0 new.1 new.2)

pub timers_are_restarted : AtEachSender RestartsTimer
timers_are_restarted =
    by_rows RestartsTimer
    (λ now n v f _ is _. no_ack_restarts now v f (started f now) (λ x e _. start_brings_none n x (sym is ∙ e)))
    (λ now n v f _ is _. no_ack_restarts now v f (timed_out f now) (λ x e _. rto_brings_none n x (sym is ∙ e)))
    (λ now x v f _ is _ _ ack new off.
    let row : acknowledged f x.number now ≡ new_acknowledgement f ack now = ap (λ n. acknowledged f n now) (its_number x v f ack is new) ∙ is_new_row f ack now new.4 off in
    subst (λ (q : Planned). q.fields.una < q.fields.nxt → q.fields.deadline ≡ Some (now + q.fields.rto)) (sym row) (new_restarts f ack now))
    (λ now v f _ other. no_ack_restarts now v f (nothing_sent f) other.not_ack)
