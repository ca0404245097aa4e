-- Which segments an event lets go, and what an acknowledgement and a loss leave behind.
use Rattle.std.proofs.Common.{◌≡◌, ◌≢◌, ℕ, zero, suc, ◌+◌, ◌*◌, ◌<◌, ◌≤◌, min, max, Bool, true, false, cond, ◌&&◌, ◌||◌, eqb, ltb, leb, List, [], ◌∷◌, length, refl, sym, ap, subst, ◌∙◌, Option, Some, None, IsSome, arith, ◌⊎◌, ⊎_elim}
use Rattle.std.proofs.Math.Nat.{one-mul, zero-mul}
use Rattle.std.specs.Option.{option_or}
use Rattle.std.specs.Prelude.{IfSome, find, option_map}
use Rattle.std.specs.List.{list_any}
use Rattle.std.proofs.lemmas.Bool.{cases_lt, or_left, or_right, and_parts, eqb-true, eq-eqb, ltb-true, ltb-false, lt-ltb, le-ltb, lt-leb, le-leb, leb-true, true≢false}
use Rattle.packet_chain.specs.declared.packet.Packet.{Packet}
use Rattle.packet_chain.specs.declared.packet.Kind.TheVariants.{Ack}
use Rattle.reno_sender.specs.declared.fields.SenderFields.{SenderFields}
use Rattle.reno_sender.specs.declared.fields.Timing.{Timing}
use Rattle.reno_sender.specs.Fields.{IsSound, total, is_newreno}
use Rattle.reno_sender.specs.Sending.{Planned, spaced, fill_count, timing_of, timing_after, sending, filling}
use Rattle.reno_sender.specs.LossRecovery.{nothing_sent, one_more, may_send_new, enters, fast_retransmit, inflated, is_partial, partly, partial_acknowledgement, advanced, new_acknowledgement}
use Rattle.reno_sender.specs.Table.{started, acknowledged, timed_out}
use Rattle.reno_sender.specs.Timer.{measured_by}
use Rattle.reno_sender.proofs.RowLaws.{by_rows as by_row}
use Rattle.reno_sender.proofs.Runs.{length-spaced}
use Rattle.reno_sender.proofs.Samples.{by_sample}
use Rattle.node_core.specs.declared.event.Event.{Event}
use Rattle.node_core.specs.declared.event.Event.TheVariants.{Start, Rto, Arrive}
use Rattle.run_laws.specs.Senders.{AtEachSender, IsNewAck, IsDuplicate}
use Rattle.run_laws.specs.Marks.{MaySendNew, LetsOneGo, SendsAtDuplicates, from_on, GoesInTurn, ResendsOne, TakesAcknowledgements, MarksLosses, IsUntimed, TimesSegments}
use Rattle.run_laws.proofs.Losses.{start_brings_none, rto_brings_none, duplicate_row, is_duplicate_row, its_number, goes_on_in_part, measured_mss, is_sampled, partial_in_recovery, partial_recovery, begins_at_third, started_recovery, timed_out_recovery}
use Rattle.run_laws.proofs.Ports.{by_test}
use Rattle.run_laws.proofs.Senders.{by_rows, same_packet}

rto_starts_none : (a number : ℕ) → Rto a ≢ Start number
rto_starts_none a number e = cc

-- a timer that is on stays
keeps_set : (d : Option ℕ) (t : ℕ) → IsSome d → option_or d (Some t) ≡ d
keeps_set None t set = absurd (true≢false (sym set))
keeps_set (Some s) t set = refl

-- whether a new segment may go
may_is : (f : SenderFields) (end : ℕ) → may_send_new f end ≡ true → MaySendNew f end
may_is f end is =
    let first = and_parts (eqb f.nxt f.high) (ltb f.nxt (total f) && leb (f.nxt + f.mss) end) is in
    let second = and_parts (ltb f.nxt (total f)) (leb (f.nxt + f.mss) end) first.1 in
    record { once = eqb-true f.nxt f.high first.0; more = ltb-true f.nxt (total f) second.0; fits = leb-true (f.nxt + f.mss) end second.1 }

is_may : (f : SenderFields) (end : ℕ) → MaySendNew f end → may_send_new f end ≡ true
is_may f end may = λ i. eq-eqb f.nxt f.high may.once i && (lt-ltb f.nxt (total f) may.more i && le-leb (f.nxt + f.mss) end may.fits i)

one_goes : (f : SenderFields) (end : ℕ) → may_send_new f end ≡ true → LetsOneGo f end (f.nxt ∷ [])
one_goes f end may = record { goes = λ _. refl; none = λ not. absurd (not (may_is f end may)) }

none_goes : (f : SenderFields) (end : ℕ) → may_send_new f end ≡ false → LetsOneGo f end []
none_goes f end not = record { goes = λ may. absurd (true≢false (sym (is_may f end may) ∙ not)); none = λ _. refl }

module _ (f : SenderFields) (now : ℕ) where
  early_row : f.recovery ≡ false → f.dups < 2 → let q = duplicate_row f now in LetsOneGo f (f.una + min (f.cwnd + 2 * f.mss) f.rwnd) q.sent × (q.fields.lt ≡ f.lt + length q.sent * f.mss)
  early_row off few =
      let end = f.una + min (f.cwnd + 2 * f.mss) f.rwnd in
      let P : Planned → Type 0 = λ q. LetsOneGo f end q.sent × (q.fields.lt ≡ f.lt + length q.sent * f.mss) in
      by_test P f.recovery _ _ (λ on. absurd (true≢false (sym on ∙ off)))
      (λ _. by_test P (eqb f.dups 2) _ _ (λ two. absurd (let is = eqb-true f.dups 2 two in omega (arith, is, few)))
      (λ _. by_test P (ltb f.dups 2) _ _
      (λ _. by_test P (may_send_new f end) _ _ (λ may. (one_goes f end may, let one = one-mul f.mss in omega (arith, one))) (λ not. (none_goes f end not, let none = zero-mul f.mss in omega (arith, none))))
      (λ many. absurd (let most = ltb-false f.dups 2 many in omega (arith, most, few)))))

  further_row : f.recovery ≡ true → let q = duplicate_row f now in LetsOneGo f (f.una + min q.fields.cwnd f.rwnd) q.sent
  further_row on =
      let end = f.una + min (inflated f).cwnd f.rwnd in
      let P : Planned → Type 0 = λ q. LetsOneGo f (f.una + min q.fields.cwnd f.rwnd) q.sent in
      by_test P f.recovery _ _ (λ _. by_test P (may_send_new f end) _ _ (one_goes f end) (none_goes f end)) (λ off. absurd (true≢false (sym on ∙ off)))

  other_row : f.recovery ≡ false → 2 ≤ f.dups → let q = duplicate_row f now in q.fields.recovery ≡ false → q.sent ≡ []
  other_row off many =
      let P : Planned → Type 0 = λ q. q.fields.recovery ≡ false → q.sent ≡ [] in
      by_test P f.recovery _ _ (λ on. absurd (true≢false (sym on ∙ off)))
      (λ _. by_test P (eqb f.dups 2) _ _ (λ _. by_test P (enters f) _ _ (λ _ ended. absurd (true≢false ended)) (λ _ _. refl))
      (λ _. by_test P (ltb f.dups 2) _ _ (λ few. absurd (let less = ltb-true f.dups 2 few in omega (arith, less, many))) (λ _ _. refl)))

  deadline_row : IsSome f.deadline → (duplicate_row f now).fields.deadline ≡ f.deadline
  deadline_row set =
      let P : Planned → Type 0 = λ q. q.fields.deadline ≡ f.deadline in
      let stays = keeps_set f.deadline (now + f.rto) set in
      by_test P f.recovery _ _ (λ _. by_test P (may_send_new f (f.una + min (inflated f).cwnd f.rwnd)) _ _ (λ _. stays) (λ _. refl))
      (λ _. by_test P (eqb f.dups 2) _ _ (λ _. by_test P (enters f) _ _ (λ _. stays) (λ _. refl))
      (λ _. by_test P (ltb f.dups 2) _ _ (λ _. by_test P (may_send_new f (f.una + min (f.cwnd + 2 * f.mss) f.rwnd)) _ _ (λ _. stays) (λ _. refl)) (λ _. refl)))

no_duplicate : (now : ℕ) (v : Event) (f : SenderFields) (q : Planned) → ((x : Packet) → v ≡ Arrive x → x.kind ≢ Ack) → SendsAtDuplicates now v f q
no_duplicate now v f q none = record {
  early = λ d. absurd (none d.0.0 d.0.1 d.0.2);
  further = λ d. absurd (none d.0 d.1 d.2);
  others = λ d. absurd (none d.0 d.1 d.2);
  deadline = λ d. absurd (none d.0 d.1 d.2);
}

ack_sends : (now : ℕ) (x : Packet) (v : Event) (f : SenderFields) → IsSound f → v ≡ Arrive x → SendsAtDuplicates now v f (acknowledged f x.number now)
ack_sends now x v f sound is = record {
  early = λ d. subst (λ (q : Planned). LetsOneGo f (f.una + min (f.cwnd + 2 * f.mss) f.rwnd) q.sent × (q.fields.lt ≡ f.lt + length q.sent * f.mss)) (sym (row d.0)) (early_row f now d.1 d.2);
  further = λ d on. subst (λ (q : Planned). LetsOneGo f (f.una + min q.fields.cwnd f.rwnd) q.sent) (sym (row d)) (further_row f now on);
  others = λ d off many. subst (λ (q : Planned). q.fields.recovery ≡ false → q.sent ≡ []) (sym (row d)) (other_row f now off many);
  deadline = λ d. subst (λ (q : Planned). q.fields.deadline ≡ f.deadline) (sym (row d)) (deadline_row f now (sound.deadline_flight.1 d.4));
}
  where
    row : (d : IsDuplicate v f) → acknowledged f x.number now ≡ duplicate_row f now
    row d = ap (λ n. acknowledged f n now) (ap (λ (y : Packet). y.number) (same_packet x d.0 (sym is ∙ d.1)) ∙ d.3) ∙ is_duplicate_row f now d.4

pub duplicates_let_segments_go : AtEachSender SendsAtDuplicates
duplicates_let_segments_go =
    by_rows SendsAtDuplicates (λ now n v f _ is _. no_duplicate now v f _ (λ x e _. start_brings_none n x (sym is ∙ e))) (λ now n v f _ is _. no_duplicate now v f _ (λ x e _. rto_brings_none n x (sym is ∙ e)))
    (λ now x v f sound is _ _. ack_sends now x v f sound is) (λ now v f _ other. no_duplicate now v f _ other.not_ack)

-- new acknowledgements
spaced_is : (first step n : ℕ) → spaced first step n ≡ from_on first step n
spaced_is first step zero = refl
spaced_is first step (suc n) = ap (λ ls. first ∷ ls) (spaced_is (first + step) step n)

filled_in_turn : (h : SenderFields) (now : ℕ) → GoesInTurn h.nxt h.mss (filling h now)
filled_in_turn h now =
    let count = length-spaced h.nxt h.mss (fill_count h) in
    record { sent = spaced_is h.nxt h.mss (fill_count h) ∙ ap (from_on h.nxt h.mss) (sym count); nxt = ap (λ n. h.nxt + n * h.mss) (sym count) }

started_in_turn : (f : SenderFields) (now : ℕ) → GoesInTurn f.nxt f.mss (started f now)
unfolding started
started_in_turn f now = filled_in_turn f now

new_rows : (P : Planned → Type 0) (f : SenderFields) (ack now : ℕ) → f.una < ack → P (new_acknowledgement f ack now) → (is_partial f ack ≡ true → P (partial_acknowledgement f ack now)) → P (acknowledged f ack now)
unfolding acknowledged
new_rows P f ack now new whole part =
    by_test P (ltb f.una ack) _ _ (λ _. by_test P (is_partial f ack) _ _ part (λ _. whole)) (λ not_new. absurd (let a = ltb-false f.una ack not_new in omega (arith, a, new)))

old_row : (f : SenderFields) (ack now : ℕ) → (ack < f.una) ⊎ ((ack ≡ f.una) × (f.una ≡ f.nxt)) → acknowledged f ack now ≡ nothing_sent f
unfolding acknowledged
old_row f ack now which = rw (le-ltb f.una ack upto, either) refl
  where
    upto : ack ≤ f.una
    upto = ⊎_elim (λ (less : ack < f.una). omega (arith, less)) (λ (same : (ack ≡ f.una) × (f.una ≡ f.nxt)). let is = same.0 in omega (arith, is)) which

    either : (ltb ack f.una || eqb f.una f.nxt) ≡ true
    either = ⊎_elim (λ (less : ack < f.una). or_left (ltb ack f.una) (eqb f.una f.nxt) (lt-ltb ack f.una less)) (λ (same : (ack ≡ f.una) × (f.una ≡ f.nxt)). or_right (ltb ack f.una) (eqb f.una f.nxt) (eq-eqb f.una f.nxt same.1)) which

moved : (f : SenderFields) (ack now : ℕ) → f.una < ack → let q = acknowledged f ack now in (q.fields.una ≡ ack) × (q.fields.lt ≡ 0) × (q.fields.resent ≡ false)
moved f ack now new =
    let P : Planned → Type 0 = λ q. (q.fields.una ≡ ack) × (q.fields.lt ≡ 0) × (q.fields.resent ≡ false) in
    let h = partly f ack now in
    new_rows P f ack now new (refl, refl, refl) (λ _. by_test P (may_send_new h (h.una + min h.cwnd h.rwnd)) _ _ (λ _. (refl, refl, refl)) (λ _. (refl, refl, refl)))

new_in_turn : (f : SenderFields) (ack now : ℕ) → f.una < ack → let q = acknowledged f ack now in q.fields.recovery ≡ false → GoesInTurn (max f.nxt ack) f.mss q
new_in_turn f ack now new =
    let P : Planned → Type 0 = λ q. q.fields.recovery ≡ false → GoesInTurn (max f.nxt ack) f.mss q in
    new_rows P f ack now new (λ _. subst (λ m. GoesInTurn (max f.nxt ack) m (new_acknowledgement f ack now)) (measured_mss f ack now) (filled_in_turn (advanced f ack now) now))
    (λ part ended. absurd (true≢false (sym (partial_in_recovery f ack part) ∙ sym (partial_recovery f ack now) ∙ ended)))

measured_high : (f : SenderFields) (ack now : ℕ) → (measured_by f.timing f ack now).high ≡ f.high
measured_high f ack now = by_sample (λ g. g.high ≡ f.high) f.timing f ack now refl (λ r. refl)

-- a partial acknowledgement: with a sample or without, as much may go
one_behind : (f g : SenderFields) (ack c : ℕ) → g.mss ≡ f.mss → g.segments ≡ f.segments → g.high ≡ f.high → g.rwnd ≡ f.rwnd → let h = record g { nxt = max f.nxt ack } in let f' = record f { nxt = max f.nxt ack } in
    may_send_new h (ack + min c g.rwnd) ≡ may_send_new f' (ack + min c f.rwnd)
one_behind f g ack c mss segments high rwnd = λ i. may_send_new (record f { nxt = max f.nxt ack; mss = mss i; segments = segments i; high = high i }) (ack + min c (rwnd i))

part_resends : (f : SenderFields) (ack now : ℕ) → let q = partial_acknowledgement f ack now in ResendsOne (record f { nxt = max f.nxt ack }) ack (ack + min q.fields.cwnd f.rwnd) q.sent
part_resends f ack now =
    let h = partly f ack now in
    let g = measured_by f.timing f ack now in
    let f' = record f { nxt = max f.nxt ack } in
    let P : Planned → Type 0 = λ q. ResendsOne f' ack (ack + min q.fields.cwnd f.rwnd) q.sent in
    let same = one_behind f g ack h.cwnd (measured_mss f ack now) (by_sample (λ (x : SenderFields). x.segments ≡ f.segments) f.timing f ack now refl (λ r. refl)) (measured_high f ack now) (by_sample (λ (x : SenderFields). x.rwnd ≡ f.rwnd) f.timing f ack now refl (λ r. refl)) in
    by_test P (may_send_new h (h.una + min h.cwnd h.rwnd)) (sending h (h.una ∷ h.nxt ∷ []) (h.nxt + h.mss) now) (sending h (h.una ∷ []) h.nxt now)
    (λ may. record { rest = h.nxt ∷ []; again = refl; one = one_goes f' (ack + min h.cwnd f.rwnd) (sym same ∙ may) })
    (λ not. record { rest = []; again = refl; one = none_goes f' (ack + min h.cwnd f.rwnd) (sym same ∙ not) })

new_resends : (f : SenderFields) (ack now : ℕ) → f.una < ack → let q = acknowledged f ack now in q.fields.recovery ≡ true → ResendsOne (record f { nxt = max f.nxt ack }) ack (ack + min q.fields.cwnd f.rwnd) q.sent
new_resends f ack now new =
    let P : Planned → Type 0 = λ q. q.fields.recovery ≡ true → ResendsOne (record f { nxt = max f.nxt ack }) ack (ack + min q.fields.cwnd f.rwnd) q.sent in
    new_rows P f ack now new (λ on. absurd (true≢false (sym on))) (λ _ _. part_resends f ack now)

no_ack_taken : (now : ℕ) (v : Event) (f : SenderFields) (q : Planned) → ((x : Packet) → v ≡ Arrive x → x.kind ≢ Ack) → ((number : ℕ) → v ≡ Start number → GoesInTurn f.nxt f.mss q) → TakesAcknowledgements now v f q
no_ack_taken now v f q none start = record {
  moves = λ _ new. absurd (none new.0 new.1 new.2);
  in_turn = λ _ new. absurd (none new.0 new.1 new.2);
  partly = λ _ new. absurd (none new.0 new.1 new.2);
  old = λ x e kind _. absurd (none x e kind);
  start = start;
}

ack_taken : (now : ℕ) (x : Packet) (v : Event) (f : SenderFields) → v ≡ Arrive x → TakesAcknowledgements now v f (acknowledged f x.number now)
ack_taken now x v f is = record {
  moves = λ ack new. subst (λ n. let q = acknowledged f n now in (q.fields.una ≡ ack) × (q.fields.lt ≡ 0) × (q.fields.resent ≡ false)) (sym (its_number x v f ack is new)) (moved f ack now new.4);
  in_turn = λ ack new. subst (λ n. let q = acknowledged f n now in q.fields.recovery ≡ false → GoesInTurn (max f.nxt ack) f.mss q) (sym (its_number x v f ack is new)) (new_in_turn f ack now new.4);
  partly = λ ack new. subst (λ n. let q = acknowledged f n now in q.fields.recovery ≡ true → ResendsOne (record f { nxt = max f.nxt ack }) ack (ack + min q.fields.cwnd f.rwnd) q.sent) (sym (its_number x v f ack is new)) (new_resends f ack now new.4);
  old = λ y e _ which. ap (λ (z : Packet). acknowledged f z.number now) (same_packet x y (sym is ∙ e)) ∙ old_row f y.number now which;
  start = λ n e. absurd (start_brings_none n x (sym e ∙ is));
}

pub acknowledgements_are_taken : AtEachSender TakesAcknowledgements
acknowledgements_are_taken =
    by_rows TakesAcknowledgements (λ now n v f _ is _. no_ack_taken now v f _ (λ x e _. start_brings_none n x (sym is ∙ e)) (λ _ _. started_in_turn f now))
    (λ now n v f _ is _. no_ack_taken now v f _ (λ x e _. rto_brings_none n x (sym is ∙ e)) (λ m e. absurd (rto_starts_none n m (sym is ∙ e)))) (λ now x v f _ is _ _. ack_taken now x v f is)
    (λ now v f _ other. no_ack_taken now v f _ other.not_ack (λ n e. absurd (other.not_start n e)))

-- losses
timeout_marks : (f : SenderFields) (now : ℕ) → f.una < f.high → let g = (timed_out f now).fields in (g.dups ≡ 0) × (g.lt ≡ 0) × (g.timing ≡ None) × (g.deadline ≡ Some (now + g.rto))
unfolding timed_out
timeout_marks f now below = (refl, refl, rw (lt-ltb f.una f.high below, lt-leb f.high f.una below) refl, refl)

timeout_recover : (f : SenderFields) (now : ℕ) → is_newreno f ≡ true → (timed_out f now).fields.recover ≡ Some f.high
unfolding timed_out
timeout_recover f now newreno = ap (λ b. cond b (Some f.high) f.recover) newreno

measured_recover : (f : SenderFields) (ack now : ℕ) → (measured_by f.timing f ack now).recover ≡ f.recover
measured_recover f ack now = by_sample (λ g. g.recover ≡ f.recover) f.timing f ack now refl (λ r. refl)

recover_stays : (f : SenderFields) (ack now : ℕ) → let q = acknowledged f ack now in (f.recovery ≡ true) ⊎ (q.fields.recovery ≡ false) → q.fields.recover ≡ f.recover
recover_stays f ack now =
    let P : Planned → Type 0 = λ q. (f.recovery ≡ true) ⊎ (q.fields.recovery ≡ false) → q.fields.recover ≡ f.recover in
    let h = partly f ack now in
    let same = measured_recover f ack now in
    by_row P f ack now (λ _ _ _. same) (λ _ _. by_test P (may_send_new h (h.una + min h.cwnd h.rwnd)) _ _ (λ _ _. same) (λ _ _. same)) (λ _. refl)
    (λ _. by_test P (may_send_new f (f.una + min (inflated f).cwnd f.rwnd)) _ _ (λ _ _. refl) (λ _ _. refl))
    (λ _ off _ which. absurd (⊎_elim (λ (on : f.recovery ≡ true). true≢false (sym on ∙ off)) (λ (ended : true ≡ false). true≢false ended) which)) (λ _ _ _. refl)
    (λ _ _. by_test P (may_send_new f (f.una + min (f.cwnd + 2 * f.mss) f.rwnd)) _ _ (λ _ _. refl) (λ _ _. refl)) (λ _ _ _. refl)

started_recover : (f : SenderFields) (now : ℕ) → (started f now).fields.recover ≡ f.recover
unfolding started
started_recover f now = refl

third_marks : (f : SenderFields) (now : ℕ) → is_newreno f ≡ true → let g = (fast_retransmit f now).fields in (g.recover ≡ Some f.high) × (g.partial ≡ false)
third_marks f now newreno = (ap (λ b. cond b (Some f.high) f.recover) newreno, refl)

abbrev PartMarks : ℕ → SenderFields → Planned → Type 0
PartMarks now f q = (q.fields.partial ≡ true) × (f.partial ≡ false → q.fields.deadline ≡ Some (now + q.fields.rto)) × (f.partial ≡ true → q.fields.deadline ≡ f.deadline)

part_marks : (f : SenderFields) (ack now : ℕ) → IsSome f.deadline → PartMarks now f (partial_acknowledgement f ack now)
part_marks f ack now set =
    let h = partly f ack now in
    by_test (PartMarks now f) (may_send_new h (h.una + min h.cwnd h.rwnd)) _ _ (λ _. (refl, first, later)) (λ _. (refl, first, later))
  where
    set_to : Bool → Option ℕ
    set_to b = option_or (cond b f.deadline (Some (now + (measured_by f.timing f ack now).rto))) (Some (now + (measured_by f.timing f ack now).rto))

    first : f.partial ≡ false → set_to f.partial ≡ Some (now + (measured_by f.timing f ack now).rto)
    first e = ap set_to e

    later : f.partial ≡ true → set_to f.partial ≡ f.deadline
    later e = ap set_to e ∙ keeps_set f.deadline (now + (measured_by f.timing f ack now).rto) set

no_loss : (now : ℕ) (v : Event) (f : SenderFields) (q : Planned) → ((x : Packet) → v ≡ Arrive x → x.kind ≢ Ack) → ((number : ℕ) → v ≢ Rto number) → q.fields.recovery ≡ f.recovery → q.fields.recover ≡ f.recover → MarksLosses now v f q
no_loss now v f q not_ack not_rto recovery recover = record {
  at_timeout = λ n e. absurd (not_rto n e);
  recover_then = λ n e. absurd (not_rto n e);
  at_third = λ off on. absurd (true≢false (sym on ∙ recovery ∙ off));
  stays = λ _ _. recover;
  partly = λ _ _ new. absurd (not_ack new.0 new.1 new.2);
}

ack_marks : (now : ℕ) (x : Packet) (v : Event) (f : SenderFields) → IsSound f → v ≡ Arrive x → MarksLosses now v f (acknowledged f x.number now)
ack_marks now x v f sound is = record {
  at_timeout = λ n e. absurd (rto_brings_none n x (sym e ∙ is));
  recover_then = λ n e. absurd (rto_brings_none n x (sym e ∙ is));
  at_third = λ off on newreno. subst (λ (q : Planned). (q.fields.recover ≡ Some f.high) × (q.fields.partial ≡ false)) (sym (begins_at_third f x.number now off on).3) (third_marks f now newreno);
  stays = λ _. recover_stays f x.number now;
  partly = λ ack r new on newreno recover below.
      let row : acknowledged f x.number now ≡ partial_acknowledgement f ack now = ap (λ n. acknowledged f n now) (its_number x v f ack is new) ∙ goes_on_in_part f ack now r new.4 on newreno recover below in
      let most = subst (λ o. IfSome o (λ m. m ≤ f.high)) recover sound.recover_most in
      let whole = (sound.newreno_recovery newreno on).1 in
      let above = new.4 in
      subst (PartMarks now f) (sym row) (part_marks f ack now (sound.deadline_flight.1 (omega (arith, above, below, most, whole))));
}

pub losses_are_marked : AtEachSender MarksLosses
losses_are_marked =
    by_rows MarksLosses
    (λ now n v f _ is _. no_loss now v f _ (λ x e _. start_brings_none n x (sym is ∙ e)) (λ m e. rto_starts_none m n (sym e ∙ is)) (started_recovery f now) (started_recover f now))
    (λ now n v f sound is set. record {
      at_timeout = λ _ _. timeout_marks f now (let flies = sound.deadline_flight.0 set in let most = sound.nxt_high in omega (arith, flies, most));
      recover_then = λ _ _. timeout_recover f now;
      at_third = λ _ on. absurd (true≢false (sym on ∙ timed_out_recovery f now));
      stays = λ not. absurd (not n is);
      partly = λ _ _ new. absurd (rto_brings_none n new.0 (sym is ∙ new.1));
    })
    (λ now x v f sound is _ _. ack_marks now x v f sound is) (λ now v f _ other. no_loss now v f _ other.not_ack other.not_timeout refl refl)

-- what is timed
nothing_of : (t : Option Timing) (b : Bool) → t ≡ None → cond b None t ≡ None
nothing_of t true none = refl
nothing_of t false none = none

timed_first : (h : SenderFields) (sent rest : List ℕ) (now : ℕ) → h.timing ≡ None → sent ≡ h.high ∷ rest → timing_after h sent now ≡ Some (timing_of (h.high + h.mss) now)
timed_first h sent rest now none e =
    ap (λ o. option_or o (option_map (λ x. timing_of (x + h.mss) now) (find (λ x. leb h.high x) sent))) (nothing_of h.timing (list_any (λ x. ltb x h.high) sent) none)
    ∙ ap (λ ls. option_map (λ x. timing_of (x + h.mss) now) (find (λ x. leb h.high x) ls)) e
    ∙ ap (λ b. option_map (λ x. timing_of (x + h.mss) now) (cond b (Some h.high) (find (λ x. leb h.high x) rest))) (le-leb h.high h.high (omega arith))

no_segment : (x : ℕ) (rest : List ℕ) → [] ≡ x ∷ rest → ⊥
no_segment x rest e = cc

abbrev Begins : ℕ → SenderFields → Planned → Type 0
Begins now f q = (rest : List ℕ) → q.sent ≡ f.high ∷ rest → q.fields.timing ≡ Some (timing_of (f.high + f.mss) now)

-- a row that sends from fields in which nothing is timed
sends_timed : (now : ℕ) (f h : SenderFields) (sent : List ℕ) → h.timing ≡ None → h.high ≡ f.high → h.mss ≡ f.mss → (rest : List ℕ) → sent ≡ f.high ∷ rest → timing_after h sent now ≡ Some (timing_of (f.high + f.mss) now)
sends_timed now f h sent none high mss rest e = timed_first h sent rest now none (e ∙ ap (λ m. m ∷ rest) (sym high)) ∙ (λ i. Some (timing_of (high i + mss i) now))

new_begins : (f : SenderFields) (ack now : ℕ) → f.una < ack → (measured_by f.timing f ack now).timing ≡ None → Begins now f (acknowledged f ack now)
new_begins f ack now new none =
    let h = partly f ack now in
    let high = measured_high f ack now in
    let mss = measured_mss f ack now in
    new_rows (Begins now f) f ack now new (sends_timed now f (advanced f ack now) (new_acknowledgement f ack now).sent none high mss)
    (λ _. by_test (Begins now f) (may_send_new h (h.una + min h.cwnd h.rwnd)) (sending h (h.una ∷ h.nxt ∷ []) (h.nxt + h.mss) now) (sending h (h.una ∷ []) h.nxt now)
    (λ _. sends_timed now f h (h.una ∷ h.nxt ∷ []) none high mss) (λ _. sends_timed now f h (h.una ∷ []) none high mss))

other_begins : (f : SenderFields) (ack now : ℕ) → ack ≤ f.una → f.timing ≡ None → Begins now f (acknowledged f ack now)
other_begins f ack now not_new none =
    let P : Planned → Type 0 = Begins now f in
    by_row P f ack now (λ new _. absurd (omega (arith, new, not_new))) (λ new _. absurd (omega (arith, new, not_new))) (λ rest e. absurd (no_segment f.high rest e))
    (λ _. by_test P (may_send_new f (f.una + min (inflated f).cwnd f.rwnd)) (sending (inflated f) (f.nxt ∷ []) (f.nxt + f.mss) now) (nothing_sent (inflated f))
    (λ _. sends_timed now f (inflated f) (f.nxt ∷ []) none refl refl) (λ _ rest e. absurd (no_segment f.high rest e)))
    (λ _ _ _. sends_timed now f (record f { dups = 3; recovery = true }) (f.una ∷ []) none refl refl) (λ _ _ rest e. absurd (no_segment f.high rest e))
    (λ _ _. by_test P (may_send_new f (f.una + min (f.cwnd + 2 * f.mss) f.rwnd)) (sending (record f { dups = one_more f.dups; lt = f.lt + f.mss }) (f.nxt ∷ []) (f.nxt + f.mss) now) (nothing_sent (record f { dups = one_more f.dups }))
    (λ _. sends_timed now f (record f { dups = one_more f.dups; lt = f.lt + f.mss }) (f.nxt ∷ []) none refl refl) (λ _ rest e. absurd (no_segment f.high rest e)))
    (λ _ _ rest e. absurd (no_segment f.high rest e))

started_begins : (f : SenderFields) (now : ℕ) → f.timing ≡ None → Begins now f (started f now)
unfolding started
started_begins f now none = sends_timed now f f (filling f now).sent none refl refl

timed_out_begins : (f : SenderFields) (now : ℕ) → Begins now f (timed_out f now)
unfolding timed_out
timed_out_begins f now = sends_timed now f (record f { timing = None }) (f.una ∷ []) refl refl refl

started_estimates : (f : SenderFields) (now : ℕ) → let g = (started f now).fields in (g.srtt ≡ f.srtt) × (g.rttvar ≡ f.rttvar)
unfolding started
started_estimates f now = (refl, refl)

timed_out_estimates : (f : SenderFields) (now : ℕ) → let g = (timed_out f now).fields in (g.srtt ≡ f.srtt) × (g.rttvar ≡ f.rttvar)
unfolding timed_out
timed_out_estimates f now = (refl, refl)

-- without a sample the estimates stay
unmeasured : (o : Option Timing) (f : SenderFields) (ack now : ℕ) → IfSome o (λ t. t.number ≤ ack → ⊥) → let g = measured_by o f ack now in (g.srtt ≡ f.srtt) × (g.rttvar ≡ f.rttvar)
unmeasured None f ack now none = (refl, refl)
unmeasured (Some t) f ack now none =
    ⊎_elim (λ (less : ack < t.number). rw (lt-leb t.number ack less) (refl, refl)) (λ (upto : t.number ≤ ack). absurd (none upto)) (cases_lt ack t.number)

ack_estimates : (f : SenderFields) (ack now : ℕ) → (f.una < ack → IfSome f.timing (λ t. t.number ≤ ack → ⊥)) → let g = (acknowledged f ack now).fields in (g.srtt ≡ f.srtt) × (g.rttvar ≡ f.rttvar)
ack_estimates f ack now none =
    let P : Planned → Type 0 = λ q. (q.fields.srtt ≡ f.srtt) × (q.fields.rttvar ≡ f.rttvar) in
    let h = partly f ack now in
    by_row P f ack now (λ new _. unmeasured f.timing f ack now (none new))
    (λ new _. by_test P (may_send_new h (h.una + min h.cwnd h.rwnd)) _ _ (λ _. unmeasured f.timing f ack now (none new)) (λ _. unmeasured f.timing f ack now (none new))) (refl, refl)
    (λ _. by_test P (may_send_new f (f.una + min (inflated f).cwnd f.rwnd)) _ _ (λ _. (refl, refl)) (λ _. (refl, refl))) (λ _ _ _. (refl, refl)) (λ _ _. (refl, refl))
    (λ _ _. by_test P (may_send_new f (f.una + min (f.cwnd + 2 * f.mss) f.rwnd)) _ _ (λ _. (refl, refl)) (λ _. (refl, refl))) (λ _ _. (refl, refl))

ack_times : (now : ℕ) (x : Packet) (v : Event) (f : SenderFields) → v ≡ Arrive x → x.kind ≡ Ack → TimesSegments now v f (acknowledged f x.number now)
ack_times now x v f is kind = record {
  begins = λ rest untimed e.
      ⊎_elim (λ (new : f.una < x.number). new_begins f x.number now new (after untimed) rest e)
      (λ (not_new : x.number ≤ f.una). other_begins f x.number now not_new (still not_new untimed) rest e)
      (cases_lt f.una x.number);
  estimates = λ none. ack_estimates f x.number now (λ new. by f.timing refl (λ t timed upto. none x.number t (x, is, kind, refl, new) timed upto));
}
  where
    after : IsUntimed v f → (measured_by f.timing f x.number now).timing ≡ None
    after untimed =
        ⊎_elim (λ (none : f.timing ≡ None). ap (λ o. (measured_by o f x.number now).timing) none ∙ none)
        (λ (a : (ack : ℕ) × (t : Timing) × IsNewAck v f ack × (f.timing ≡ Some t) × (t.number ≤ ack)).
        ap (λ (g : SenderFields). g.timing) (is_sampled f x.number now a.1 a.3 (let upto = a.4 in let same = its_number x v f a.0 is a.2 in omega (arith, upto, same)))) untimed

    still : x.number ≤ f.una → IsUntimed v f → f.timing ≡ None
    still not_new untimed =
        ⊎_elim (λ (none : f.timing ≡ None). none)
        (λ (a : (ack : ℕ) × (t : Timing) × IsNewAck v f ack × (f.timing ≡ Some t) × (t.number ≤ ack)). absurd (let new = a.2.4 in let same = its_number x v f a.0 is a.2 in omega (arith, new, same, not_new))) untimed

    by : (o : Option Timing) → f.timing ≡ o → ((t : Timing) → f.timing ≡ Some t → t.number ≤ x.number → ⊥) → IfSome o (λ t. t.number ≤ x.number → ⊥)
    by None timed none = tt
    by (Some t) timed none = none t timed

no_ack_times : (now : ℕ) (v : Event) (f : SenderFields) (q : Planned) → ((x : Packet) → v ≡ Arrive x → x.kind ≢ Ack) → (f.timing ≡ None → Begins now f q) → (q.fields.srtt ≡ f.srtt) × (q.fields.rttvar ≡ f.rttvar) → TimesSegments now v f q
no_ack_times now v f q not_ack begins same = record {
  begins = λ rest untimed e.
      ⊎_elim (λ (none : f.timing ≡ None). begins none rest e)
      (λ (a : (ack : ℕ) × (t : Timing) × IsNewAck v f ack × (f.timing ≡ Some t) × (t.number ≤ ack)). absurd (not_ack a.2.0 a.2.1 a.2.2)) untimed;
  estimates = λ _. same;
}

pub segments_are_timed : AtEachSender TimesSegments
segments_are_timed =
    by_rows TimesSegments (λ now n v f _ is _. no_ack_times now v f _ (λ x e _. start_brings_none n x (sym is ∙ e)) (started_begins f now) (started_estimates f now))
    (λ now n v f _ is _. no_ack_times now v f _ (λ x e _. rto_brings_none n x (sym is ∙ e)) (λ _. timed_out_begins f now) (timed_out_estimates f now))
    (λ now x v f _ is kind _. ack_times now x v f is kind) (λ now v f _ other. no_ack_times now v f _ other.not_ack (λ _ rest e. absurd (no_segment f.high rest e)) (refl, refl))
