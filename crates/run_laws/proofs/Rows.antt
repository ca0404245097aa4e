-- What each row of the sender's table does to what was sent, the timer and the rto.
use Rattle.std.proofs.Common.{◌≡◌, ℕ, ◌+◌, ◌-◌, ◌*◌, ◌/◌, ◌<◌, ◌≤◌, min, max, Bool, true, false, cond, ◌&&◌, ◌||◌, eqb, leb, ltb, List, [], ◌∷◌, refl, Option, Some, None, arith, inl, inr, ◌⊎◌, ⊎_elim}
use Rattle.std.proofs.lemmas.Bool.{cases_lt, and_parts, or_parts, eqb-true, eqb-false, leb-true, le-ltb, ltb-true, ltb-false, or_right, eq-eqb}
use Rattle.std.proofs.Math.Nat.{div-add-mod'}
use Rattle.std.specs.Option.{option_or}
use Rattle.reno_sender.specs.declared.fields.SenderFields.{SenderFields}
use Rattle.reno_sender.specs.declared.fields.Timing.{Timing}
use Rattle.reno_sender.specs.Fields.{IsSound, total}
use Rattle.reno_sender.specs.Laws.{IsAckFor}
use Rattle.reno_sender.specs.Sending.{Planned, spaced, fill_count, allowed_end, deadline_after, filling}
use Rattle.reno_sender.specs.LossRecovery.{nothing_sent, may_send_new, partly, advanced, inflated, one_more, enters, is_partial, new_acknowledgement, partial_acknowledgement, early_duplicate, further_duplicate, fast_retransmit, repeated_duplicate}
use Rattle.reno_sender.specs.Table.{started, acknowledged, timed_out}
use Rattle.reno_sender.specs.Timer.{measured_by}
use Rattle.reno_sender.proofs.RowLaws.{by_rows}
use Rattle.reno_sender.proofs.Samples.{by_sample}
use Rattle.run_laws.proofs.Ports.{by_test}

-- new segments lie within both windows, or an early duplicate sends past one
abbrev pub FitsNew : SenderFields → Planned → Type 0
FitsNew f q = let g = q.fields in (g.high ≡ f.high) ⊎ (g.high ≤ g.una + min g.cwnd g.rwnd)

abbrev IsEarly : SenderFields → ℕ → Type 0
IsEarly f ack = (ack ≡ f.una) × (f.una < f.nxt) × (f.recovery ≡ false) × (f.dups < 2)

abbrev pub FitsAtAck : SenderFields → ℕ → Planned → Type 0
FitsAtAck f ack q = let g = q.fields in FitsNew f q ⊎ (IsEarly f ack × (g.high ≤ g.una + min (g.cwnd + 2 * g.mss) g.rwnd))

fill_end : (nxt end mss : ℕ) → nxt + (end - nxt) / mss * mss ≤ max nxt end
fill_end nxt end mss = let a = div-add-mod' (end - nxt) mss in omega (arith, a)

filling_fits : (f h : SenderFields) (now : ℕ) → h.high ≡ f.high → h.nxt ≤ h.high → FitsNew f (filling h now)
filling_fits f h now high within =
    let end = fill_end h.nxt (allowed_end h) h.mss in
    let nxt = h.nxt + fill_count h * h.mss in
    ⊎_elim
    (λ (more : h.high < nxt). inr (omega (arith, more, end, within)))
    (λ (least : nxt ≤ h.high). inl (omega (arith, least, high)))
    (cases_lt h.high nxt)

pub may_parts : (h : SenderFields) (end : ℕ) → may_send_new h end ≡ true → (h.nxt ≡ h.high) × (h.nxt + h.mss ≤ end)
may_parts h end is =
    let first = and_parts (eqb h.nxt h.high) (ltb h.nxt (total h) && leb (h.nxt + h.mss) end) is in
    let second = and_parts (ltb h.nxt (total h)) (leb (h.nxt + h.mss) end) first.1 in
    (eqb-true h.nxt h.high first.0, leb-true (h.nxt + h.mss) end second.1)

measured_window : (o : Option Timing) (f : SenderFields) (ack now : ℕ) → let g = measured_by o f ack now in (g.high ≡ f.high) × (g.nxt ≡ f.nxt)
measured_window o f ack now = by_sample (λ g. (g.high ≡ f.high) × (g.nxt ≡ f.nxt)) o f ack now (refl, refl) (λ r. (refl, refl))

pub started_fits : (f : SenderFields) (now : ℕ) → IsSound f → FitsNew f (started f now)
unfolding started
started_fits f now sound = filling_fits f f now refl sound.nxt_high

pub timeout_fits : (f : SenderFields) (now : ℕ) → IsSound f → FitsNew f (timed_out f now)
unfolding timed_out
timeout_fits f now sound =
    let least = sound.rwnd_least in
    ⊎_elim
    (λ (a : f.high < f.una + f.mss). inr (omega (arith, a, least)))
    (λ (a : f.una + f.mss ≤ f.high). inl (omega (arith, a)))
    (cases_lt f.high (f.una + f.mss))

-- the rows of an acknowledgement, and which is an early duplicate
rows : (P : Planned → Type 0) (f : SenderFields) (ack now : ℕ) → P (new_acknowledgement f ack now) → P (partial_acknowledgement f ack now) → P (nothing_sent f) → P (further_duplicate f now)
    → P (fast_retransmit f now) → P (nothing_sent (record f { dups = 3 })) → (ack ≡ f.una → (f.una ≡ f.nxt → ⊥) → f.recovery ≡ false → f.dups < 2 → P (early_duplicate f now)) → P (repeated_duplicate f)
    → P (acknowledged f ack now)
unfolding acknowledged
rows P f ack now new part old further fast counted early repeated =
    by_test P (ltb f.una ack) _ _ (λ _. by_test P (is_partial f ack) _ _ (λ _. part) (λ _. new))
    (λ not_new. by_test P (ltb ack f.una || eqb f.una f.nxt) _ _ (λ _. old)
    (λ flies. by_test P f.recovery _ _ (λ _. further)
    (λ off. by_test P (eqb f.dups 2) _ _ (λ _. by_test P (enters f) _ _ (λ _. fast) (λ _. counted))
    (λ _. by_test P (ltb f.dups 2) _ _
    (λ few.
    let parts = or_parts (ltb ack f.una) (eqb f.una f.nxt) flies in
    let a = ltb-false f.una ack not_new in
    let b = ltb-false ack f.una parts.0 in
    early (omega (arith, a, b)) (eqb-false f.una f.nxt parts.1) off (ltb-true f.dups 2 few))
    (λ _. repeated)))))

pub ack_fits : (f : SenderFields) (ack now : ℕ) → IsSound f → IsAckFor f ack now → FitsAtAck f ack (acknowledged f ack now)
ack_fits f ack now sound is_ack =
    let below = sound.nxt_high in
    let most = is_ack.most in
    let measured = measured_window f.timing f ack now in
    rows (FitsAtAck f ack) f ack now
    (inl (filling_fits f (advanced f ack now) now measured.0 (let a = measured.0 in omega (arith, a, below, most))))
    (inl (let h = partly f ack now in by_test (FitsNew f) (may_send_new h (h.una + min h.cwnd h.rwnd)) _ _
    (λ may. let parts = may_parts h (h.una + min h.cwnd h.rwnd) may in inr (let a = parts.0 in let b = parts.1 in omega (arith, a, b)))
    (λ _. inl (let a = measured.0 in omega (arith, a, below, most)))))
    (inl (inl refl))
    (inl (by_test (FitsNew f) (may_send_new f (f.una + min (inflated f).cwnd f.rwnd)) _ _
    (λ may. let parts = may_parts f (f.una + min (inflated f).cwnd f.rwnd) may in inr (let a = parts.0 in let b = parts.1 in omega (arith, a, b)))
    (λ _. inl refl)))
    (inl (inl (omega (arith, below))))
    (inl (inl refl))
    (λ at apart off few. by_test (FitsAtAck f ack) (may_send_new f (f.una + min (f.cwnd + 2 * f.mss) f.rwnd)) _ _
    (λ may. let parts = may_parts f (f.una + min (f.cwnd + 2 * f.mss) f.rwnd) may in inr ((at, flies apart, off, few), let a = parts.0 in let b = parts.1 in omega (arith, a, b)))
    (λ _. inl (inl refl)))
    (inl (inl refl))
  where
    flies : (f.una ≡ f.nxt → ⊥) → f.una < f.nxt
    flies apart = ⊎_elim (λ (less : f.una < f.nxt). less) (λ (most : f.nxt ≤ f.una). absurd (apart (let least = sound.una_nxt in omega (arith, most, least)))) (cases_lt f.una f.nxt)

-- a timer that is set ends one rto later
abbrev pub EndsAfter : ℕ → SenderFields → Planned → Type 0
EndsAfter now f q = (q.fields.deadline ≡ None) ⊎ ((q.fields.deadline ≡ f.deadline) ⊎ (q.fields.deadline ≡ Some (now + q.fields.rto)))

abbrev IsRight : ℕ → Option ℕ → ℕ → Option ℕ → Type 0
IsRight now old rto d = (d ≡ None) ⊎ ((d ≡ old) ⊎ (d ≡ Some (now + rto)))

after_sending : (h : SenderFields) (xs : List ℕ) (now : ℕ) (old : Option ℕ) → IsRight now old h.rto h.deadline → IsRight now old h.rto (deadline_after h xs now)
after_sending h [] now old is = is
after_sending h (x ∷ xs) now old is = by h.deadline is
  where
    by : (d : Option ℕ) → IsRight now old h.rto d → IsRight now old h.rto (option_or d (Some (now + h.rto)))
    by None is = inr (inr refl)
    by (Some t) is = is

pub started_ends : (f : SenderFields) (now : ℕ) → EndsAfter now f (started f now)
unfolding started
started_ends f now = after_sending f (spaced f.nxt f.mss (fill_count f)) now f.deadline (inr (inl refl))

pub timeout_ends : (f : SenderFields) (now : ℕ) → EndsAfter now f (timed_out f now)
unfolding timed_out
timeout_ends f now = inr (inr refl)

restarts : (b : Bool) (now rto : ℕ) (old : Option ℕ) → IsRight now old rto (cond b None (Some (now + rto)))
restarts true now rto old = inl refl
restarts false now rto old = inr (inr refl)

stays_or_restarts : (b : Bool) (now rto : ℕ) (old : Option ℕ) → IsRight now old rto (cond b old (Some (now + rto)))
stays_or_restarts true now rto old = inr (inl refl)
stays_or_restarts false now rto old = inr (inr refl)

pub ack_ends : (f : SenderFields) (ack now : ℕ) → EndsAfter now f (acknowledged f ack now)
ack_ends f ack now =
    let g = measured_by f.timing f ack now in
    let keeps : EndsAfter now f (nothing_sent f) = inr (inl refl) in
    by_rows (EndsAfter now f) f ack now
    (λ _ _. let h = advanced f ack now in after_sending h (spaced h.nxt h.mss (fill_count h)) now f.deadline (restarts (eqb ack (max f.nxt ack)) now g.rto f.deadline))
    (λ _ _. let h = partly f ack now in
    let is = stays_or_restarts f.partial now g.rto f.deadline in
    by_test (EndsAfter now f) (may_send_new h (h.una + min h.cwnd h.rwnd)) _ _ (λ _. after_sending h (h.una ∷ h.nxt ∷ []) now f.deadline is) (λ _. after_sending h (h.una ∷ []) now f.deadline is))
    keeps
    (λ _. by_test (EndsAfter now f) (may_send_new f (f.una + min (inflated f).cwnd f.rwnd)) _ _ (λ _. after_sending (inflated f) (f.nxt ∷ []) now f.deadline (inr (inl refl))) (λ _. keeps))
    (λ _ _ _. after_sending (record f { dups = 3; recovery = true }) (f.una ∷ []) now f.deadline (inr (inl refl)))
    (λ _ _. keeps)
    (λ _ _. by_test (EndsAfter now f) (may_send_new f (f.una + min (f.cwnd + 2 * f.mss) f.rwnd)) _ _ (λ _. after_sending (record f { dups = one_more f.dups; lt = f.lt + f.mss }) (f.nxt ∷ []) now f.deadline (inr (inl refl))) (λ _. keeps))
    (λ _ _. keeps)

pub start_keeps_rto : (f : SenderFields) (now : ℕ) → (started f now).fields.rto ≡ f.rto
unfolding started
start_keeps_rto f now = refl

-- an acknowledgement that comes to a complete flow
pub ack_silent : (f : SenderFields) (ack now : ℕ) → IsSound f → IsAckFor f ack now → f.una ≡ total f → acknowledged f ack now ≡ nothing_sent f
unfolding acknowledged
ack_silent f ack now sound is_ack whole =
    let nxt = sound.una_nxt in
    let high = sound.nxt_high in
    let most = sound.high_total in
    let upto = is_ack.most in
    rw (le-ltb f.una ack (omega (arith, upto, whole, most)), or_right (ltb ack f.una) (eqb f.una f.nxt) (eq-eqb f.una f.nxt (omega (arith, nxt, high, most, whole)))) refl
