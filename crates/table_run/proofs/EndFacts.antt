-- What the events of a sender and of a receiver leave, and in which order the keys of a node come.
use Rattle.std.proofs.Common.{◌≡◌, ◌≢◌, ℕ, ◌+◌, ◌*◌, ◌%◌, ◌<◌, ◌≤◌, refl, sym, ap, subst, ◌∙◌, Option, Some, None, IsSome, arith, inl, inr, ◌⊎◌, ⊎_elim}
use Rattle.std.proofs.lemmas.Bool.{cases_eq, cases_lt}
use Rattle.std.proofs.lemmas.Nat.{mul-le}
use Rattle.std.proofs.Math.Nat.{mod-eq_of_lt}
use Rattle.std.specs.Cmp.{nat_cmp_is}
use Rattle.std.specs.Ordering.{nat_cmp, ordering_then}
use Rattle.std.specs.declared.cmp.Ordering.TheVariants.{Less, Equal}
use Rattle.sim_time.specs.declared.key.Key.{Key}
use Rattle.sim_time.specs.Keys.{key_cmp}
use Rattle.reno_sender.specs.declared.fields.SenderFields.{SenderFields}
use Rattle.reno_sender.specs.Fields.{IsSound}
use Rattle.reno_sender.specs.Laws.{IsDeadlineSetAt}
use Rattle.reno_sender.specs.Table.{timed_out}
use Rattle.reno_sender.specs.Timer.{backed_off}
use Rattle.reno_receiver.specs.declared.reply.Reply.{Reply}
use Rattle.reno_receiver.specs.declared.reply.Reply.TheVariants.{AckNow, Wait}
use Rattle.reno_receiver.specs.Received.{ReceiverState, Answered, IsReceived, IsWellFormed, next_of}
use Rattle.reno_receiver.specs.Laws.{DataKeeps, TimerKeeps}
use Rattle.reno_receiver.proofs.Laws.{next_holds}
use Rattle.tournament.proofs.Maps.{not_some, same_some}
use Rattle.table_run.specs.Flow.{IsAnswerable}
use Rattle.table_run.proofs.ReceiverRow.{AnswerKeeps}

-- a sender's high lies within the greatest flow
pub high_fits : (f : SenderFields) → IsSound f → f.high ≤ 9000000000000
high_fits f sound =
    let whole : f.segments * f.mss ≤ 1000000000 * 9000 = mul-le f.segments f.mss 1000000000 9000 sound.segments_most sound.mss_most in
    let total = sound.high_total in omega (arith, whole, total)

-- nothing was sent: no timer is set
pub some_flight : (f : SenderFields) → IsSound f → (u : ℕ) → f.deadline ≡ Some u → 0 < f.high
some_flight f sound u is =
    let less : f.una < f.nxt = sound.deadline_flight.0 (subst (λ (o : Option ℕ). IsSome o) (sym is) refl) in
    let most = sound.nxt_high in omega (arith, less, most)

-- a whole multiple of mss that isn't 0 is at least mss
pub multiple_least : (m x : ℕ) → x % m ≡ 0 → x ≢ 0 → m ≤ x
multiple_least m x whole other = ⊎_elim (λ (less : x < m). absurd (other (sym (mod-eq_of_lt {n = x} {m = m} less) ∙ whole))) (λ (most : m ≤ x). most) (cases_lt x m)

-- once a segment has come, the answer is past the first or a second was sent
pub after_data : (st : ReceiverState) (seq high : ℕ) → IsWellFormed st → IsReceived st seq → seq % st.mss ≡ 0 → seq + st.mss ≤ high → IsAnswerable st.mss high (next_of st)
after_data st seq high well got whole below =
    let next = (next_holds st well).least in
    ⊎_elim
    (λ (zero_is : seq ≡ 0). inl (multiple_least st.mss (next_of st) next.multiple (λ is_zero. next.missing (subst (IsReceived st) (zero_is ∙ sym is_zero) got))))
    (λ (later : seq ≢ 0). inr (let least = multiple_least st.mss seq whole later in omega (arith, least, below)))
    (cases_eq seq 0)

pub data_answer : (st : ReceiverState) (seq now high : ℕ) (a : Answered) → st.delack ≤ 500000000 → seq % st.mss ≡ 0 → DataKeeps st seq now a → seq + st.mss ≤ high → ((x : ℕ) → IsReceived st x → x + st.mss ≤ high) → AnswerKeeps st high now a
data_answer st seq now high a most whole keeps this those = record {
  well_formed = keeps.well_formed;
  same_mss = keeps.mss_stays;
  same_delack = keeps.delack_stays;
  next_rises = keeps.next_rises;
  next_multiple = keeps.next_multiple;
  received_below = λ x is. ⊎_elim (λ (e : x ≡ seq). subst (λ y. y + st.mss ≤ high) (sym e) this) (λ (old : IsReceived st x). those x old) ((keeps.members x).0 is);
  answerable =
      subst (λ m. IsAnswerable m high (next_of a.state)) keeps.mss_stays
      (after_data a.state seq high keeps.well_formed ((keeps.members seq).1 (inl refl)) (subst (λ m. seq % m ≡ 0) (sym keeps.mss_stays) whole) (subst (λ m. seq + m ≤ high) (sym keeps.mss_stays) this));
  acknowledges = λ m is. (keeps.acknowledged m is).0;
  timer_soon = λ t is. soon a.reply t refl is;
}
  where
    soon : (r : Reply) (t : ℕ) → a.reply ≡ r → a.state.timer ≡ Some t → (now < t) × (t ≤ now + 500000000)
    soon (AckNow m) t e is = absurd (not_some (sym (keeps.acknowledged m e).1 ∙ is))
    soon (Wait d) t e is =
        let waits = keeps.waits d e in
        let same : d ≡ t = same_some d t (sym waits.2 ∙ is) in
        (omega (arith, waits.0, waits.1, same), omega (arith, waits.0, most, same))

pub timer_answer : (st : ReceiverState) (now high : ℕ) (a : Answered) → next_of st % st.mss ≡ 0 → IsAnswerable st.mss high (next_of st) → TimerKeeps st a → ((x : ℕ) → IsReceived st x → x + st.mss ≤ high) → AnswerKeeps st high now a
timer_answer st now high a whole waited keeps those = record {
  well_formed = keeps.well_formed;
  same_mss = keeps.mss_stays;
  same_delack = keeps.delack_stays;
  next_rises = omega (arith, keeps.next_stays);
  next_multiple = subst (λ x. x % st.mss ≡ 0) (sym keeps.next_stays) whole;
  received_below = λ x is. those x (subst (λ received. IsReceived (record st { received = received }) x) keeps.received_stays is);
  answerable = subst (IsAnswerable st.mss high) (sym keeps.next_stays) waited;
  acknowledges = λ m is. reply_is m (sym keeps.acknowledged ∙ is) ∙ sym keeps.next_stays;
  timer_soon = λ t is. absurd (not_some (sym keeps.timer_off ∙ is));
}
  where
    reply_is : (m : ℕ) → AckNow (next_of st) ≡ AckNow m → m ≡ next_of st
    reply_is m h = cc

-- a timeout sets the timer anew, later than now
pub timeout_fresh : (f : SenderFields) (now u : ℕ) → IsSound f → (timed_out f now).fields.deadline ≡ Some u → now < u
unfolding timed_out
timeout_fresh f now u sound e = let same = same_some (now + backed_off f.rto) u e in let least = sound.rto_least in omega (arith, same, least)

-- a deadline that a row leaves is later than now, where one that was set before is
pub row_fresh : (now u : ℕ) (old new : Option ℕ) → ((d : ℕ) → old ≡ Some d → now < d) → (new ≡ None) ⊎ ((new ≡ old) ⊎ IsDeadlineSetAt now new) → new ≡ Some u → now < u
row_fresh now u old new before h is =
    ⊎_elim (λ (none : new ≡ None). absurd (not_some (sym none ∙ is)))
    (λ (rest : (new ≡ old) ⊎ IsDeadlineSetAt now new). ⊎_elim (λ (same : new ≡ old). before u (sym same ∙ is))
    (λ (set : IsDeadlineSetAt now new). let same = same_some (now + set.after) u (sym set.is_then ∙ is) in let least = set.after_least in omega (arith, same, least)) rest) h

-- at one moment and node a lower source comes first
pub lower_source : (a b : Key) → a.time ≡ b.time → a.node ≡ b.node → a.source < b.source → key_cmp a b ≡ Less
lower_source a b time node source =
    ap (λ o. ordering_then o (ordering_then (nat_cmp a.node b.node) (ordering_then (nat_cmp a.source b.source) (nat_cmp a.number b.number)))) (sym (nat_cmp_is a.time b.time Equal time))
    ∙ ap (λ o. ordering_then o (ordering_then (nat_cmp a.source b.source) (nat_cmp a.number b.number))) (sym (nat_cmp_is a.node b.node Equal node))
    ∙ ap (λ o. ordering_then o (nat_cmp a.number b.number)) (sym (nat_cmp_is a.source b.source Less source))
