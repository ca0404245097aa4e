-- What the rows of a sender's table keep from the flow's start on: bytes are in flight until all is acknowledged, within the receiver's window.
use Rattle.std.proofs.Common.{◌≡◌, ◌≢◌, ℕ, zero, suc, ◌+◌, ◌-◌, ◌*◌, ◌<◌, ◌≤◌, min, Bool, true, false, ◌&&◌, List, [], ◌∷◌, ◌++◌, refl, sym, ap, subst, ◌∙◌, Option, Some, None, arith, inl, inr, ◌⊎◌, ⊎_elim}
use Rattle.std.specs.Prelude.{IfSome}
use Rattle.std.specs.List.{slice_get}
use Rattle.std.specs.FinMap as finmap
use Rattle.std.proofs.Math.Nat.{mul-mod_left}
use Rattle.std.proofs.lemmas.Bool.{and_parts, ltb-true, true≢false, cases_lt, cases_eq}
use Rattle.std.proofs.lemmas.Nat.{le-div, mul-le}
use Rattle.std.proofs.lemmas.Option.{option_and_then_some}
use Rattle.sim_time.specs.declared.key.Key.{Key}
use Rattle.scenario_image.specs.declared.parts.FlowPart.{FlowPart}
use Rattle.scenario_image.specs.declared.parts.ScenarioParts.{ScenarioParts}
use Rattle.scenario_image.specs.Scenario.{IsScenario}
use Rattle.reno_sender.specs.declared.fields.SenderFields.{SenderFields}
use Rattle.reno_sender.specs.Fields.{IsSound, total, is_newreno}
use Rattle.reno_sender.specs.Laws.{IsAckFor}
use Rattle.reno_sender.specs.Sending.{Planned, allowed_end, fill_count, filling}
use Rattle.reno_sender.specs.LossRecovery.{may_send_new, is_below, is_partial, partly, partial_acknowledgement, advanced, new_acknowledgement, window_after, inflated}
use Rattle.reno_sender.specs.Table.{started, acknowledged, timed_out}
use Rattle.reno_sender.specs.Timer.{measured_by}
use Rattle.reno_sender.proofs.Multiples.{multiple_below}
use Rattle.reno_sender.proofs.RowLaws.{by_rows as by_row}
use Rattle.reno_sender.proofs.Samples.{by_sample}
use Rattle.node_core.specs.declared.event.Event.{Event}
use Rattle.node_core.specs.declared.event.Event.TheVariants.{Start, Rto, DelAck, Free, Arrive}
use Rattle.node_core.specs.declared.role.Role.TheVariants.{Sends}
use Rattle.node_core.specs.Part.{PartState}
use Rattle.node_core.specs.TraceLine.{TraceLine}
use Rattle.tournament.proofs.Maps.{same_some}
use Rattle.table_run.specs.State.{State, initial, part_at, due, effect_of, stepped, line_of, one_step_more, run}
use Rattle.table_run.specs.Laws.{IsSoundRun}
use Rattle.table_run.specs.Flow.{high_of, sent_high, IsSoundFlow}
use Rattle.table_run.specs.Sound.{IsStart, Belongs}
use Rattle.table_run.proofs.Due.{is_due}
use Rattle.table_run.proofs.Lists.{all_append}
use Rattle.table_run.proofs.Runs.{of_step, of_one_more}
use Rattle.table_run.proofs.RunLaws.{sound_run}
use Rattle.run_laws.specs.Laws.{HasNotStarted, NoFlowHangs, SendsWithinWindow, bytes_of_flow}
use Rattle.run_laws.specs.Senders.{for_packet, row_of}
use Rattle.run_laws.proofs.Events.{there}
use Rattle.run_laws.proofs.Ports.{by_test}
use Rattle.run_laws.proofs.Rows.{FitsAtAck, started_fits, timeout_fits, ack_fits}
use Rattle.run_laws.proofs.Losses.{slow_start, avoidance}
use Rattle.run_laws.proofs.Senders.{Comes, starts, times_out, acks, others, comes, role_after}

-- what a flow's start brings about, and each row keeps
pub record IsKeptByRows (Q : SenderFields → Type 0) : Type 0 where
  pub start : (f : SenderFields) (now : ℕ) → IsSound f → f.high ≡ 0 → Q (started f now).fields
  pub timeout : (f : SenderFields) (now : ℕ) → IsSound f → Q f → Q (timed_out f now).fields
  pub acknowledgement : (f : SenderFields) (ack now : ℕ) → IsSound f → IsAckFor f ack now → Q f → Q (acknowledged f ack now).fields

same_sender : (a b : ℕ) (f g : SenderFields) → Sends a f ≡ Sends b g → f ≡ g
same_sender a b f g e = cc

same_start : (a b : ℕ) → Start a ≡ Start b → a ≡ b
same_start a b e = cc

module _ (Q : SenderFields → Type 0) (kept : IsKeptByRows Q) where
  -- the flow has not started, or it holds of its sender
  abbrev pub Keeps : ScenarioParts → List TraceLine → State → Type 0
  Keeps p lines s = (number : ℕ) (flow : FlowPart) → slice_get p.flows number ≡ Some flow → HasNotStarted number lines ⊎ ((f : SenderFields) → (part_at s flow.sender).role ≡ Sends number f → Q f)

  by_row_of : (now : ℕ) (f : SenderFields) (v : Event) → IsSound f → Comes now f v → Q f → Q (row_of f v now).fields
  by_row_of now f v sound (starts n is none) was = subst (λ w. Q (row_of f w now).fields) (sym is) (kept.start f now sound none)
  by_row_of now f v sound (times_out n is set) was = subst (λ w. Q (row_of f w now).fields) (sym is) (kept.timeout f now sound was)
  by_row_of now f v sound (acks x is kind_is fits) was = subst (λ w. Q (row_of f w now).fields) (sym is) (subst (λ c. Q (for_packet f c x.number now).fields) (sym kind_is) (kept.acknowledgement f x.number now sound fits was))
  by_row_of now f v sound (others is other) was = subst (λ (q : Planned). Q q.fields) (sym (is now)) was

  module _ (p : ScenarioParts) (is_scenario : IsScenario p) (lines : List TraceLine) (s : State) (k : Key) (v : Event) (sound : IsSoundRun p lines s) (is : due s ≡ Some (k, v))
      (number : ℕ) (flow : FlowPart) (its : slice_get p.flows number ≡ Some flow) where
    abbrev t : State
    t = stepped s k (effect_of s (k, v))

    abbrev F : IsSoundFlow s sound.moment number flow
    F = sound.sound.each_flow number flow its

    at_sender : (at : flow.sender ≡ k.node) → Q (row_of F.fields v k.time).fields → (f : SenderFields) → (part_at t flow.sender).role ≡ Sends number f → Q f
    at_sender at holds f role = subst Q (same_sender number number (row_of F.fields v k.time).fields f (sym (role_after p is_scenario lines s k v sound is number flow its at) ∙ role)) holds

    -- the event is the flow's start
    begins : v ≡ Start number → (f : SenderFields) → (part_at t flow.sender).role ≡ Sends number f → Q f
    begins v_is =
        let h : IsStart p k number = subst (Belongs p s sound.moment k) v_is (sound.sound.belongs k v (is_due s k v is).pending) in
        let flow_is : h.flow ≡ flow = same_some h.flow flow (sym h.its_flow ∙ its) in
        let at : flow.sender ≡ k.node = ap (λ (g : FlowPart). g.sender) (sym flow_is) ∙ sym (ap (λ (q : Key). q.node) h.is_key) in
        let none : sent_high s h.flow ≡ 0 = sound.sound.unstarted number h.flow h.its_flow (ap (λ q. finmap.get s.pending q) (sym h.is_key) ∙ (is_due s k v is).pending ∙ ap (λ (w : Event). Some w) v_is) in
        let high : F.fields.high ≡ 0 = ap high_of (sym F.sender_role) ∙ ap (λ (g : FlowPart). sent_high s g) (sym flow_is) ∙ none in
        at_sender at (subst (λ w. Q (row_of F.fields w k.time).fields) (sym v_is) (kept.start F.fields k.time F.sound high))

    goes_on : ((f : SenderFields) → (part_at s flow.sender).role ≡ Sends number f → Q f) → (f : SenderFields) → (part_at t flow.sender).role ≡ Sends number f → Q f
    goes_on was f role =
        ⊎_elim
        (λ (at : flow.sender ≡ k.node). at_sender at (by_row_of k.time F.fields v F.sound (comes p is_scenario lines s k v sound is number flow its at) (was F.fields F.sender_role)) f role)
        (λ (apart : flow.sender ≢ k.node). was f (ap (λ (x : PartState). x.role) (sym (there p is_scenario lines s k v sound is flow.sender apart)) ∙ role))
        (cases_eq flow.sender k.node)

    is_start : (w : Event) → (w ≡ Start number) ⊎ (w ≢ Start number)
    is_start (Start n) = ⊎_elim (λ (e : n ≡ number). inl (ap Start e)) (λ (e : n ≢ number). inr (λ same. e (same_start n number same))) (cases_eq n number)
    is_start (Rto n) = inr (λ e. cc)
    is_start (DelAck n) = inr (λ e. cc)
    is_start (Free n) = inr (λ e. cc)
    is_start (Arrive x) = inr (λ e. cc)

    after : HasNotStarted number lines ⊎ ((f : SenderFields) → (part_at s flow.sender).role ≡ Sends number f → Q f)
        → HasNotStarted number (lines ++ line_of (k, v) (effect_of s (k, v)) ∷ []) ⊎ ((f : SenderFields) → (part_at t flow.sender).role ≡ Sends number f → Q f)
    after was =
        ⊎_elim (λ (starts_now : v ≡ Start number). inr (begins starts_now))
        (λ (not : v ≢ Start number).
        ⊎_elim (λ (none : HasNotStarted number lines). inl (all_append (λ (line : TraceLine). line.event ≢ Start number) lines (line_of (k, v) (effect_of s (k, v)) ∷ []) none (not, tt)))
        (λ (holds : (f : SenderFields) → (part_at s flow.sender).role ≡ Sends number f → Q f). inr (goes_on holds)) was)
        (is_start v)

  pub kept_along : (p : ScenarioParts) (n : ℕ) (lines : List TraceLine) (s : State) → IsScenario p → run (initial p) n ≡ Some (lines, s) → Keeps p lines s
  kept_along p zero lines s is e = subst (λ (q : List TraceLine × State). Keeps p q.0 q.1) (same_some ([], initial p) (lines, s) e) (λ _ _ _. inl tt)
  kept_along p (suc n) lines s is e =
      option_and_then_some one_step_more (run (initial p) n) (lines, s) e (λ so_far was now.
      of_one_more so_far lines s now (λ line step_is lines_are.
      of_step so_far.1 line s step_is (λ k v due_is new_is line_is.
      let next : Keeps p (so_far.0 ++ line_of (k, v) (effect_of so_far.1 (k, v)) ∷ []) (stepped so_far.1 k (effect_of so_far.1 (k, v))) =
      λ number flow its. after p is so_far.0 so_far.1 k v (sound_run p n so_far.0 so_far.1 is was) due_is number flow its (kept_along p n so_far.0 so_far.1 is was number flow its) in
      subst (λ ls. Keeps p ls s) (sym lines_are) (subst (λ (q : TraceLine × State). Keeps p (so_far.0 ++ q.0 ∷ []) q.1) (λ i. (sym line_is i, sym new_is i)) next))))

-- bytes are in flight
abbrev Flies : SenderFields → Type 0
Flies f = f.una < total f → f.una < f.nxt

pub record IsSameFlow (f g : SenderFields) : Type 0 where
  pub mss : g.mss ≡ f.mss
  pub segments : g.segments ≡ f.segments
  pub rwnd : g.rwnd ≡ f.rwnd

measured_same : (f : SenderFields) (ack now : ℕ) → IsSameFlow f (measured_by f.timing f ack now)
measured_same f ack now = by_sample (IsSameFlow f) f.timing f ack now (record { mss = refl; segments = refl; rwnd = refl }) (λ r. record { mss = refl; segments = refl; rwnd = refl })

fill_flies : (h : SenderFields) (now : ℕ) → 1 ≤ h.mss → (h.una < h.nxt) ⊎ ((h.una ≤ h.nxt) × (h.nxt + h.mss ≤ allowed_end h)) → h.una < (filling h now).fields.nxt
fill_flies h now mss flies =
    ⊎_elim (λ (already : h.una < h.nxt). omega (arith, already))
    (λ (may : (h.una ≤ h.nxt) × (h.nxt + h.mss ≤ allowed_end h)).
    let room : 1 * h.mss ≤ allowed_end h - h.nxt = (let a = may.1 in omega (arith, a)) in
    let one : 1 ≤ fill_count h = le-div 1 (allowed_end h - h.nxt) h.mss mss room in
    let bytes : 1 * 1 ≤ fill_count h * h.mss = mul-le 1 1 (fill_count h) h.mss one mss in
    let a = may.0 in
    omega (arith, a, bytes))
    flies

started_flies : (f : SenderFields) (now : ℕ) → IsSound f → f.high ≡ 0 → Flies (started f now).fields
unfolding started
started_flies f now sound none _ =
    let a = sound.una_nxt in
    let b = sound.nxt_high in
    let whole : 1 * f.mss ≤ total f = mul-le 1 f.mss f.segments f.mss sound.segments_least (omega arith) in
    let c = sound.cwnd_least in
    let d = sound.rwnd_least in
    fill_flies f now sound.mss_least (inr (a, omega (arith, a, b, none, whole, c, d)))

window_least : (f : SenderFields) (bytes : ℕ) → IsSound f → f.mss ≤ window_after f bytes
window_least f bytes sound = by f.recovery refl
  where
    most : f.mss ≤ 9000
    most = sound.mss_most

    by : (b : Bool) → f.recovery ≡ b → f.mss ≤ window_after f bytes
    by true on = subst (λ n. f.mss ≤ n) (sym (rw on refl)) sound.ssthresh_least
    by false off =
        let a = sound.cwnd_least in
        ⊎_elim
        (λ (below : f.cwnd < f.ssthresh). let is = slow_start f bytes off below in omega (arith, is, a, most))
        (λ (above : f.ssthresh ≤ f.cwnd). let is = avoidance f bytes off above in omega (arith, is, a, most))
        (cases_lt f.cwnd f.ssthresh)

new_flies : (f : SenderFields) (ack now : ℕ) → IsSound f → IsAckFor f ack now → Flies (new_acknowledgement f ack now).fields
new_flies f ack now sound is_ack below =
    let h = advanced f ack now in
    let same = measured_same f ack now in
    let mss = same.mss in
    let segments = same.segments in
    let rwnd = same.rwnd in
    let least = sound.mss_least in
    let whole : h.segments * h.mss ≡ f.segments * f.mss = λ i. segments i * mss i in
    let next : ack + f.mss ≤ f.segments * f.mss = multiple_below f.mss ack (f.segments * f.mss) least is_ack.multiple (mul-mod_left f.segments f.mss) (omega (arith, below, whole)) in
    let window = window_least f (ack - f.una) sound in
    let receiver = sound.rwnd_least in
    fill_flies h now (omega (arith, mss, least))
    (⊎_elim (λ (behind : ack < f.nxt). inl (omega (arith, behind))) (λ (all : f.nxt ≤ ack). inr (omega arith, omega (arith, all, next, whole, mss, window, receiver, rwnd))) (cases_lt ack f.nxt))

below_recover : (o : Option ℕ) (ack high : ℕ) → is_below ack o ≡ true → IfSome o (λ r. r ≤ high) → ack < high
below_recover None ack high e most = absurd (true≢false (sym e))
below_recover (Some r) ack high e most = let a = ltb-true ack r e in omega (arith, a, most)

partial_flies : (f : SenderFields) (ack now : ℕ) → IsSound f → is_partial f ack ≡ true → Flies (partial_acknowledgement f ack now).fields
partial_flies f ack now sound part =
    let h = partly f ack now in
    let outer = and_parts (is_newreno f) (f.recovery && is_below ack f.recover) part in
    let inner = and_parts f.recovery (is_below ack f.recover) outer.1 in
    let all : f.nxt ≡ f.high = (sound.newreno_recovery outer.0 inner.0).1 in
    let behind = below_recover f.recover ack f.high inner.1 sound.recover_most in
    by_test (λ (q : Planned). Flies q.fields) (may_send_new h (h.una + min h.cwnd h.rwnd)) _ _ (λ _ _. omega (arith, behind, all)) (λ _ _. omega (arith, behind, all))

ack_flies : (f : SenderFields) (ack now : ℕ) → IsSound f → IsAckFor f ack now → Flies f → Flies (acknowledged f ack now).fields
ack_flies f ack now sound is_ack was =
    let P : Planned → Type 0 = λ q. Flies q.fields in
    by_row P f ack now (λ _ _. new_flies f ack now sound is_ack) (λ _ part. partial_flies f ack now sound part) was
    (λ _. by_test P (may_send_new f (f.una + min (inflated f).cwnd f.rwnd)) _ _ (λ _ below. let a = was below in omega (arith, a)) (λ _. was))
    (λ _ _ _. was) (λ _ _. was)
    (λ _ _. by_test P (may_send_new f (f.una + min (f.cwnd + 2 * f.mss) f.rwnd)) _ _ (λ _ below. let a = was below in omega (arith, a)) (λ _. was)) (λ _ _. was)

timeout_flies : (f : SenderFields) (now : ℕ) → IsSound f → Flies (timed_out f now).fields
unfolding timed_out
timeout_flies f now sound _ = let least = sound.mss_least in omega (arith, least)

flies_kept : IsKeptByRows Flies
flies_kept = record { start = started_flies; timeout = λ f now sound _. timeout_flies f now sound; acknowledgement = ack_flies }

pub no_flow_hangs : NoFlowHangs
no_flow_hangs p n lines s is_scenario e number flow its =
    let F = (sound_run p n lines s is_scenario e).sound.each_flow number flow its in
    ⊎_elim (λ (none : HasNotStarted number lines). inl none)
    (λ (holds : (f : SenderFields) → (part_at s flow.sender).role ≡ Sends number f → Flies f).
    inr (record {
      sender = F.fields;
      receiver = F.received;
      sends = F.sender_role;
      receives = F.receiver_role;
      holds = λ below.
          let whole : F.fields.segments * F.fields.mss ≡ bytes_of_flow flow = λ i. F.its_segments i * F.its_mss i in
          let flies = holds F.fields F.sender_role (omega (arith, below, whole)) in
          record { flies = flies; timed = F.sound.deadline_flight.1 flies };
    }))
    (kept_along Flies flies_kept p n lines s is_scenario e number flow its)

-- within the receiver's window
abbrev Fits : SenderFields → Type 0
Fits f = f.high ≤ f.una + f.rwnd

pub record GoesUp (f g : SenderFields) : Type 0 where
  pub una : f.una ≤ g.una
  pub rwnd : g.rwnd ≡ f.rwnd

stays_within : (f g : SenderFields) (bound : ℕ) → GoesUp f g → (g.high ≡ f.high) ⊎ (g.high ≤ g.una + min bound g.rwnd) → Fits f → Fits g
stays_within f g bound up fits was =
    let a = up.una in
    let b = up.rwnd in
    ⊎_elim (λ (same : g.high ≡ f.high). omega (arith, same, was, a, b)) (λ (within : g.high ≤ g.una + min bound g.rwnd). omega (arith, within)) fits

ack_goes_up : (f : SenderFields) (ack now : ℕ) → GoesUp f (acknowledged f ack now).fields
ack_goes_up f ack now =
    let P : Planned → Type 0 = λ q. GoesUp f q.fields in
    let same : GoesUp f f = record { una = omega arith; rwnd = refl } in
    let measured = (measured_same f ack now).rwnd in
    let h = partly f ack now in
    by_row P f ack now (λ new _. record { una = omega (arith, new); rwnd = measured })
    (λ new _. by_test P (may_send_new h (h.una + min h.cwnd h.rwnd)) _ _ (λ _. record { una = omega (arith, new); rwnd = measured }) (λ _. record { una = omega (arith, new); rwnd = measured }))
    same
    (λ _. by_test P (may_send_new f (f.una + min (inflated f).cwnd f.rwnd)) _ _ (λ _. record { una = omega arith; rwnd = refl }) (λ _. record { una = omega arith; rwnd = refl }))
    (λ _ _ _. record { una = omega arith; rwnd = refl }) (λ _ _. record { una = omega arith; rwnd = refl })
    (λ _ _. by_test P (may_send_new f (f.una + min (f.cwnd + 2 * f.mss) f.rwnd)) _ _ (λ _. record { una = omega arith; rwnd = refl }) (λ _. record { una = omega arith; rwnd = refl }))
    (λ _ _. record { una = omega arith; rwnd = refl })

started_within : (f : SenderFields) (now : ℕ) → IsSound f → f.high ≡ 0 → Fits (started f now).fields
unfolding started
started_within f now sound none = stays_within f (started f now).fields f.cwnd (record { una = omega arith; rwnd = refl }) (started_fits f now sound) (omega (arith, none))

timeout_within : (f : SenderFields) (now : ℕ) → IsSound f → Fits f → Fits (timed_out f now).fields
unfolding timed_out
timeout_within f now sound was = stays_within f (timed_out f now).fields f.mss (record { una = omega arith; rwnd = refl }) (timeout_fits f now sound) was

ack_within : (f : SenderFields) (ack now : ℕ) → IsSound f → IsAckFor f ack now → Fits f → Fits (acknowledged f ack now).fields
ack_within f ack now sound is_ack was = by (acknowledged f ack now) (ack_goes_up f ack now) (ack_fits f ack now sound is_ack)
  where
    by : (q : Planned) → GoesUp f q.fields → FitsAtAck f ack q → Fits q.fields
    by q up (inl fits) = stays_within f q.fields q.fields.cwnd up fits was
    by q up (inr (_, within)) = stays_within f q.fields (q.fields.cwnd + 2 * q.fields.mss) up (inr within) was

pub sends_within_window : SendsWithinWindow
sends_within_window p n lines s is_scenario e number flow its =
    let sound = (sound_run p n lines s is_scenario e).sound in
    let F = sound.each_flow number flow its in
    let rwnd = F.its_rwnd in
    record {
      sender = F.fields;
      receiver = F.received;
      sends = F.sender_role;
      receives = F.receiver_role;
      holds =
          ⊎_elim
          (λ (none : HasNotStarted number lines). let high = ap high_of (sym F.sender_role) ∙ sound.unstarted number flow its (sound.starts.waits number flow its none) in omega (arith, high))
          (λ (holds : (f : SenderFields) → (part_at s flow.sender).role ≡ Sends number f → Fits f). let a = holds F.fields F.sender_role in omega (arith, a, rwnd))
          (kept_along Fits (record { start = started_within; timeout = timeout_within; acknowledgement = ack_within }) p n lines s is_scenario e number flow its);
    }
