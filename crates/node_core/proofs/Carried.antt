-- From what was decided and carried out to the rows.
use Rattle.std.proofs.Common.{◌≡◌, inl, inr, ℕ, ◌<◌, List, [], ◌∷◌, ◌++◌, get_or, set, length, Option, None, sym, ap, subst, ◌∙◌, arith, append-nil}
use Rattle.std.specs.Option.{option_map}
use Rattle.sim_time.specs.declared.key.Key.{Key}
use Rattle.packet_chain.specs.Stamped.{Stamped}
use Rattle.port.specs.declared.acts.Act.{Act}
use Rattle.port.specs.Port.{PortStep, offered_all, taken}
use Rattle.node_core.specs.declared.timer.Timer.{Timer}
use Rattle.node_core.specs.declared.timer.Timer.TheVariants.{Retransmission, DelayedAcknowledgement}
use Rattle.node_core.specs.declared.decision.Decision.{Decision}
use Rattle.node_core.specs.declared.decision.Decision.TheVariants.{Leave, PassOn, TakeNext, Send}
use Rattle.node_core.specs.declared.event.Event.{Event}
use Rattle.node_core.specs.declared.event.Event.TheVariants.{Start, Rto, DelAck, Free, Arrive}
use Rattle.node_core.specs.declared.role.Role.{Role}
use Rattle.node_core.specs.declared.role.Role.TheVariants.{Sends, Receives}
use Rattle.node_core.specs.Timers.{timer_number, timer_key}
use Rattle.node_core.specs.EventQueueState.{EventQueueState, IsTimer, IsDueAs}
use Rattle.node_core.specs.CarriedOut.{IsNextEvent, HasPassed, IsCarriedOut}
use Rattle.node_core.specs.Decided.{arriving, sent_by_end, end_timer_event, end_timer_of, decided_effect, CanLeave, CanMove, CanDo, IsEndTimerOf, of_sender, of_receiver, Suits, IsDecided}
use Rattle.node_core.specs.InStep.{IsInStep, flow_of, frees_of}
use Rattle.node_core.specs.Part.{LinkState, link_at}
use Rattle.node_core.specs.Passing.{passed, after_take, moved_to}
use Rattle.node_core.specs.Row.{Effect, Leaving, leaving_over, quiet, row, timer_moved, with_step}
use Rattle.node_core.specs.Node.{put_out}
use Rattle.node_core.specs.Running.{HasRun, IsTimed, part}
use Rattle.node_core.proofs.Passages.{all_link, taken_link}
use Rattle.node_core.proofs.Steps.{sender_runs, receiver_runs, pass_runs, arrival_timers, free_timers, quiet_runs}

-- an event is run, with what it did and where a packet left
pub record Ran (key : Key) (effect : Effect) (role : Role) (links : List LinkState) (before after : EventQueueState) (chains filled : List (List Stamped)) (acts done : List Act) (left : Option ℕ) : Type 0 where
  pub has_run : HasRun key effect role links before after chains filled
  pub did : done ≡ acts ++ effect.acts
  pub leaves : left ≡ option_map (λ (leaving : Leaving). leaving.index) effect.leaving

timed_start : (event_queue : EventQueueState) (key : Key) (event : Event) → IsDueAs event_queue key event → CanLeave event → IsTimed event_queue key 0
timed_start event_queue key (Start flow) due can = inr (inl due)
timed_start event_queue key (Rto flow) due can = absurd can
timed_start event_queue key (DelAck flow) due can = absurd can
timed_start event_queue key (Free link) due can = absurd can
timed_start event_queue key (Arrive packet) due can = inl due

timed_sender : (event_queue : EventQueueState) (key : Key) (event : Event) → IsDueAs event_queue key event → CanMove Retransmission event → IsTimed event_queue key 1
timed_sender event_queue key (Start flow) due can = inr (inl due)
timed_sender event_queue key (Rto flow) due can = inr (inr due)
timed_sender event_queue key (DelAck flow) due can = absurd (cc)
timed_sender event_queue key (Free link) due can = absurd can
timed_sender event_queue key (Arrive packet) due can = inl due

timed_receiver : (event_queue : EventQueueState) (key : Key) (event : Event) → IsDueAs event_queue key event → CanMove DelayedAcknowledgement event → IsTimed event_queue key 2
timed_receiver event_queue key (Start flow) due can = inr (inl due)
timed_receiver event_queue key (Rto flow) due can = absurd (cc)
timed_receiver event_queue key (DelAck flow) due can = inr (inr due)
timed_receiver event_queue key (Free link) due can = absurd can
timed_receiver event_queue key (Arrive packet) due can = inl due

module _ (links all : List LinkState) (before after : EventQueueState) (chains filled : List (List Stamped)) (key : Key) where
  -- an end's packets have passed its link, and its timer has moved
  abbrev HasSent : PortStep → Role → Role → Timer → Option ℕ → Type 0
  HasSent step old new timer time = HasRun key (with_step (part old links) new (timer_moved (timer_key key.node timer) (end_timer_event (flow_of old) timer) (end_timer_of old timer) time) 0 step) new all before after chains filled

  sent_runs : (step : PortStep) (event : Event) (old new : Role) (timer : Timer) (time : Option ℕ) → IsInStep old links before → key.node ≡ before.owner.node → IsDueAs before key event → CanMove timer event
      → step.port.link ≡ (link_at links 0).port.link → all ≡ set links 0 (record (link_at links 0) { port = step.port })
      → after ≡ passed (moved_to (after_take before key) (timer_number timer) time) 0 step → filled ≡ put_out (leaving_over 0 step.departure) chains
      → IsEndTimerOf old new timer time → HasSent step old new timer time
  sent_runs step event old new timer time is at due can same all_is after_is out_is (of_sender flow fields planned old_is new_is timer_is time_is) =
      let base : HasSent step (Sends flow fields) (Sends flow planned) Retransmission planned.deadline =
      sender_runs flow fields planned links before (subst (λ (r : Role). IsInStep r links before) old_is is) key at (timed_sender before key event due (subst (λ (a : Timer). CanMove a event) timer_is can))
      step same all after chains filled all_is
      (after_is ∙ ap (λ (a : Timer). passed (moved_to (after_take before key) (timer_number a) time) 0 step) timer_is ∙ ap (λ (t : Option ℕ). passed (moved_to (after_take before key) 1 t) 0 step) time_is) out_is in
      subst (λ (r : Role). HasSent step r new timer time) (sym old_is)
      (subst (λ (n : Role). HasSent step (Sends flow fields) n timer time) (sym new_is)
      (subst (λ (a : Timer). HasSent step (Sends flow fields) (Sends flow planned) a time) (sym timer_is)
      (subst (λ (t : Option ℕ). HasSent step (Sends flow fields) (Sends flow planned) Retransmission t) (sym time_is) base)))
  sent_runs step event old new timer time is at due can same all_is after_is out_is (of_receiver flow state answered old_is new_is timer_is time_is) =
      let base : HasSent step (Receives flow state) (Receives flow answered) DelayedAcknowledgement answered.timer =
      receiver_runs flow state answered links before (subst (λ (r : Role). IsInStep r links before) old_is is) key at (timed_receiver before key event due (subst (λ (a : Timer). CanMove a event) timer_is can))
      step same all after chains filled all_is
      (after_is ∙ ap (λ (a : Timer). passed (moved_to (after_take before key) (timer_number a) time) 0 step) timer_is ∙ ap (λ (t : Option ℕ). passed (moved_to (after_take before key) 2 t) 0 step) time_is) out_is in
      subst (λ (r : Role). HasSent step r new timer time) (sym old_is)
      (subst (λ (n : Role). HasSent step (Receives flow state) n timer time) (sym new_is)
      (subst (λ (a : Timer). HasSent step (Receives flow state) (Receives flow answered) a time) (sym timer_is)
      (subst (λ (t : Option ℕ). HasSent step (Receives flow state) (Receives flow answered) DelayedAcknowledgement t) (sym time_is) base)))

module _ (old new : Role) (links all : List LinkState) (before after : EventQueueState) (chains filled : List (List Stamped)) (acts done : List Act) (left : Option ℕ) (key : Key) (event : Event) (room : ℕ) (is : IsInStep old links before) (next : IsNextEvent key event links before chains) where
  -- the role stays, and packets have passed a link
  passes : (index : ℕ) → index < length links → (step : PortStep) → step.port.link ≡ (link_at links index).port.link → (was : Option ℕ) → new ≡ old
      → Rattle.node_core.specs.EventQueueState.cleared key before.timers ≡ get_or before.timers 0 None ∷ Rattle.node_core.specs.InStep.rto_deadline old ∷ Rattle.node_core.specs.InStep.delayed_of old ∷ set (frees_of links) index was
      → HasPassed index step links all (after_take before key) after chains filled acts done left
      → Ran key (with_step (part old links) new [] index step) new all before after chains filled acts done left
  passes index within step same was stays timers passed_it = record {
    has_run = subst (λ (r : Role). HasRun key (with_step (part old links) r [] index step) r all before after chains filled) (sym stays)
        (pass_runs old links before is key index within (get_or before.timers 0 None) was timers step same all after chains filled passed_it.links_are passed_it.event_queue_is passed_it.out_is);
    did = passed_it.acts_are;
    leaves = passed_it.left_is;
  }

  carried : (decision : Decision) → Suits old new event decision → CanDo key event links room decision → IsCarriedOut key event decision links all before after chains filled acts done left
      → Ran key (decided_effect (part old links) new key event decision) new all before after chains filled acts done left
  carried Leave suits can out = record {
    has_run = subst (λ (r : Role). HasRun key (quiet (part old links)) r all before after chains filled) (sym suits.0)
        (subst (λ (l : List LinkState). HasRun key (quiet (part old links)) old l before after chains filled) (sym out.links_are)
        (subst (λ (f : List (List Stamped)). HasRun key (quiet (part old links)) old links before after chains f) (sym out.out_is)
        (quiet_runs old links before is key (timed_start before key event next.due suits.1) after out.event_queue_is chains)));
    did = out.acts_are ∙ sym (append-nil acts);
    leaves = out.left_is;
  }
  carried (PassOn index) suits can out =
      let due : IsDueAs before key (Arrive can.arrives.0) = subst (IsDueAs before key) can.arrives.1 next.due in
      passes index can.within (offered_all key.time (link_at links index).port (arriving event)) (all_link key.time (link_at links index).port (arriving event)) (get_or (frees_of links) index None) suits
      (arrival_timers old links before is key index can.within due) out
  carried (TakeNext index) suits can out =
      let due : IsDueAs before key (Free can.frees.0) = subst (IsDueAs before key) can.frees.1 next.due in
      passes index can.within (taken key.time (link_at links index).port) (taken_link key.time (link_at links index).port) None suits
      (free_timers old links before is key index can.within due.1 (omega (arith, can.number))) out
  carried (Send sending) suits can out = record {
    has_run = sent_runs links all before after chains filled key (offered_all key.time (link_at links 0).port (sent_by_end sending)) event old new sending.timer sending.time is next.at_node next.due can.moves
        (all_link key.time (link_at links 0).port (sent_by_end sending)) out.links_are out.event_queue_is out.out_is suits;
    did = out.acts_are;
    leaves = out.left_is;
  }

  -- what was decided and carried out is the row
  pub ran : (decision : Decision) → IsDecided old new links key event room decision
      → (line_key : Key) (line_event : Event) (line_acts : List Act) → line_key ≡ key → line_event ≡ event → line_acts ≡ acts → IsCarriedOut line_key line_event decision links all before after chains filled line_acts done left
      → Ran key (row (part old links) key event) new all before after chains filled acts done left
  ran decision decided line_key line_event line_acts key_is event_is acts_are out =
      let out_k = subst (λ (k : Key). IsCarriedOut k line_event decision links all before after chains filled line_acts done left) key_is out in
      let out_e = subst (λ (e : Event). IsCarriedOut key e decision links all before after chains filled line_acts done left) event_is out_k in
      let out_a = subst (λ (a : List Act). IsCarriedOut key event decision links all before after chains filled a done left) acts_are out_e in
      subst (λ (e : Effect). Ran key e new all before after chains filled acts done left) (sym decided.row_is) (carried decision decided.suits decided.can out_a)
