-- From what was done to a link and an event queue to the rows.
use Rattle.std.proofs.Common.{◌≡◌, ◌≢◌, ◌⊎◌, ℕ, zero, suc, ◌+◌, ◌<◌, cond, true, false, List, [], ◌∷◌, ◌++◌, get_or, set, length, Option, Some, None, refl, sym, ap, subst, ◌∙◌, arith, append-nil, ⊎_elim}
use Rattle.std.proofs.lemmas.Bool.{ne_eqb}
use Rattle.std.proofs.lemmas.List.{length-set, map-set, set-get_or, get_or-set_same, get_or-set_other, length-map}
use Rattle.std.proofs.Math.Seq.{map-set_same}
use Rattle.std.specs.FinMap as fin
use Rattle.std.specs.Ordering.{eq_by_cmp}
use Rattle.sim_time.specs.declared.key.Key.{Key}
use Rattle.sim_time.specs.Keys.{key_cmp}
use Rattle.packet_chain.specs.Stamped.{Stamped}
use Rattle.tournament.specs.Keyed.{apply, changed}
use Rattle.tournament.proofs.Maps.{same_at, get-changed}
use Rattle.packet_chain.specs.declared.packet.Packet.{Packet}
use Rattle.reno_sender.specs.declared.fields.SenderFields.{SenderFields}
use Rattle.reno_receiver.specs.Received.{ReceiverState}
use Rattle.port.specs.Port.{PortState, PortStep, Departure, departed, offered_one, offered_all}
use Rattle.port.specs.declared.acts.Act.{Act}
use Rattle.std.specs.Option.{option_or}
use Rattle.node_core.specs.declared.event.Event.TheVariants.{Free, Rto, DelAck}
use Rattle.node_core.specs.declared.role.Role.{Role}
use Rattle.node_core.specs.declared.role.Role.TheVariants.{Sends, Receives, Routes}
use Rattle.node_core.specs.declared.timer.Timer.TheVariants.{Retransmission, DelayedAcknowledgement}
use Rattle.node_core.specs.Pending.{Events, EventChange}
use Rattle.node_core.specs.Timers.{numbered_key, timer_cleared, timer_set, timer_key}
use Rattle.node_core.specs.EventQueueState.{EventQueueState, IsTimer, cleared, timer_event}
use Rattle.node_core.specs.Part.{LinkState, link_at, no_link}
use Rattle.node_core.specs.Passing.{busied, passed, after_take, moved_to}
use Rattle.node_core.specs.InStep.{IsInStep, timers_of, frees_of, rto_deadline, delayed_of, flow_of, HasItsLink}
use Rattle.node_core.specs.Row.{with_step, leaving_over, made_at_home, quiet, timer_moved}
use Rattle.node_core.specs.Node.{put_out}
use Rattle.node_core.specs.Running.{HasRun, IsTimed, part}
use Rattle.node_core.proofs.Slots.{cleared_timer, same_event_queue}

pub apply-append : (cs ds : List EventChange) (m : Events) → apply (cs ++ ds) m ≡ apply ds (apply cs m)
apply-append [] ds m = refl
apply-append (c ∷ cs) ds m = apply-append cs ds (changed m c.0 c.1)

pub remove_again : (m : Events) (k : Key) → fin.remove (fin.remove m k) k ≡ fin.remove m k
remove_again m k = same_at (changed (changed m k None) k None) (changed m k None) (λ q.
    get-changed (changed m k None) k None q
    ∙ elim (eq_by_cmp key_cmp q k) as (λ b. eq_by_cmp key_cmp q k ≡ b → cond b None (fin.get (changed m k None) q) ≡ fin.get (changed m k None) q) [
      | true ↦ λ t. sym (get-changed m k None q ∙ ap (λ b. cond b None (fin.get m q)) t)
      | false ↦ λ _. refl
    ] refl)

pub set-set : {A : Type 0} (xs : List A) (i : ℕ) (a b : A) → set (set xs i a) i b ≡ set xs i b
set-set [] i a b = refl
set-set (x ∷ xs) zero a b = refl
set-set (x ∷ xs) (suc i) a b = ap (λ ys. x ∷ ys) (set-set xs i a b)

-- the link's chain gets what departs
pub put_is : (chains : List (List Stamped)) (index : ℕ) (d : Option Departure) → set chains index (get_or chains index [] ++ departed d) ≡ put_out (leaving_over index d) chains
put_is chains index None = ap (set chains index) (append-nil (get_or chains index [])) ∙ set-get_or chains index []
put_is chains index (Some d) = refl

-- the link is busy, as the row says it
made_is : (node index : ℕ) (links : List LinkState) (new : LinkState) (step : PortStep) (link : ℕ) → index < length links → new.port.link ≡ link → (d : Option Departure)
    → made_at_home node (set links index new) (leaving_over index d) ≡ busied node index link d
made_is node index links new step link within same None = refl
made_is node index links new step link within same (Some d) =
    ap (λ (l : ℕ). (numbered_key node (3 + index) d.free, Some (Free l)) ∷ []) (ap (λ (x : LinkState). x.port.link) (get_or-set_same links index new no_link within) ∙ same)

module _ (role : Role) (links : List LinkState) (before : EventQueueState) (is : IsInStep role links before) (key : Key) (index : ℕ) (within : index < length links) where
  -- once a timer has moved and packets passed a link, the row is done
  pub step_runs : (new_role : Role) (timer_changes : List EventChange) (step : PortStep) (new : LinkState) (middle after : EventQueueState) (start was : Option ℕ) (chains filled : List (List Stamped))
      → flow_of new_role ≡ flow_of role → HasItsLink new_role (set links index new)
      → new ≡ record (link_at links index) { port = step.port } → step.port.link ≡ (link_at links index).port.link
      → middle.owner ≡ before.owner → middle.incoming ≡ before.incoming → middle.pending ≡ apply timer_changes (fin.remove before.pending key)
      → middle.timers ≡ start ∷ rto_deadline new_role ∷ delayed_of new_role ∷ set (frees_of links) index was
      → after ≡ passed middle index step → filled ≡ put_out (leaving_over index step.departure) chains
      → HasRun key (with_step (part role links) new_role timer_changes index step) new_role (set links index new) before after chains filled
  step_runs new_role timer_changes step new middle after start was chains filled flow linked new_is same_link owner incoming pending timers after_is out =
      let all = set links index new in
      let link_is : new.port.link ≡ step.port.link = ap (λ (x : LinkState). x.port.link) new_is in
      let after_timers : after.timers ≡ start ∷ rto_deadline new_role ∷ delayed_of new_role ∷ frees_of all =
      ap (λ (s : EventQueueState). s.timers) after_is
      ∙ ap (λ (a : List (Option ℕ)). set a (3 + index) step.port.next_free) timers
      ∙ ap (λ n. set (start ∷ rto_deadline new_role ∷ delayed_of new_role ∷ set (frees_of links) index was) n step.port.next_free) {x = 3 + index} {y = suc (suc (suc index))} (omega arith)
      ∙ ap (λ f. start ∷ rto_deadline new_role ∷ delayed_of new_role ∷ f)
      (set-set (frees_of links) index was step.port.next_free ∙ ap (set (frees_of links) index) (ap (λ (x : LinkState). x.port.next_free) (sym new_is)) ∙ sym (map-set (λ (x : LinkState). x.port.next_free) links index new)) in
      record {
        part_is = ap (λ (x : LinkState). part new_role (set links index x)) new_is;
        pending = ap (λ (s : EventQueueState). s.pending) after_is
            ∙ ap (λ (o : Rattle.node_core.specs.EventQueueState.Owner). apply (busied o.node index step.port.link step.departure) middle.pending) owner
            ∙ ap (apply (busied before.owner.node index step.port.link step.departure)) pending
            ∙ sym (apply-append timer_changes (busied before.owner.node index step.port.link step.departure) (fin.remove before.pending key))
            ∙ ap (λ (cs : List EventChange). apply (timer_changes ++ cs) (fin.remove before.pending key))
            (sym (made_is before.owner.node index links (record (link_at links index) { port = step.port }) step step.port.link within refl step.departure));
        incoming = ap (λ (s : EventQueueState). s.incoming) after_is ∙ incoming;
        owner = ap (λ (s : EventQueueState). s.owner) after_is ∙ owner;
        in_step = record {
          timers = after_timers ∙ ap (λ s. s ∷ rto_deadline new_role ∷ delayed_of new_role ∷ frees_of all) (sym (ap (λ (a : List (Option ℕ)). get_or a 0 None) after_timers));
          exits = ap (λ (s : EventQueueState). s.owner.exits) after_is ∙ ap (λ (o : Rattle.node_core.specs.EventQueueState.Owner). o.exits) owner ∙ is.exits
              ∙ sym (map-set_same (λ (x : LinkState). x.port.link) links index new no_link (link_is ∙ same_link));
          flow = ap (λ (s : EventQueueState). s.owner.flow) after_is ∙ ap (λ (o : Rattle.node_core.specs.EventQueueState.Owner). o.flow) owner ∙ is.flow ∙ sym flow;
          linked = linked;
          few = omega (arith, is.few, length-set links index new);
        };
        out = out;
      }

pub cleared_other : (key : Key) (timers : List (Option ℕ)) → key.source ≢ 0 → cleared key timers ≡ timers
cleared_other key timers apart = ap (λ b. cond b (set timers key.number None) timers) (ne_eqb key.source 0 apart)

same_key : (key : Key) (node number : ℕ) → key.node ≡ node → key.source ≡ 0 → key.number ≡ number → numbered_key node number key.time ≡ key
same_key key node number at source is i = record { time = key.time; node = sym at i; source = sym source i; number = sym is i }

-- a timer is taken out, and if it was the event of the key, it has left already
pub rto_timer_out : (event_queue : EventQueueState) (key : Key) (number : ℕ) → 0 < number → number < length event_queue.timers → key.node ≡ event_queue.owner.node → IsTimed event_queue key number → (rest : List EventChange)
    → apply (timer_cleared (numbered_key event_queue.owner.node number) (get_or (cleared key event_queue.timers) number None) ++ rest) (fin.remove event_queue.pending key)
    ≡ apply (timer_cleared (numbered_key event_queue.owner.node number) (get_or event_queue.timers number None) ++ rest) (fin.remove event_queue.pending key)
rto_timer_out event_queue key number some within at timed rest =
    let goes : Option ℕ → Events = λ old. apply (timer_cleared (numbered_key event_queue.owner.node number) old ++ rest) (fin.remove event_queue.pending key) in
    ⊎_elim
    (λ (other : key.source ≢ 0). ap (λ a. goes (get_or a number None)) (cleared_other key event_queue.timers other))
    (λ (timer : IsTimer event_queue key 0 ⊎ IsTimer event_queue key number).
    ⊎_elim
    (λ (start : IsTimer event_queue key 0). ap (λ a. goes (get_or a number None)) (cleared_timer key event_queue.timers 0 start.source start.number_is) ∙ ap goes (get_or-set_other event_queue.timers 0 number None None (λ e. omega (arith, e, some))))
    (λ (own : IsTimer event_queue key number).
    ap (λ a. goes (get_or a number None)) (cleared_timer key event_queue.timers number own.source own.number_is)
    ∙ ap goes (get_or-set_same event_queue.timers number None None within)
    ∙ ap (apply rest) (sym (ap (fin.remove (fin.remove event_queue.pending key)) (same_key key event_queue.owner.node number at own.source own.number_is) ∙ remove_again event_queue.pending key))
    ∙ ap goes (sym own.set_for))
    timer)
    timed

-- a timer's own event leaves as the timer is set anew
pub renewed : (event_queue : EventQueueState) (key : Key) (which : ℕ) (time : Option ℕ) → key.node ≡ event_queue.owner.node → IsTimer event_queue key which → moved_to event_queue which time ≡ moved_to (after_take event_queue key) which time
renewed event_queue key which time at own =
    let set_it = timer_set (numbered_key event_queue.owner.node which) (timer_event event_queue.owner which) time in
    let gone : cleared key event_queue.timers ≡ set event_queue.timers which None = cleared_timer key event_queue.timers which own.source own.number_is in
    same_event_queue event_queue.owner (sym (ap (λ a. set a which time) gone ∙ set-set event_queue.timers which None time)) refl
    (ap (λ old. apply (timer_cleared (numbered_key event_queue.owner.node which) old ++ set_it) event_queue.pending) own.set_for
    ∙ ap (λ k. apply set_it (fin.remove event_queue.pending k)) (same_key key event_queue.owner.node which at own.source own.number_is)
    ∙ ap (λ old. apply (timer_cleared (numbered_key event_queue.owner.node which) old ++ set_it) (fin.remove event_queue.pending key)) (sym (ap (λ a. get_or a which None) gone ∙ get_or-set_same event_queue.timers which None None own.within)))

-- the timers, once the event has left and the timer is set
pub sender_timers : (event_queue : EventQueueState) (key : Key) (s r d time : Option ℕ) (frees : List (Option ℕ)) → event_queue.timers ≡ s ∷ r ∷ d ∷ frees → IsTimed event_queue key 1 → (start : Option ℕ) × (set (cleared key event_queue.timers) 1 time ≡ start ∷ time ∷ d ∷ frees)
sender_timers event_queue key s r d time frees are timed =
    ⊎_elim
    (λ (other : key.source ≢ 0). (s, ap (λ a. set a 1 time) (cleared_other key event_queue.timers other ∙ are)))
    (λ (timer : IsTimer event_queue key 0 ⊎ IsTimer event_queue key 1).
    ⊎_elim
    (λ (own : IsTimer event_queue key 0). (None, ap (λ a. set a 1 time) (cleared_timer key event_queue.timers 0 own.source own.number_is ∙ ap (λ a. set a 0 None) are)))
    (λ (own : IsTimer event_queue key 1). (s, ap (λ a. set a 1 time) (cleared_timer key event_queue.timers 1 own.source own.number_is ∙ ap (λ a. set a 1 None) are)))
    timer)
    timed

pub receiver_timers : (event_queue : EventQueueState) (key : Key) (s r d time : Option ℕ) (frees : List (Option ℕ)) → event_queue.timers ≡ s ∷ r ∷ d ∷ frees → IsTimed event_queue key 2 → (start : Option ℕ) × (set (cleared key event_queue.timers) 2 time ≡ start ∷ r ∷ time ∷ frees)
receiver_timers event_queue key s r d time frees are timed =
    ⊎_elim
    (λ (other : key.source ≢ 0). (s, ap (λ a. set a 2 time) (cleared_other key event_queue.timers other ∙ are)))
    (λ (timer : IsTimer event_queue key 0 ⊎ IsTimer event_queue key 2).
    ⊎_elim
    (λ (own : IsTimer event_queue key 0). (None, ap (λ a. set a 2 time) (cleared_timer key event_queue.timers 0 own.source own.number_is ∙ ap (λ a. set a 0 None) are)))
    (λ (own : IsTimer event_queue key 2). (s, ap (λ a. set a 2 time) (cleared_timer key event_queue.timers 2 own.source own.number_is ∙ ap (λ a. set a 2 None) are)))
    timer)
    timed

has_link : (role : Role) (links : List LinkState) (i : ℕ) (new : LinkState) → HasItsLink role links → HasItsLink role (set links i new)
has_link (Sends flow fields) links i new some = omega (arith, some, length-set links i new)
has_link (Receives flow state) links i new some = omega (arith, some, length-set links i new)
has_link (Routes table) links i new some = tt

-- packets of a sender pass its link, and its timer moves
module _ (flow : ℕ) (fields planned : SenderFields) (links : List LinkState) (before : EventQueueState) (is : IsInStep (Sends flow fields) links before) (key : Key) (at : key.node ≡ before.owner.node) (timed : IsTimed before key 1) where
  long : 3 < length before.timers
  long = omega (arith, ap length is.timers, length-map links (λ (l : LinkState). l.port.next_free), is.linked)

  pub sender_runs : (step : PortStep) → step.port.link ≡ (link_at links 0).port.link → (all : List LinkState) (after : EventQueueState) (chains filled : List (List Stamped))
      → all ≡ set links 0 (record (link_at links 0) { port = step.port }) → after ≡ passed (moved_to (after_take before key) 1 planned.deadline) 0 step → filled ≡ put_out (leaving_over 0 step.departure) chains
      → HasRun key (with_step (part (Sends flow fields) links) (Sends flow planned) (timer_moved (timer_key key.node Retransmission) (Rto flow) fields.deadline planned.deadline) 0 step) (Sends flow planned) all before after chains filled
  sender_runs step same all after chains filled all_is after_is out_is =
      let moved = sender_timers before key (get_or before.timers 0 None) fields.deadline None planned.deadline (frees_of links) is.timers timed in
      let set_it : List EventChange = timer_set (numbered_key before.owner.node 1) (timer_event before.owner 1) planned.deadline in
      let gone = fin.remove before.pending key in
      let new : LinkState = record (link_at links 0) { port = step.port } in
      let timer_changes = timer_moved (timer_key key.node Retransmission) (Rto flow) fields.deadline planned.deadline in
      subst (λ (l : List LinkState). HasRun key (with_step (part (Sends flow fields) links) (Sends flow planned) timer_changes 0 step) (Sends flow planned) l before after chains filled) (sym all_is)
      (step_runs (Sends flow fields) links before is key 0 is.linked (Sends flow planned) timer_changes step new (moved_to (after_take before key) 1 planned.deadline) after moved.0 (get_or (frees_of links) 0 None) chains filled
      refl (has_link (Sends flow planned) links 0 new is.linked) refl same refl refl
      (rto_timer_out before key 1 (omega arith) (omega (arith, long)) at timed set_it
      ∙ ap (λ (d : Option ℕ). apply (timer_cleared (numbered_key before.owner.node 1) d ++ set_it) gone) (ap (λ (a : List (Option ℕ)). get_or a 1 None) is.timers)
      ∙ ap (λ f. apply (timer_cleared (numbered_key before.owner.node 1) fields.deadline ++ timer_set (numbered_key before.owner.node 1) (Rto f) planned.deadline) gone) is.flow
      ∙ ap (λ n. apply (timer_moved (numbered_key n 1) (Rto flow) fields.deadline planned.deadline) gone) (sym at))
      (moved.1 ∙ ap (λ f. moved.0 ∷ planned.deadline ∷ None ∷ f) (sym (set-get_or (frees_of links) 0 None)))
      after_is out_is)

-- packets of a receiver pass its link, and its timer moves
module _ (flow : ℕ) (state answered : ReceiverState) (links : List LinkState) (before : EventQueueState) (is : IsInStep (Receives flow state) links before) (key : Key) (at : key.node ≡ before.owner.node) (timed : IsTimed before key 2) where
  long_there : 3 < length before.timers
  long_there = omega (arith, ap length is.timers, length-map links (λ (l : LinkState). l.port.next_free), is.linked)

  pub receiver_runs : (step : PortStep) → step.port.link ≡ (link_at links 0).port.link → (all : List LinkState) (after : EventQueueState) (chains filled : List (List Stamped))
      → all ≡ set links 0 (record (link_at links 0) { port = step.port }) → after ≡ passed (moved_to (after_take before key) 2 answered.timer) 0 step → filled ≡ put_out (leaving_over 0 step.departure) chains
      → HasRun key (with_step (part (Receives flow state) links) (Receives flow answered) (timer_moved (timer_key key.node DelayedAcknowledgement) (DelAck flow) state.timer answered.timer) 0 step) (Receives flow answered) all before after chains filled
  receiver_runs step same all after chains filled all_is after_is out_is =
      let moved = receiver_timers before key (get_or before.timers 0 None) None state.timer answered.timer (frees_of links) is.timers timed in
      let set_it : List EventChange = timer_set (numbered_key before.owner.node 2) (timer_event before.owner 2) answered.timer in
      let gone = fin.remove before.pending key in
      let new : LinkState = record (link_at links 0) { port = step.port } in
      let timer_changes = timer_moved (timer_key key.node DelayedAcknowledgement) (DelAck flow) state.timer answered.timer in
      subst (λ (l : List LinkState). HasRun key (with_step (part (Receives flow state) links) (Receives flow answered) timer_changes 0 step) (Receives flow answered) l before after chains filled) (sym all_is)
      (step_runs (Receives flow state) links before is key 0 is.linked (Receives flow answered) timer_changes step new (moved_to (after_take before key) 2 answered.timer) after moved.0 (get_or (frees_of links) 0 None) chains filled
      refl (has_link (Receives flow answered) links 0 new is.linked) refl same refl refl
      (rto_timer_out before key 2 (omega arith) (omega (arith, long_there)) at timed set_it
      ∙ ap (λ (d : Option ℕ). apply (timer_cleared (numbered_key before.owner.node 2) d ++ set_it) gone) (ap (λ (a : List (Option ℕ)). get_or a 2 None) is.timers)
      ∙ ap (λ f. apply (timer_cleared (numbered_key before.owner.node 2) state.timer ++ timer_set (numbered_key before.owner.node 2) (DelAck f) answered.timer) gone) is.flow
      ∙ ap (λ n. apply (timer_moved (numbered_key n 2) (DelAck flow) state.timer answered.timer) gone) (sym at))
      (moved.1 ∙ ap (λ f. moved.0 ∷ None ∷ answered.timer ∷ f) (sym (set-get_or (frees_of links) 0 None)))
      after_is out_is)

-- packets pass a link, and no timer moves
module _ (role : Role) (links : List LinkState) (before : EventQueueState) (is : IsInStep role links before) (key : Key) (index : ℕ) (within : index < length links) where
  pub pass_runs : (start was : Option ℕ) → cleared key before.timers ≡ start ∷ rto_deadline role ∷ delayed_of role ∷ set (frees_of links) index was
      → (step : PortStep) → step.port.link ≡ (link_at links index).port.link → (all : List LinkState) (after : EventQueueState) (chains filled : List (List Stamped))
      → all ≡ set links index (record (link_at links index) { port = step.port }) → after ≡ passed (after_take before key) index step → filled ≡ put_out (leaving_over index step.departure) chains
      → HasRun key (with_step (part role links) role [] index step) role all before after chains filled
  pass_runs start was timers step same all after chains filled all_is after_is out_is =
      let new : LinkState = record (link_at links index) { port = step.port } in
      subst (λ (l : List LinkState). HasRun key (with_step (part role links) role [] index step) role l before after chains filled) (sym all_is)
      (step_runs role links before is key index within role [] step new (after_take before key) after start was chains filled
      refl (has_link role links index new is.linked) refl same refl refl refl timers after_is out_is)

  -- a packet that came in is offered
  pub arrival_timers : key.source ≢ 0 → cleared key before.timers ≡ get_or before.timers 0 None ∷ rto_deadline role ∷ delayed_of role ∷ set (frees_of links) index (get_or (frees_of links) index None)
  arrival_timers other = cleared_other key before.timers other ∙ is.timers ∙ ap (λ f. get_or before.timers 0 None ∷ rto_deadline role ∷ delayed_of role ∷ f) (sym (set-get_or (frees_of links) index None))

  -- the link's own timer was the event
  pub free_timers : IsTimer before key key.number → key.number ≡ suc (suc (suc index)) → cleared key before.timers ≡ get_or before.timers 0 None ∷ rto_deadline role ∷ delayed_of role ∷ set (frees_of links) index None
  free_timers own number = cleared_timer key before.timers (suc (suc (suc index))) own.source number ∙ ap (λ (a : List (Option ℕ)). set a (suc (suc (suc index))) None) is.timers

same_step : {p q : PortState} {d e : Option Departure} {a b : List Act} → p ≡ q → d ≡ e → a ≡ b → ◌≡◌ {A = PortStep} (record { port = p; departure = d; acts = a }) (record { port = q; departure = e; acts = b })
same_step f g h i = record { port = f i; departure = g i; acts = h i }

-- one packet alone
pub one_alone : (now : ℕ) (port : PortState) (packet : Packet) → offered_all now port (packet ∷ []) ≡ offered_one now port packet
one_alone now port packet = same_step refl (or_none (offered_one now port packet).departure) (append-nil (offered_one now port packet).acts)
  where
    or_none : (d : Option Departure) → option_or d None ≡ d
    or_none None = refl
    or_none (Some d) = refl

-- nothing is done but that the event leaves
pub quiet_runs : (role : Role) (links : List LinkState) (before : EventQueueState) → IsInStep role links before → (key : Key) → IsTimed before key 0 → (after : EventQueueState) → after ≡ after_take before key → (chains : List (List Stamped))
    → HasRun key (quiet (part role links)) role links before after chains chains
quiet_runs role links before is key timed after after_is chains =
    let kept = ⊎_elim
    (λ (other : key.source ≢ 0). keeps (get_or before.timers 0 None) (cleared_other key before.timers other ∙ is.timers))
    (λ (timer : IsTimer before key 0 ⊎ IsTimer before key 0). let own = ⊎_elim (λ (a : IsTimer before key 0). a) (λ (a : IsTimer before key 0). a) timer in
    keeps None (cleared_timer key before.timers 0 own.source own.number_is ∙ ap (λ (a : List (Option ℕ)). set a 0 None) is.timers))
    timed in
    record {
      part_is = refl;
      pending = ap (λ (s : EventQueueState). s.pending) after_is;
      incoming = ap (λ (s : EventQueueState). s.incoming) after_is;
      owner = ap (λ (s : EventQueueState). s.owner) after_is;
      in_step = record {
        timers = kept;
        exits = ap (λ (s : EventQueueState). s.owner.exits) after_is ∙ is.exits;
        flow = ap (λ (s : EventQueueState). s.owner.flow) after_is ∙ is.flow;
        linked = is.linked;
        few = is.few;
      };
      out = refl;
    }
  where
    keeps : (start : Option ℕ) → cleared key before.timers ≡ timers_of start role links → after.timers ≡ timers_of (get_or after.timers 0 None) role links
    keeps start e = let all = ap (λ (s : EventQueueState). s.timers) after_is ∙ e in all ∙ ap (λ s. timers_of s role links) (sym (ap (λ (a : List (Option ℕ)). get_or a 0 None) all))
