-- A packet of a flow that waits at a link: after a row it waits still, or leaves, or a link that became free has dropped it.
use Rattle.std.proofs.Common.{◌≡◌, ◌≢◌, ℕ, ◌+◌, ◌-◌, ◌<◌, ◌==◌, Bool, true, cond, List, [], ◌∷◌, ◌++◌, map as each, length, refl, sym, ap, subst, ◌∙◌, Option, Some, None, ⊎_elim, true≢false}
use Rattle.std.proofs.Math.Bool.{or-false}
use Rattle.std.proofs.lemmas.Bool.{cases_eq, cond_both}
use Rattle.std.proofs.lemmas.List.{get_or-set_same, get_or-set_other}
use Rattle.std.specs.Prelude.{is_none}
use Rattle.std.specs.List.{list_any}
use Rattle.sim_time.specs.declared.key.Key.{Key}
use Rattle.packet_chain.specs.declared.packet.Packet.{Packet}
use Rattle.packet_chain.specs.declared.packet.Kind.{Kind}
use Rattle.packet_chain.specs.declared.packet.Kind.TheVariants.{Data, Ack}
use Rattle.packet_chain.specs.Stamped.{Stamped}
use Rattle.aqm.specs.declared.queue.Queue.{Queue}
use Rattle.aqm.specs.Laws.{listed}
use Rattle.aqm.specs.Queue.{waiting_in, refuses, take_reason, taken_from}
use Rattle.aqm.proofs.Front.{takes_the_front}
use Rattle.aqm.proofs.Stays.{enters_last, refused_stays}
use Rattle.port.specs.declared.acts.Act.{Act}
use Rattle.port.specs.Losses.{is_lost}
use Rattle.port.specs.Port.{PortState, PortStep, Departure, begun, dropped_for, taken, only, with_packet, offered_one, offered_all}
use Rattle.reno_sender.specs.declared.fields.SenderFields.{SenderFields}
use Rattle.reno_receiver.specs.Received.{ReceiverState, timer_came}
use Rattle.node_core.specs.declared.event.Event.{Event}
use Rattle.node_core.specs.declared.event.Event.TheVariants.{Start, Rto, DelAck, Free, Arrive}
use Rattle.node_core.specs.declared.role.Role.{Role}
use Rattle.node_core.specs.declared.role.Role.TheVariants.{Sends, Receives, Routes}
use Rattle.node_core.specs.Part.{LinkState, PartState, link_at, no_link}
use Rattle.node_core.specs.Pending.{EventChange}
use Rattle.node_core.specs.RouteTable.{exit_for}
use Rattle.node_core.specs.Row.{Effect, Leaving, leaving_over, with_step, quiet, ack_of, row, start_row, rto_row, delack_row, arrival_row, at_sender, at_receiver, passed_on}
use Rattle.flow_waits.specs.Stalled.{is_drop_of, may_stall}
use Rattle.flow_waits.proofs.Any.{any_append, any_left, any_each}

abbrev pub is_of : ℕ → Stamped → Bool
is_of flow cell = cell.0.flow == flow

-- a packet of the flow waits in a queue
abbrev pub Holds : ℕ → Queue → Type 0
Holds flow q = list_any (is_of flow) (waiting_in q) ≡ true

-- a packet of the flow departs
abbrev pub Departs : ℕ → Option Departure → Type 0
Departs flow o = (d : Departure) × (o ≡ Some d) × ((d.packet.flow == flow) ≡ true)

module _ (flow now : ℕ) where
  -- an offer to a busy link leaves what waits
  pub record StaysBusy (u : ℕ) (step : PortStep) : Type 0 where
    pub holds : Holds flow step.port.queue
    pub busy : step.port.next_free ≡ Some u

  pub one_busy : (u : ℕ) (port : PortState) (x : Packet) → port.next_free ≡ Some u → Holds flow port.queue → StaysBusy u (offered_one now port x)
  one_busy u port x busy holds =
      let counted : PortState = record port { offered = port.offered + 1 } in
      let lost : (acts : List Act) → StaysBusy u (only counted acts) = λ acts. record { holds = holds; busy = busy } in
      cond_both (is_lost port.lose counted.offered) _ _ (StaysBusy u) (λ _. lost _) (λ _.
      cond_both (refuses port.queue) _ _ (StaysBusy u) (λ refused. record { holds = ap (list_any (is_of flow)) (refused_stays port.queue (x, now) now refused) ∙ holds; busy = busy }) (λ room.
      let last = enters_last port.queue (x, now) now room in
      subst (λ o. StaysBusy u (cond (is_none o) (taken now (with_packet now counted x)) (only (with_packet now counted x) []))) (sym busy)
      (record {
        holds = ap (list_any (is_of flow)) last ∙ any_left (is_of flow) (waiting_in port.queue) ((x, now) ∷ []) holds;
        busy = busy;
      })))

  pub all_busy : (u : ℕ) (port : PortState) (packets : List Packet) → port.next_free ≡ Some u → Holds flow port.queue → StaysBusy u (offered_all now port packets)
  all_busy u port [] busy holds = record { holds = holds; busy = busy }
  all_busy u port (x ∷ packets) busy holds =
      let first = one_busy u port x busy holds in
      let others = all_busy u (offered_one now port x).port packets first.busy first.holds in
      record { holds = others.holds; busy = others.busy }

  -- what a take gives begins to be sent
  given_departs : (port : PortState) (o : Option Stamped) → list_any (is_of flow) (listed o) ≡ true → Departs flow (begun now port o).departure
  given_departs port None e = absurd (true≢false (sym e))
  given_departs port (Some head) e = (_, refl, sym (or-false (head.0.flow == flow)) ∙ e)

  same_queue : (port : PortState) (o : Option Stamped) → (begun now port o).port.queue ≡ port.queue
  same_queue port None = refl
  same_queue port (Some head) = refl

  -- what waits before a take waits still, is sent, or is dropped
  pub data AfterTake (step : PortStep) : Type 0 where
    waits : Holds flow step.port.queue → AfterTake step
    leaves : Departs flow step.departure → AfterTake step
    dropped : list_any (is_drop_of flow) step.acts ≡ true → AfterTake step

  pub take_keeps : (port : PortState) → Holds flow port.queue → AfterTake (taken now port)
  take_keeps port holds =
      let t = taken_from port.queue now in
      let rest : PortState = record port { queue = t.queue } in
      let whole : list_any (is_of flow) (t.dropped ++ listed t.given ++ waiting_in t.queue) ≡ true = ap (list_any (is_of flow)) (takes_the_front port.queue now) ∙ holds in
      ⊎_elim
      (λ (front : list_any (is_of flow) (t.dropped ++ listed t.given) ≡ true).
      ⊎_elim
      (λ (out : list_any (is_of flow) t.dropped ≡ true).
      dropped (any_left (is_drop_of flow) (each (dropped_for port.link (take_reason port.queue)) t.dropped) (begun now rest t.given).acts (any_each (is_drop_of flow) (dropped_for port.link (take_reason port.queue)) t.dropped ∙ out)))
      (λ (on : list_any (is_of flow) (listed t.given) ≡ true). leaves (given_departs rest t.given on))
      (any_append (is_of flow) t.dropped (listed t.given) front))
      (λ (back : list_any (is_of flow) (waiting_in t.queue) ≡ true). waits (ap (λ q. list_any (is_of flow) (waiting_in q)) (same_queue rest t.given) ∙ back))
      (any_append (is_of flow) (t.dropped ++ listed t.given) (waiting_in t.queue) whole)

  -- and what it drops has waited
  none_sent : (port : PortState) (o : Option Stamped) → list_any (is_drop_of flow) (begun now port o).acts ≡ true → ⊥
  none_sent port None e = true≢false (sym e)
  none_sent port (Some head) e = true≢false (sym e)

  pub drop_waited : (port : PortState) → list_any (is_drop_of flow) (taken now port).acts ≡ true → Holds flow port.queue
  drop_waited port e =
      let t = taken_from port.queue now in
      let rest : PortState = record port { queue = t.queue } in
      ⊎_elim
      (λ (out : list_any (is_drop_of flow) (each (dropped_for port.link (take_reason port.queue)) t.dropped) ≡ true).
      ap (list_any (is_of flow)) (sym (takes_the_front port.queue now))
      ∙ any_left (is_of flow) (t.dropped ++ listed t.given) (waiting_in t.queue) (any_left (is_of flow) t.dropped (listed t.given) (sym (any_each (is_drop_of flow) (dropped_for port.link (take_reason port.queue)) t.dropped) ∙ out)))
      (λ (sent : list_any (is_drop_of flow) (begun now rest t.given).acts ≡ true). absurd (none_sent rest t.given sent))
      (any_append (is_drop_of flow) (each (dropped_for port.link (take_reason port.queue)) t.dropped) (begun now rest t.given).acts e)

-- a packet of the flow waits at a link of a node
pub record WaitsAt (flow : ℕ) (part : PartState) (index : ℕ) : Type 0 where
  pub within : index < length part.links
  pub holds : Holds flow (link_at part.links index).port.queue

abbrev pub Leaves : ℕ → Effect → Type 0
Leaves flow effect = (l : Leaving) × (effect.leaving ≡ Some l) × ((l.departure.packet.flow == flow) ≡ true)

-- after a row
pub data AfterRow (flow : ℕ) (event : Event) (index : ℕ) (effect : Effect) : Type 0 where
  waits_on : Holds flow (link_at effect.part.links index).port.queue → AfterRow flow event index effect
  goes : Leaves flow effect → AfterRow flow event index effect
  is_dropped : may_stall flow event effect.acts ≡ true → AfterRow flow event index effect

-- nothing waits where a link is idle
abbrev pub IdleEmpty : PartState → Type 0
IdleEmpty part = (index : ℕ) → index < length part.links → (link_at part.links index).port.next_free ≡ None → waiting_in (link_at part.links index).port.queue ≡ []

module _ (flow : ℕ) (part : PartState) (index : ℕ) (W : WaitsAt flow part index) where
  -- a step at some link of the node
  at_link : (event : Event) (role : Role) (rto_timers : List EventChange) (i : ℕ) (step : PortStep)
      → (index ≡ i → AfterRow flow event index (with_step part role rto_timers i step)) → AfterRow flow event index (with_step part role rto_timers i step)
  at_link event role rto_timers i step here =
      ⊎_elim here
      (λ (other : index ≢ i). waits_on (ap (λ (l : LinkState). list_any (is_of flow) (waiting_in l.port.queue)) (get_or-set_other part.links i index (record (link_at part.links i) { port = step.port }) no_link other) ∙ W.holds))
      (cases_eq index i)

  -- the link there has this port afterwards
  port_after : (role : Role) (rto_timers : List EventChange) (i : ℕ) (step : PortStep) → index ≡ i → Holds flow step.port.queue → Holds flow (link_at (with_step part role rto_timers i step).part.links index).port.queue
  port_after role rto_timers i step same holds =
      ap (λ n. list_any (is_of flow) (waiting_in (link_at (with_step part role rto_timers i step).part.links n).port.queue)) same
      ∙ ap (λ (l : LinkState). list_any (is_of flow) (waiting_in l.port.queue)) (get_or-set_same part.links i (record (link_at part.links i) { port = step.port }) no_link (subst (λ n. n < length part.links) same W.within)) ∙ holds

  holds_there : (i : ℕ) → index ≡ i → Holds flow (link_at part.links i).port.queue
  holds_there i same = subst (λ n. Holds flow (link_at part.links n).port.queue) same W.holds

  -- packets are offered
  pub offers_keep : IdleEmpty part → (event : Event) (role : Role) (rto_timers : List EventChange) (now i : ℕ) (step : PortStep)
      → ((u : ℕ) → (link_at part.links i).port.next_free ≡ Some u → Holds flow (link_at part.links i).port.queue → StaysBusy flow now u step) → AfterRow flow event index (with_step part role rto_timers i step)
  offers_keep idle event role rto_timers now i step busy =
      at_link event role rto_timers i step (λ same. by_free same (link_at part.links i).port.next_free refl)
    where
      by_free : index ≡ i → (o : Option ℕ) → (link_at part.links i).port.next_free ≡ o → AfterRow flow event index (with_step part role rto_timers i step)
      by_free same None e =
          let none = idle i (subst (λ n. n < length part.links) same W.within) e in
          absurd (true≢false (sym (holds_there i same) ∙ ap (list_any (is_of flow)) none))
      by_free same (Some u) e = waits_on (port_after role rto_timers i step same (busy u e (holds_there i same)).holds)

  all_keep : IdleEmpty part → (event : Event) (role : Role) (rto_timers : List EventChange) (now i : ℕ) (packets : List Packet) → AfterRow flow event index (with_step part role rto_timers i (offered_all now (link_at part.links i).port packets))
  all_keep idle event role rto_timers now i packets = offers_keep idle event role rto_timers now i (offered_all now (link_at part.links i).port packets) (λ u. all_busy flow now u (link_at part.links i).port packets)

  -- a link takes
  pub take_keeps_row : (link : ℕ) (role : Role) (rto_timers : List EventChange) (now i : ℕ) → AfterRow flow (Free link) index (with_step part role rto_timers i (taken now (link_at part.links i).port))
  take_keeps_row link role rto_timers now i =
      at_link (Free link) role rto_timers i step (λ same. by_fate same (take_keeps flow now (link_at part.links i).port (holds_there i same)))
    where
      step : PortStep
      step = taken now (link_at part.links i).port

      leaves_over : (o : Option Departure) → Departs flow o → (l : Leaving) × (leaving_over i o ≡ Some l) × ((l.departure.packet.flow == flow) ≡ true)
      leaves_over o (d, is, its) = (record { index = i; departure = d }, ap (leaving_over i) is, its)

      by_fate : index ≡ i → AfterTake flow now step → AfterRow flow (Free link) index (with_step part role rto_timers i step)
      by_fate same (waits holds) = waits_on (port_after role rto_timers i step same holds)
      by_fate same (leaves on) = goes (leaves_over step.departure on)
      by_fate same (dropped out) = is_dropped out

  stays_quiet : (event : Event) → AfterRow flow event index (quiet part)
  stays_quiet event = waits_on W.holds

  module _ (idle : IdleEmpty part) (key : Key) where
    starts : (own : ℕ) (ρ : Role) → AfterRow flow (Start own) index (start_row part ρ key)
    starts own (Sends n f) = all_keep idle (Start own) _ _ key.time 0 _
    starts own _ = stays_quiet (Start own)

    ends : (own : ℕ) (ρ : Role) → AfterRow flow (Rto own) index (rto_row part ρ key)
    ends own (Sends n f) = all_keep idle (Rto own) _ _ key.time 0 _
    ends own _ = stays_quiet (Rto own)

    answers : (own : ℕ) (ρ : Role) → AfterRow flow (DelAck own) index (delack_row part ρ key)
    answers own (Receives n b) = all_keep idle (DelAck own) _ _ key.time 0 (ack_of n (timer_came b).reply)
    answers own _ = stays_quiet (DelAck own)

    to_sender : (x : Packet) (n : ℕ) (f : SenderFields) (c : Kind) → AfterRow flow (Arrive x) index (at_sender part key n f c x.number)
    to_sender x n f Data = stays_quiet (Arrive x)
    to_sender x n f Ack = all_keep idle (Arrive x) _ _ key.time 0 _

    to_receiver : (x : Packet) (n : ℕ) (b : ReceiverState) (c : Kind) → AfterRow flow (Arrive x) index (at_receiver part key n b c x.number)
    to_receiver x n b Data = all_keep idle (Arrive x) _ _ key.time 0 _
    to_receiver x n b Ack = stays_quiet (Arrive x)

    passes : (x : Packet) (o : Option ℕ) → AfterRow flow (Arrive x) index (passed_on part key x o)
    passes x None = stays_quiet (Arrive x)
    passes x (Some i) = offers_keep idle (Arrive x) part.role [] key.time i (offered_one key.time (link_at part.links i).port x) (λ u. one_busy flow key.time u (link_at part.links i).port x)

    arrives : (x : Packet) (ρ : Role) → AfterRow flow (Arrive x) index (arrival_row part ρ key x)
    arrives x (Sends n f) = to_sender x n f x.kind
    arrives x (Receives n b) = to_receiver x n b x.kind
    arrives x (Routes table) = passes x (exit_for table x)

    -- after the row of an event
    pub row_keeps : (event : Event) → AfterRow flow event index (row part key event)
    row_keeps (Start own) = starts own part.role
    row_keeps (Rto own) = ends own part.role
    row_keeps (DelAck own) = answers own part.role
    row_keeps (Free link) = take_keeps_row link part.role [] key.time (key.number - 3)
    row_keeps (Arrive x) = arrives x part.role
