-- A row of the sender's table.
use Rattle.std.proofs.Common.{◌≡◌, ◌≢◌, ℕ, ◌+◌, ◌%◌, ◌<◌, ◌≤◌, List, [], ◌∷◌, length, map, refl, sym, ap, subst, ◌∙◌, Option, Some, None, arith, inl, inr, ◌⊎◌, ⊎_elim}
use Rattle.std.proofs.lemmas.Bool.{cases_eq}
use Rattle.std.proofs.lemmas.List.{length-map}
use Rattle.std.specs.List.{slice_get, AllByRecursion}
use Rattle.std.specs.Option.{IfSome}
use Rattle.sim_time.specs.declared.key.Key.{Key}
use Rattle.packet_chain.specs.declared.packet.Packet.{Packet}
use Rattle.reno_sender.specs.declared.fields.SenderFields.{SenderFields}
use Rattle.reno_sender.specs.declared.fields.Timing.{Timing}
use Rattle.reno_sender.specs.Laws.{RowKeeps, IsSegment, IsDeadlineSetAt}
use Rattle.reno_sender.specs.Sending.{Planned}
use Rattle.reno_receiver.specs.Received.{ReceiverState, next_of}
use Rattle.scenario_image.specs.declared.parts.NodeKind.TheVariants.{Router}
use Rattle.scenario_image.specs.declared.parts.FlowPart.{FlowPart}
use Rattle.scenario_image.specs.declared.parts.ScenarioParts.{ScenarioParts}
use Rattle.scenario_image.specs.Scenario.{IsScenario}
use Rattle.scenario_image.specs.Paths.{data_path, IsOnWay}
use Rattle.scenario_image.proofs.Arrivals.{paths_begin}
use Rattle.port.specs.Port.{offered_all}
use Rattle.node_core.specs.declared.timer.Timer.{Timer}
use Rattle.node_core.specs.declared.timer.Timer.TheVariants.{Retransmission, DelayedAcknowledgement, Free as BecomesFree}
use Rattle.node_core.specs.declared.event.Event.{Event}
use Rattle.node_core.specs.declared.event.Event.TheVariants.{Start, Rto, Arrive}
use Rattle.node_core.specs.declared.role.Role.{Role}
use Rattle.node_core.specs.declared.role.Role.TheVariants.{Sends, Receives, Routes}
use Rattle.node_core.specs.Timers.{timer_key}
use Rattle.node_core.specs.Part.{PartState, link_at}
use Rattle.node_core.specs.Row.{data_packet}
use Rattle.node_core.specs.declared.routes.FlowExits.{FlowExits}
use Rattle.node_core.specs.Initial.{exits_of}
use Rattle.node_core.specs.TraceLine.{TraceLine}
use Rattle.tournament.proofs.Maps.{same_some}
use Rattle.table_run.specs.State.{State, part_at, stepped}
use Rattle.table_run.specs.Flow.{high_of, next_at, deadline_of, timer_of, sent_high, IsAnswerable, IsUnderWay, IsSoundFlow}
use Rattle.table_run.specs.Sound.{IsSoundAt}
use Rattle.table_run.specs.Laws.{RoleRises}
use Rattle.table_run.proofs.Due.{IsDue}
use Rattle.table_run.proofs.PortMoves.{all_moves}
use Rattle.table_run.proofs.Moved.{Shape, IsMoved, shaped, is_moved}
use Rattle.table_run.proofs.Rows.{answers_on, EachFlow, FlowRises, TimerChanges, RtoTimerStays, IsRow}
use Rattle.table_run.proofs.RowLinks.{flow_limits, under_way_sized, is_link, waits_later, FirstLink, first_link}
use Rattle.table_run.proofs.RowFlows.{timed_later, deadline_later, flow_stays}

pub sends_isnt_receives : (a b : ℕ) (f : SenderFields) (st : ReceiverState) → Sends a f ≡ Receives b st → ⊥
sends_isnt_receives a b f st e = cc

pub same_sender : (a b : ℕ) (f g : SenderFields) → Sends a f ≡ Sends b g → (a ≡ b) × (f ≡ g)
same_sender a b f g e = (cc, cc)

wait_more : (mss high more next : ℕ) (o : Option ℕ) → high ≤ more → IfSome o (λ _. IsAnswerable mss high next) → IfSome o (λ _. IsAnswerable mss more next)
wait_more mss high more next None up h = tt
wait_more mss high more next (Some u) up h = answers_on mss high more next up h

-- a deadline that a row leaves is at most 60 seconds ahead
deadline_bound : (now later : ℕ) (old new : Option ℕ) → now ≤ later → IfSome old (λ t. t ≤ now + 60000000000) → (new ≡ None) ⊎ ((new ≡ old) ⊎ IsDeadlineSetAt later new) → IfSome new (λ t. t ≤ later + 60000000000)
deadline_bound now later old new upto before h =
    ⊎_elim (λ (none : new ≡ None). subst (λ o. IfSome o (λ t. t ≤ later + 60000000000)) (sym none) tt)
    (λ (rest : (new ≡ old) ⊎ IsDeadlineSetAt later new). ⊎_elim (λ (same : new ≡ old). subst (λ o. IfSome o (λ t. t ≤ later + 60000000000)) (sym same) (deadline_later now later old upto before))
    (λ (set : IsDeadlineSetAt later new). subst (λ o. IfSome o (λ t. t ≤ later + 60000000000)) (sym set.is_then) (let most = set.after_most in omega (arith, most))) rest) h

at_some : (u bound : ℕ) (o : Option ℕ) → o ≡ Some u → IfSome o (λ t. t ≤ bound) → u ≤ bound
at_some u bound o is h = subst (λ x. IfSome x (λ t. t ≤ bound)) is h

timed_on : (now later : ℕ) (old new : Option Timing) → now ≤ later → (new ≡ old) ⊎ IfSome new (λ t. t.sent_at ≤ later) → IfSome old (λ t. t.sent_at ≤ now) → IfSome new (λ t. t.sent_at ≤ later)
timed_on now later old new upto h before =
    ⊎_elim (λ (same : new ≡ old). subst (λ (o : Option Timing). IfSome o (λ t. t.sent_at ≤ later)) (sym same) (timed_later now later old upto before)) (λ (is : IfSome new (λ t. t.sent_at ≤ later)). is) h

module _ (p : ScenarioParts) (is_scenario : IsScenario p) (lines : List TraceLine) (now : ℕ) (s : State) (k : Key) (v : Event) (S : IsSoundAt p lines now s) (due : IsDue s k v)
    (number : ℕ) (flow : FlowPart) (its : slice_get p.flows number ≡ Some flow) (at : k.node ≡ flow.sender) (planned : Planned) where
  abbrev pub F : IsSoundFlow s now number flow
  F = S.each_flow number flow its

  abbrev pub part : PartState
  part = part_at s k.node

  abbrev pub shape : Shape
  shape = record {
    role = Sends number planned.fields;
    timer = Retransmission;
    event = Rto number;
    old = F.fields.deadline;
    new = planned.fields.deadline;
    index = 0;
    step = offered_all k.time (link_at part.links 0).port (map (data_packet number planned.fields.mss) planned.sent);
  }

  abbrev pub t : State
  t = stepped s k (shaped part k shape)

  upto : now ≤ k.time
  upto = S.not_past k v due.pending

  role_here : part.role ≡ Sends number F.fields
  role_here = ap (λ n. (part_at s n).role) at ∙ F.sender_role

  nodes : k.node < length p.nodes
  nodes = subst (λ n. n < length p.nodes) (sym at) (flow_limits p is_scenario number flow its).sender_node

  first : FirstLink p s (data_path flow)
  first = first_link p lines now s S (data_path flow) (flow_limits p is_scenario number flow its).sender_node (paths_begin p is_scenario number flow its).0

  within : 0 < length part.links
  within = subst (λ n. 0 < length (part_at s n).links) (sym at) first.within

  pub M : IsMoved s k shape t
  M = is_moved s k shape within

  -- no receiver is here, and no other flow's sender
  no_receiver : (j : ℕ) (other : FlowPart) → slice_get p.flows j ≡ Some other → other.receiver ≢ k.node
  no_receiver j other found same = sends_isnt_receives number j F.fields (S.each_flow j other found).received (sym role_here ∙ ap (λ n. (part_at s n).role) (sym same) ∙ (S.each_flow j other found).receiver_role)

  the_sender : (j : ℕ) (other : FlowPart) → slice_get p.flows j ≡ Some other → other.sender ≡ k.node → (j ≡ number) × (other ≡ flow)
  the_sender j other found same =
      let is : j ≡ number = (same_sender j number (S.each_flow j other found).fields F.fields (sym (S.each_flow j other found).sender_role ∙ ap (λ n. (part_at s n).role) same ∙ role_here)).0 in
      (is, same_some other flow (sym found ∙ ap (slice_get p.flows) is ∙ its))

  no_router : (node : ℕ) → slice_get p.nodes node ≡ Some Router → node ≢ k.node
  no_router node is same = routes_isnt_sends number F.fields (map (exits_of p node) p.flows) (sym (S.each_router node is) ∙ ap (λ n. (part_at s n).role) same ∙ role_here)
    where
      routes_isnt_sends : (a : ℕ) (f : SenderFields) (table : List FlowExits) → Routes table ≡ Sends a f → ⊥
      routes_isnt_sends a f table e = cc

  receiver_stays : (j : ℕ) (other : FlowPart) → slice_get p.flows j ≡ Some other → (part_at t other.receiver).role ≡ (part_at s other.receiver).role
  receiver_stays j other found = ap (λ (x : PartState). x.role) (M.elsewhere other.receiver (no_receiver j other found))

  role_now : (part_at t flow.sender).role ≡ Sends number planned.fields
  role_now = ap (λ n. (part_at t n).role) (sym at) ∙ M.here_role

  module _ (keeps : RowKeeps F.fields planned.fields planned.sent k.time) where
    bound : IfSome planned.fields.deadline (λ u. u ≤ k.time + 60000000000)
    bound = deadline_bound now k.time F.fields.deadline planned.fields.deadline upto F.deadline_soon keeps.deadline

    own_flow : IsSoundFlow t k.time number flow
    own_flow = record {
      fields = planned.fields;
      received = F.received;
      sender_role = role_now;
      receiver_role = receiver_stays number flow its ∙ F.receiver_role;
      sound = keeps.sound;
      its_mss = keeps.mss_same ∙ F.its_mss;
      its_segments = keeps.segments_same ∙ F.its_segments;
      its_rwnd = keeps.rwnd_same ∙ F.its_rwnd;
      its_variant = keeps.variant_same ∙ F.its_variant;
      timed_before = timed_on now k.time F.fields.timing planned.fields.timing upto keeps.timing F.timed_before;
      deadline_soon = bound;
      well_formed = F.well_formed;
      same_mss = F.same_mss;
      its_delack = F.its_delack;
      received_sent = λ seq got. (let a = F.received_sent seq got in let b = keeps.high_rises in omega (arith, a, b));
      next_sent = (let a = F.next_sent in let b = keeps.high_rises in omega (arith, a, b));
      answer_waits = wait_more flow.mss F.fields.high planned.fields.high (next_of F.received) F.received.timer keeps.high_rises F.answer_waits;
    }

    -- a flow is this one, or stays as it is
    by_flow : (P : ℕ → FlowPart → Type 0) → P number flow → ((j : ℕ) (other : FlowPart) → slice_get p.flows j ≡ Some other → other.sender ≢ k.node → P j other) → EachFlow p P
    by_flow P here there j other found =
        ⊎_elim
        (λ (same : other.sender ≡ k.node). let is = the_sender j other found same in subst (λ (x : ℕ × FlowPart). P x.0 x.1) (λ i. (sym is.0 i, sym is.1 i)) here)
        (λ (apart : other.sender ≢ k.node). there j other found apart)
        (cases_eq other.sender k.node)

    sender_stays : (other : FlowPart) → other.sender ≢ k.node → (part_at t other.sender).role ≡ (part_at s other.sender).role
    sender_stays other apart = ap (λ (x : PartState). x.role) (M.elsewhere other.sender apart)

    flows : EachFlow p (λ j other. IsSoundFlow t k.time j other)
    flows = by_flow (λ j other. IsSoundFlow t k.time j other) own_flow (λ j other found apart. flow_stays s t now k.time j other upto (sender_stays other apart) (receiver_stays j other found) (S.each_flow j other found))

    rises : EachFlow p (λ _ other. FlowRises s t other)
    rises j other found = record {
      high = by_flow (λ _ other. sent_high s other ≤ sent_high t other)
          (let a = ap high_of F.sender_role in let b = ap high_of role_now in let c = keeps.high_rises in omega (arith, a, b, c))
          (λ _ other _ apart. let a = ap high_of (sender_stays other apart) in omega (arith, a)) j other found;
      next = (let a = ap next_at (receiver_stays j other found) in omega (arith, a));
    }

    -- what is sent is a segment of the flow
    sent_packets : (xs : List ℕ) → AllByRecursion (IsSegment planned.fields) xs → AllByRecursion (IsUnderWay p t (link_at part.links 0).port.link) (map (data_packet number planned.fields.mss) xs)
    sent_packets [] all = tt
    sent_packets (x ∷ xs) all = (
      record {
        flow = flow;
        its_flow = its;
        carries = record {
          bytes_are = ap (λ m. m + 40) mss;
          multiple = subst (λ m. x % m ≡ 0) mss all.0.multiple;
          by_high = (let a = all.0.by_high in let b = ap high_of role_now in omega (arith, a, b, mss));
        };
        on_way = subst (λ n. IsOnWay p (data_path flow) (link_at (part_at s n).links 0).port.link) (sym at) first.on_way;
      },
      sent_packets xs all.1,
    )
      where
        mss : planned.fields.mss ≡ flow.mss
        mss = keeps.mss_same ∙ F.its_mss

    stays_rto_timer : (f : Role → Option ℕ) (timer : Timer) (node : ℕ) → node ≢ k.node → (part_at t node).role ≡ (part_at s node).role → RtoTimerStays k shape node timer (f (part_at s node).role) (f (part_at t node).role)
    stays_rto_timer f timer node apart same = record {
      same = ap f same;
      not_due = λ time is. apart (ap (λ (q : Key). q.node) is);
      not_old = λ time u _ is. apart (ap (λ (q : Key). q.node) is);
      not_new = λ time u _ is. apart (ap (λ (q : Key). q.node) is);
    }

    few_packets : (xs : List ℕ) → length xs ≤ 1073741825 → length (map (data_packet number planned.fields.mss) xs) ≤ 2147483648
    few_packets xs few = let same = length-map xs (data_packet number planned.fields.mss) in omega (arith, same, few)

    pub row : ((node index time : ℕ) → timer_key node (BecomesFree index) time ≢ k) → ((u : ℕ) → planned.fields.deadline ≡ Some u → k.time < u) → (sent_high s flow ≡ 0 → v ≡ Start number) → IsRow p s k v shape t
    row not_link fresh starts = record {
      within = within;
      timer_least = omega arith;
      timer_most = omega arith;
      not_arrival = λ x e. not_arrives x e;
      count = length (map (data_packet number planned.fields.mss) planned.sent);
      few = few_packets planned.sent keeps.few;
      before = (link_at part.links 0).port.next_free;
      entered = inl (record { same = refl; not_free = not_link });
      moves = all_moves (IsUnderWay p t (link_at part.links 0).port.link) (under_way_sized p is_scenario t (link_at part.links 0).port.link) k.time (link_at part.links 0).port (map (data_packet number planned.fields.mss) planned.sent)
          (is_link p is_scenario lines now s S k.node 0 nodes within) (sent_packets planned.sent keeps.sends) (waits_later p is_scenario lines now s S k.node 0 nodes within t rises);
      flows = flows;
      rises = rises;
      unsent = by_flow (λ j other. sent_high s other ≡ 0 → v ≢ Start j → sent_high t other ≡ 0) (λ none isnt. absurd (isnt (starts none))) (λ j other _ apart none _. ap high_of (sender_stays other apart) ∙ none);
      routers = λ node is. ap (λ (x : PartState). x.role) (M.elsewhere node (no_router node is));
      role_rises = subst (λ x. RoleRises x (Sends number planned.fields)) (sym role_here) (refl, record { una_rises = keeps.una_rises; high_rises = keeps.high_rises });
      rto_timers = by_flow (λ j other. TimerChanges k shape other.sender Retransmission (Rto j) (deadline_of (part_at s other.sender).role) (deadline_of (part_at t other.sender).role))
          (inr (record { at_node = sym at; is_timer = refl; is_event = refl; was = ap deadline_of F.sender_role; is_now = ap deadline_of role_now }))
          (λ j other _ apart. inl (stays_rto_timer deadline_of Retransmission other.sender apart (sender_stays other apart)));
      delayed = λ j other found. inl (stays_rto_timer timer_of DelayedAcknowledgement other.receiver (no_receiver j other found) (receiver_stays j other found));
      new_soon = λ u is. (fresh u is, (let most = at_some u (k.time + 60000000000) planned.fields.deadline is bound in omega (arith, most)));
      new_belongs = λ u is. record { flow = flow; its_flow = its; timer = record { is_key = ap (λ n. timer_key n Retransmission u) at; is_set = ap deadline_of role_now ∙ is } };
    }
      where
        not_arrives : (x : Packet) → Rto number ≡ Arrive x → ⊥
        not_arrives x e = cc
