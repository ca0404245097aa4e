-- A row of the receiver's table.
use Rattle.std.proofs.Common.{◌≡◌, ◌≢◌, ℕ, ◌+◌, ◌%◌, ◌<◌, ◌≤◌, List, length, map, refl, sym, ap, subst, ◌∙◌, Option, Some, None, arith, inl, inr, ⊎_elim}
use Rattle.std.proofs.lemmas.Bool.{cases_eq}
use Rattle.std.specs.List.{slice_get, AllByRecursion}
use Rattle.std.specs.Option.{IfSome}
use Rattle.sim_time.specs.declared.key.Key.{Key}
use Rattle.packet_chain.specs.declared.packet.Packet.{Packet}
use Rattle.reno_receiver.specs.declared.reply.Reply.{Reply}
use Rattle.reno_receiver.specs.declared.reply.Reply.TheVariants.{AckNow, Wait}
use Rattle.reno_receiver.specs.Received.{ReceiverState, Answered, IsReceived, IsWellFormed, next_of}
use Rattle.reno_receiver.proofs.Laws.{next_holds}
use Rattle.scenario_image.specs.declared.parts.NodeKind.TheVariants.{Router}
use Rattle.scenario_image.specs.declared.parts.FlowPart.{FlowPart}
use Rattle.scenario_image.specs.declared.parts.ScenarioParts.{ScenarioParts}
use Rattle.scenario_image.specs.Scenario.{IsScenario}
use Rattle.scenario_image.specs.Paths.{ack_path, IsOnWay}
use Rattle.scenario_image.proofs.Arrivals.{paths_begin}
use Rattle.port.specs.Port.{offered_all}
use Rattle.node_core.specs.declared.timer.Timer.{Timer}
use Rattle.node_core.specs.declared.timer.Timer.TheVariants.{Retransmission, DelayedAcknowledgement, Free as BecomesFree}
use Rattle.node_core.specs.declared.event.Event.{Event}
use Rattle.node_core.specs.declared.event.Event.TheVariants.{DelAck, Arrive}
use Rattle.node_core.specs.declared.role.Role.{Role}
use Rattle.node_core.specs.declared.role.Role.TheVariants.{Receives, Routes}
use Rattle.node_core.specs.declared.routes.FlowExits.{FlowExits}
use Rattle.node_core.specs.Timers.{timer_key}
use Rattle.node_core.specs.Initial.{exits_of}
use Rattle.node_core.specs.Part.{PartState, link_at}
use Rattle.node_core.specs.Row.{ack_of}
use Rattle.node_core.specs.TraceLine.{TraceLine}
use Rattle.tournament.proofs.Maps.{same_some}
use Rattle.table_run.specs.State.{State, part_at, stepped}
use Rattle.table_run.specs.Flow.{high_of, next_at, deadline_of, timer_of, sent_high, received_next, IsAnswerable, IsUnderWay, IsSoundFlow}
use Rattle.table_run.specs.Sound.{IsSoundAt}
use Rattle.table_run.specs.Laws.{RoleRises}
use Rattle.table_run.proofs.Due.{IsDue}
use Rattle.table_run.proofs.PortMoves.{all_moves}
use Rattle.table_run.proofs.Moved.{Shape, IsMoved, shaped, is_moved}
use Rattle.table_run.proofs.Rows.{EachFlow, FlowRises, TimerChanges, RtoTimerStays, IsRow}
use Rattle.table_run.proofs.RowLinks.{flow_limits, under_way_sized, is_link, waits_later, FirstLink, first_link}
use Rattle.table_run.proofs.RowFlows.{timed_later, deadline_later, flow_stays}
use Rattle.table_run.proofs.SenderRow.{sends_isnt_receives}

-- what an event leaves of a receiver: it received only segments below high, and acknowledges its next number
pub record AnswerKeeps (st : ReceiverState) (high now : ℕ) (a : Answered) : Type 0 where
  pub well_formed : IsWellFormed a.state
  pub same_mss : a.state.mss ≡ st.mss
  pub same_delack : a.state.delack ≡ st.delack
  pub next_rises : next_of st ≤ next_of a.state
  pub next_multiple : next_of a.state % st.mss ≡ 0
  pub received_below : (x : ℕ) → IsReceived a.state x → x + st.mss ≤ high
  pub answerable : IsAnswerable st.mss high (next_of a.state)
  pub acknowledges : (m : ℕ) → a.reply ≡ AckNow m → m ≡ next_of a.state
  pub timer_soon : (t : ℕ) → a.state.timer ≡ Some t → (now < t) × (t ≤ now + 500000000)

same_receiver : (a b : ℕ) (f g : ReceiverState) → Receives a f ≡ Receives b g → a ≡ b
same_receiver a b f g e = cc

wait_set : (o : Option ℕ) (P : Type 0) → P → IfSome o (λ _. P)
wait_set None P h = tt
wait_set (Some u) P h = h

module _ (p : ScenarioParts) (is_scenario : IsScenario p) (lines : List TraceLine) (now : ℕ) (s : State) (k : Key) (v : Event) (S : IsSoundAt p lines now s) (due : IsDue s k v)
    (number : ℕ) (flow : FlowPart) (its : slice_get p.flows number ≡ Some flow) (at : k.node ≡ flow.receiver) (a : Answered) where
  abbrev pub F : IsSoundFlow s now number flow
  F = S.each_flow number flow its

  abbrev pub part : PartState
  part = part_at s k.node

  abbrev pub shape : Shape
  shape = record {
    role = Receives number a.state;
    timer = DelayedAcknowledgement;
    event = DelAck number;
    old = F.received.timer;
    new = a.state.timer;
    index = 0;
    step = offered_all k.time (link_at part.links 0).port (ack_of number a.reply);
  }

  abbrev pub t : State
  t = stepped s k (shaped part k shape)

  upto : now ≤ k.time
  upto = S.not_past k v due.pending

  role_here : part.role ≡ Receives number F.received
  role_here = ap (λ n. (part_at s n).role) at ∙ F.receiver_role

  nodes : k.node < length p.nodes
  nodes = subst (λ n. n < length p.nodes) (sym at) (flow_limits p is_scenario number flow its).receiver_node

  first : FirstLink p s (ack_path flow)
  first = first_link p lines now s S (ack_path flow) (flow_limits p is_scenario number flow its).receiver_node (paths_begin p is_scenario number flow its).1

  within : 0 < length part.links
  within = subst (λ n. 0 < length (part_at s n).links) (sym at) first.within

  pub M : IsMoved s k shape t
  M = is_moved s k shape within

  -- no sender is here, and no other flow's receiver
  no_sender : (j : ℕ) (other : FlowPart) → slice_get p.flows j ≡ Some other → other.sender ≢ k.node
  no_sender j other found same = sends_isnt_receives j number (S.each_flow j other found).fields F.received (sym (S.each_flow j other found).sender_role ∙ ap (λ n. (part_at s n).role) same ∙ role_here)

  the_receiver : (j : ℕ) (other : FlowPart) → slice_get p.flows j ≡ Some other → other.receiver ≡ k.node → (j ≡ number) × (other ≡ flow)
  the_receiver j other found same =
      let is : j ≡ number = same_receiver j number (S.each_flow j other found).received F.received (sym (S.each_flow j other found).receiver_role ∙ ap (λ n. (part_at s n).role) same ∙ role_here) in
      (is, same_some other flow (sym found ∙ ap (slice_get p.flows) is ∙ its))

  no_router : (node : ℕ) → slice_get p.nodes node ≡ Some Router → node ≢ k.node
  no_router node is same = routes_isnt_receives number F.received (map (exits_of p node) p.flows) (sym (S.each_router node is) ∙ ap (λ n. (part_at s n).role) same ∙ role_here)
    where
      routes_isnt_receives : (a : ℕ) (f : ReceiverState) (table : List FlowExits) → Routes table ≡ Receives a f → ⊥
      routes_isnt_receives a f table e = cc

  sender_stays : (j : ℕ) (other : FlowPart) → slice_get p.flows j ≡ Some other → (part_at t other.sender).role ≡ (part_at s other.sender).role
  sender_stays j other found = ap (λ (x : PartState). x.role) (M.elsewhere other.sender (no_sender j other found))

  receiver_stays : (other : FlowPart) → other.receiver ≢ k.node → (part_at t other.receiver).role ≡ (part_at s other.receiver).role
  receiver_stays other apart = ap (λ (x : PartState). x.role) (M.elsewhere other.receiver apart)

  role_now : (part_at t flow.receiver).role ≡ Receives number a.state
  role_now = ap (λ n. (part_at t n).role) (sym at) ∙ M.here_role

  module _ (keeps : AnswerKeeps F.received F.fields.high k.time a) where
    answerable : IsAnswerable flow.mss F.fields.high (next_of a.state)
    answerable = subst (λ m. IsAnswerable m F.fields.high (next_of a.state)) F.same_mss keeps.answerable

    next_below : next_of a.state ≤ F.fields.high
    next_below =
        let mss : a.state.mss ≡ F.fields.mss = keeps.same_mss ∙ F.same_mss ∙ sym F.its_mss in
        (next_holds a.state keeps.well_formed).bounded F.fields.high (subst (λ m. F.fields.high % m ≡ 0) (sym mss) F.sound.high_multiple)
        (λ x got. let most = keeps.received_below x got in let least = F.sound.mss_least in let same = keeps.same_mss in omega (arith, most, least, mss, same))

    own_flow : IsSoundFlow t k.time number flow
    own_flow = record {
      fields = F.fields;
      received = a.state;
      sender_role = sender_stays number flow its ∙ F.sender_role;
      receiver_role = role_now;
      sound = F.sound;
      its_mss = F.its_mss;
      its_segments = F.its_segments;
      its_rwnd = F.its_rwnd;
      its_variant = F.its_variant;
      timed_before = timed_later now k.time F.fields.timing upto F.timed_before;
      deadline_soon = deadline_later now k.time F.fields.deadline upto F.deadline_soon;
      well_formed = keeps.well_formed;
      same_mss = keeps.same_mss ∙ F.same_mss;
      its_delack = keeps.same_delack ∙ F.its_delack;
      received_sent = λ seq got. (let most = keeps.received_below seq got in let same = F.same_mss in omega (arith, most, same));
      next_sent = next_below;
      answer_waits = wait_set a.state.timer (IsAnswerable flow.mss F.fields.high (next_of a.state)) answerable;
    }

    -- a flow is this one, or stays as it is
    by_flow : (P : ℕ → FlowPart → Type 0) → P number flow → ((j : ℕ) (other : FlowPart) → slice_get p.flows j ≡ Some other → other.receiver ≢ k.node → P j other) → EachFlow p P
    by_flow P here there j other found =
        ⊎_elim
        (λ (same : other.receiver ≡ k.node). let is = the_receiver j other found same in subst (λ (x : ℕ × FlowPart). P x.0 x.1) (λ i. (sym is.0 i, sym is.1 i)) here)
        (λ (apart : other.receiver ≢ k.node). there j other found apart)
        (cases_eq other.receiver k.node)

    flows : EachFlow p (λ j other. IsSoundFlow t k.time j other)
    flows = by_flow (λ j other. IsSoundFlow t k.time j other) own_flow (λ j other found apart. flow_stays s t now k.time j other upto (sender_stays j other found) (receiver_stays other apart) (S.each_flow j other found))

    rises : EachFlow p (λ _ other. FlowRises s t other)
    rises j other found = record {
      high = (let same = ap high_of (sender_stays j other found) in omega (arith, same));
      next = by_flow (λ _ other. received_next s other ≤ received_next t other)
          (let b = ap next_at F.receiver_role in let c = ap next_at role_now in let e = keeps.next_rises in omega (arith, b, c, e))
          (λ _ other _ apart. let same = ap next_at (receiver_stays other apart) in omega (arith, same)) j other found;
    }

    -- what is sent is an acknowledgement of the flow
    given_packets : (r : Reply) → ((m : ℕ) → r ≡ AckNow m → m ≡ next_of a.state) → AllByRecursion (IsUnderWay p t (link_at part.links 0).port.link) (ack_of number r)
    given_packets (Wait time) is = tt
    given_packets (AckNow m) is =
        let same : m ≡ next_of a.state = is m refl in
        let next : received_next t flow ≡ next_of a.state = ap next_at role_now in
        let high : sent_high t flow ≡ F.fields.high = ap high_of (sender_stays number flow its ∙ F.sender_role) in (
          record {
            flow = flow;
            its_flow = its;
            carries = record {
              bytes_are = refl;
              multiple = subst (λ z. z % flow.mss ≡ 0) (sym same) (subst (λ z. next_of a.state % z ≡ 0) F.same_mss keeps.next_multiple);
              by_next = omega (arith, same, next);
              early = subst (λ h. IsAnswerable flow.mss h m) (sym high) (subst (IsAnswerable flow.mss F.fields.high) (sym same) answerable);
            };
            on_way = subst (λ n. IsOnWay p (ack_path flow) (link_at (part_at s n).links 0).port.link) (sym at) first.on_way;
          },
          tt,
        )

    stays_rto_timer : (f : Role → Option ℕ) (timer : Timer) (node : ℕ) → node ≢ k.node → (part_at t node).role ≡ (part_at s node).role → RtoTimerStays k shape node timer (f (part_at s node).role) (f (part_at t node).role)
    stays_rto_timer f timer node apart same = record {
      same = ap f same;
      not_due = λ time is. apart (ap (λ (q : Key). q.node) is);
      not_old = λ time u _ is. apart (ap (λ (q : Key). q.node) is);
      not_new = λ time u _ is. apart (ap (λ (q : Key). q.node) is);
    }

    few_acks : (r : Reply) → length (ack_of number r) ≤ 2147483648
    few_acks (AckNow m) = omega arith
    few_acks (Wait time) = omega arith

    pub row : ((node index time : ℕ) → timer_key node (BecomesFree index) time ≢ k) → IsRow p s k v shape t
    row not_link = record {
      within = within;
      timer_least = omega arith;
      timer_most = omega arith;
      not_arrival = λ x e. not_arrives x e;
      count = length (ack_of number a.reply);
      few = few_acks a.reply;
      before = (link_at part.links 0).port.next_free;
      entered = inl (record { same = refl; not_free = not_link });
      moves = all_moves (IsUnderWay p t (link_at part.links 0).port.link) (under_way_sized p is_scenario t (link_at part.links 0).port.link) k.time (link_at part.links 0).port (ack_of number a.reply)
          (is_link p is_scenario lines now s S k.node 0 nodes within) (given_packets a.reply keeps.acknowledges) (waits_later p is_scenario lines now s S k.node 0 nodes within t rises);
      flows = flows;
      rises = rises;
      unsent = λ j other found none _. ap high_of (sender_stays j other found) ∙ none;
      routers = λ node is. ap (λ (x : PartState). x.role) (M.elsewhere node (no_router node is));
      role_rises = subst (λ x. RoleRises x (Receives number a.state)) (sym role_here) (refl, keeps.next_rises);
      rto_timers = λ j other found. inl (stays_rto_timer deadline_of Retransmission other.sender (no_sender j other found) (sender_stays j other found));
      delayed = by_flow (λ j other. TimerChanges k shape other.receiver DelayedAcknowledgement (DelAck j) (timer_of (part_at s other.receiver).role) (timer_of (part_at t other.receiver).role))
          (inr (record { at_node = sym at; is_timer = refl; is_event = refl; was = ap timer_of F.receiver_role; is_now = ap timer_of role_now }))
          (λ j other _ apart. inl (stays_rto_timer timer_of DelayedAcknowledgement other.receiver apart (receiver_stays other apart)));
      new_soon = λ u is. ((keeps.timer_soon u is).0, (let most = (keeps.timer_soon u is).1 in omega (arith, most)));
      new_belongs = λ u is. record { flow = flow; its_flow = its; timer = record { is_key = ap (λ n. timer_key n DelayedAcknowledgement u) at; is_set = ap timer_of role_now ∙ is } };
    }
      where
        not_arrives : (x : Packet) → DelAck number ≡ Arrive x → ⊥
        not_arrives x e = cc
