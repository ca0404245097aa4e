-- Each event that is due in a sound state has a row that keeps it sound.
use Rattle.table_run.proofs.RowFlows.{timed_later}
use Rattle.std.proofs.Common.{◌≡◌, ◌≢◌, ℕ, ◌+◌, ◌-◌, ◌*◌, ◌%◌, ◌<◌, ◌≤◌, List, refl, sym, ap, subst, ◌∙◌, Option, Some, IsSome, arith, ⊎_elim}
use Rattle.std.specs.Option.{IfSome}
use Rattle.std.specs.FinMap as finmap
use Rattle.sim_time.specs.declared.key.Key.{Key}
use Rattle.sim_time.specs.declared.limits.TheConstants.{LATEST_END}
use Rattle.packet_chain.specs.declared.packet.Packet.{Packet}
use Rattle.packet_chain.specs.declared.packet.Kind.{Kind}
use Rattle.packet_chain.specs.declared.packet.Kind.TheVariants.{Data, Ack}
use Rattle.reno_sender.specs.Laws.{IsAckFor}
use Rattle.reno_sender.specs.Table.{started, acknowledged, timed_out}
use Rattle.reno_sender.proofs.Laws.{started_keeps, acknowledged_keeps, timed_out_keeps}
use Rattle.reno_receiver.specs.Received.{data_came, timer_came, next_of}
use Rattle.reno_receiver.proofs.Laws.{data_keeps, timer_keeps, next_holds}
use Rattle.scenario_image.specs.declared.parts.ScenarioParts.{ScenarioParts}
use Rattle.scenario_image.specs.Scenario.{IsScenario}
use Rattle.scenario_image.specs.Paths.{IsOnWay}
use Rattle.scenario_image.specs.PathLaws.{PathGoesOn}
use Rattle.scenario_image.proofs.Arrivals.{paths_go_on_or_end}
use Rattle.port.specs.Port.{taken, offered_one}
use Rattle.node_core.specs.declared.timer.Timer.TheVariants.{Retransmission, Free as BecomesFree}
use Rattle.node_core.specs.declared.event.Event.{Event}
use Rattle.node_core.specs.declared.event.Event.TheVariants.{Start, Rto, DelAck, Free, Arrive}
use Rattle.node_core.specs.declared.role.Role.{Role}
use Rattle.node_core.specs.Timers.{timer_key}
use Rattle.node_core.specs.Part.{link_at}
use Rattle.node_core.specs.Row.{start_row, rto_row, delack_row, free_row, arrival_row, at_sender, at_receiver, passed_on}
use Rattle.node_core.specs.TraceLine.{TraceLine}
use Rattle.table_run.specs.State.{State, part_at, effect_of, stepped}
use Rattle.table_run.specs.Flow.{high_of, next_at, deadline_of, timer_of, sent_high, received_next, path_of, IsSent, IsGiven, IsAnswerable, Carries, IsSoundFlow}
use Rattle.table_run.specs.Sound.{Belongs, IsStart, IsTimeout, IsDelayed, IsFree, IsArrival, IsSoundAt}
use Rattle.table_run.proofs.Due.{IsDue}
use Rattle.table_run.proofs.EndFacts.{high_fits, some_flight, data_answer, timer_answer, timeout_fresh, row_fresh, lower_source}
use Rattle.table_run.proofs.Exits.{has_exit, exit_by_table}
use Rattle.table_run.proofs.Moved.{Shape, shaped}
use Rattle.table_run.proofs.Rows.{IsRow}
use Rattle.table_run.proofs.RowLinks.{flow_limits}
use Rattle.table_run.proofs.SenderRow as sender
use Rattle.table_run.proofs.ReceiverRow as receiver
use Rattle.table_run.proofs.ReceiverRow.{AnswerKeeps}
use Rattle.table_run.proofs.LinkRow as link
use Rattle.table_run.proofs.LinkRow.{free_row_is, pass_row_is}

-- the row of an event
pub record HasRow (p : ScenarioParts) (s : State) (k : Key) (v : Event) : Type 0 where
  pub shape : Shape
  pub effect_is : effect_of s (k, v) ≡ shaped (part_at s k.node) k shape
  pub row : IsRow p s k v shape (stepped s k (shaped (part_at s k.node) k shape))

module _ (p : ScenarioParts) (is_scenario : IsScenario p) (lines : List TraceLine) (now : ℕ) (s : State) (k : Key) (S : IsSoundAt p lines now s) (moment : k.time ≤ LATEST_END) where
  role_at : (node : ℕ) → k.node ≡ node → (role : Role) → (part_at s node).role ≡ role → (part_at s k.node).role ≡ role
  role_at node at role is = ap (λ n. (part_at s n).role) at ∙ is

  start_has : (number : ℕ) → IsDue s k (Start number) → IsStart p k number → HasRow p s k (Start number)
  start_has number due h =
      let F = S.each_flow number h.flow h.its_flow in
      let at : k.node ≡ h.flow.sender = ap (λ (q : Key). q.node) h.is_key in
      let keeps = started_keeps F.fields k.time F.sound moment in
      let none : F.fields.high ≡ 0 = sym (ap high_of F.sender_role) ∙ S.unstarted number h.flow h.its_flow (ap (finmap.get s.pending) (sym h.is_key) ∙ due.pending) in
      record {
        shape = sender.shape p is_scenario lines now s k (Start number) S due number h.flow h.its_flow at (started F.fields k.time);
        effect_is = ap (λ ρ. start_row (part_at s k.node) ρ k) (role_at h.flow.sender at _ F.sender_role);
        row = sender.row p is_scenario lines now s k (Start number) S due number h.flow h.its_flow at (started F.fields k.time) keeps
            (λ node index time same. not_link index (ap (λ (q : Key). q.number) (same ∙ h.is_key)))
            (λ u is. row_fresh k.time u F.fields.deadline (started F.fields k.time).fields.deadline (λ d was. let more = some_flight F.fields F.sound d was in absurd (omega (arith, none, more))) keeps.deadline is)
            (λ _. refl);
      }
    where
      not_link : (index : ℕ) → 3 + index ≡ 0 → ⊥
      not_link index e = omega (arith, e)

  rto_has : (number : ℕ) → IsDue s k (Rto number) → IsTimeout p s k number → HasRow p s k (Rto number)
  rto_has number due h =
      let F = S.each_flow number h.flow h.its_flow in
      let at : k.node ≡ h.flow.sender = ap (λ (q : Key). q.node) h.timer.is_key in
      let set : F.fields.deadline ≡ Some k.time = sym (ap deadline_of F.sender_role) ∙ h.timer.is_set in
      let keeps = timed_out_keeps F.fields k.time F.sound moment (subst (λ (o : Option ℕ). IsSome o) (sym set) refl) in
      let more = some_flight F.fields F.sound k.time set in
      let high : sent_high s h.flow ≡ F.fields.high = ap high_of F.sender_role in
      record {
        shape = sender.shape p is_scenario lines now s k (Rto number) S due number h.flow h.its_flow at (timed_out F.fields k.time);
        effect_is = ap (λ ρ. rto_row (part_at s k.node) ρ k) (role_at h.flow.sender at _ F.sender_role);
        row = sender.row p is_scenario lines now s k (Rto number) S due number h.flow h.its_flow at (timed_out F.fields k.time) keeps
            (λ node index time same. not_link index (ap (λ (q : Key). q.number) (same ∙ h.timer.is_key)))
            (λ u is. timeout_fresh F.fields k.time u F.sound is)
            (λ none. absurd (omega (arith, none, more, high)));
      }
    where
      not_link : (index : ℕ) → 3 + index ≡ 1 → ⊥
      not_link index e = omega (arith, e)

  delack_has : (number : ℕ) → IsDue s k (DelAck number) → IsDelayed p s k number → HasRow p s k (DelAck number)
  delack_has number due h =
      let F = S.each_flow number h.flow h.its_flow in
      let at : k.node ≡ h.flow.receiver = ap (λ (q : Key). q.node) h.timer.is_key in
      let set : F.received.timer ≡ Some k.time = sym (ap timer_of F.receiver_role) ∙ h.timer.is_set in
      let waited : IsAnswerable h.flow.mss F.fields.high (next_of F.received) = subst (λ o. IfSome o (λ _. IsAnswerable h.flow.mss F.fields.high (next_of F.received))) set F.answer_waits in
      record {
        shape = receiver.shape p is_scenario lines now s k (DelAck number) S due number h.flow h.its_flow at (timer_came F.received);
        effect_is = ap (λ ρ. delack_row (part_at s k.node) ρ k) (role_at h.flow.receiver at _ F.receiver_role);
        row = receiver.row p is_scenario lines now s k (DelAck number) S due number h.flow h.its_flow at (timer_came F.received)
            (timer_answer F.received k.time F.fields.high (timer_came F.received) (next_holds F.received F.well_formed).least.multiple (subst (λ m. IsAnswerable m F.fields.high (next_of F.received)) (sym F.same_mss) waited)
            (timer_keeps F.received F.well_formed) (λ x got. subst (λ m. x + m ≤ F.fields.high) (sym F.same_mss) (F.received_sent x got)))
            (λ node index time same. not_link index (ap (λ (q : Key). q.number) (same ∙ h.timer.is_key)));
      }
    where
      not_link : (index : ℕ) → 3 + index ≡ 2 → ⊥
      not_link index e = omega (arith, e)

  free_has : (number : ℕ) → IsDue s k (Free number) → IsFree s k number → HasRow p s k (Free number)
  free_has number due h =
      let step = taken k.time (link_at (part_at s k.node).links h.index).port in
      let index : k.number - 3 ≡ h.index = (let is : k.number ≡ 3 + h.index = ap (λ (q : Key). q.number) h.timer.is_key in omega (arith, is)) in
      record {
        shape = link.shape p is_scenario lines now s k (Free number) S due h.index h.link.within step;
        effect_is = ap (free_row (part_at s k.node) k) index;
        row = free_row_is p is_scenario lines now s k number S due h;
      }

  -- what a packet that arrives needs of the end of its way
  pub ack_fits : (x : Packet) → IsDue s k (Arrive x) → (h : IsArrival p s now k x) → (F : IsSoundFlow s now x.flow h.under_way.flow) → IsGiven h.under_way.flow (sent_high s h.under_way.flow) (received_next s h.under_way.flow) x → IsAckFor F.fields x.number k.time
  ack_fits x due h F g = record {
    multiple = subst (λ m. x.number % m ≡ 0) (sym F.its_mss) g.multiple;
    most = (let a = g.by_next in let b = F.next_sent in let c = ap next_at F.receiver_role in omega (arith, a, b, c));
    timed_before = timed_later now k.time F.fields.timing (S.not_past k (Arrive x) due.pending) F.timed_before;
  }

  passes : (x : Packet) → IsDue s k (Arrive x) → (h : IsArrival p s now k x) → PathGoesOn p (path_of x.kind h.under_way.flow) k.node → HasRow p s k (Arrive x)
  passes x due h on =
      let U = h.under_way in
      let e = has_exit p lines now s k S (path_of x.kind U.flow) on in
      let step = offered_one k.time (link_at (part_at s k.node).links e.index).port x in
      record {
        shape = link.shape p is_scenario lines now s k (Arrive x) S due e.index e.within step;
        effect_is = ap (λ ρ. arrival_row (part_at s k.node) ρ k x) e.role_is ∙ ap (passed_on (part_at s k.node) k x) (exit_by_table p k.node x U.flow U.its_flow ∙ e.exit);
        row = pass_row_is p is_scenario lines now s k x S due e.index e.within (record { flow = U.flow; its_flow = U.its_flow; carries = U.carries; on_way = e.on_way }) h.number h.comes_over;
      }

  not_link_of : (x : Packet) → IsArrival p s now k x → (node index time : ℕ) → timer_key node (BecomesFree index) time ≢ k
  not_link_of x h node index time same = none (ap (λ (q : Key). q.source) same)
    where
      none : 0 ≡ k.source → ⊥
      none e = let over = h.comes_over in omega (arith, e, over)

  data_ends : (x : Packet) → IsDue s k (Arrive x) → (h : IsArrival p s now k x) → x.kind ≡ Data → k.node ≡ h.under_way.flow.receiver → HasRow p s k (Arrive x)
  data_ends x due h is at =
      let U = h.under_way in
      let F = S.each_flow x.flow U.flow U.its_flow in
      let sent : IsSent U.flow (sent_high s U.flow) x = subst (λ c. Carries U.flow (sent_high s U.flow) (received_next s U.flow) c x) is U.carries in
      let whole : x.number % F.received.mss ≡ 0 = subst (λ m. x.number % m ≡ 0) (sym F.same_mss) sent.multiple in
      let below : x.number + F.received.mss ≤ F.fields.high = (let a = sent.by_high in let b = ap high_of F.sender_role in let c = F.same_mss in omega (arith, a, b, c)) in
      let fits : x.number ≤ 9000000000000 = (let most = high_fits F.fields F.sound in omega (arith, below, most)) in
      record {
        shape = receiver.shape p is_scenario lines now s k (Arrive x) S due x.flow U.flow U.its_flow at (data_came F.received x.number k.time);
        effect_is = ap (λ ρ. arrival_row (part_at s k.node) ρ k x) (role_at U.flow.receiver at _ F.receiver_role) ∙ ap (λ c. at_receiver (part_at s k.node) k x.flow F.received c x.number) is;
        row = receiver.row p is_scenario lines now s k (Arrive x) S due x.flow U.flow U.its_flow at (data_came F.received x.number k.time)
            (data_answer F.received x.number k.time F.fields.high (data_came F.received x.number k.time) F.well_formed.delack_greatest whole (data_keeps F.received x.number k.time F.well_formed whole fits moment) below
            (λ y got. subst (λ m. y + m ≤ F.fields.high) (sym F.same_mss) (F.received_sent y got)))
            (not_link_of x h);
      }

  ack_ends : (x : Packet) → IsDue s k (Arrive x) → (h : IsArrival p s now k x) → x.kind ≡ Ack → k.node ≡ h.under_way.flow.sender → HasRow p s k (Arrive x)
  ack_ends x due h is at =
      let U = h.under_way in
      let F = S.each_flow x.flow U.flow U.its_flow in
      let given : IsGiven U.flow (sent_high s U.flow) (received_next s U.flow) x = subst (λ c. Carries U.flow (sent_high s U.flow) (received_next s U.flow) c x) is U.carries in
      let fits : IsAckFor F.fields x.number k.time = ack_fits x due h F given in
      let keeps = acknowledged_keeps F.fields x.number k.time F.sound moment fits in
      let mss = (flow_limits p is_scenario x.flow U.flow U.its_flow).mss_range.0 in
      let high : sent_high s U.flow ≡ F.fields.high = ap high_of F.sender_role in
      record {
        shape = sender.shape p is_scenario lines now s k (Arrive x) S due x.flow U.flow U.its_flow at (acknowledged F.fields x.number k.time);
        effect_is = ap (λ ρ. arrival_row (part_at s k.node) ρ k x) (role_at U.flow.sender at _ F.sender_role) ∙ ap (λ c. at_sender (part_at s k.node) k x.flow F.fields c x.number) is;
        row = sender.row p is_scenario lines now s k (Arrive x) S due x.flow U.flow U.its_flow at (acknowledged F.fields x.number k.time) keeps
            (not_link_of x h)
            (λ u new. row_fresh k.time u F.fields.deadline (acknowledged F.fields x.number k.time).fields.deadline (λ d was. set_later x due h at F d was) keeps.deadline new)
            (λ none. absurd (some_sent U.flow.mss (sent_high s U.flow) x.number mss none given.early (let most = fits.most in omega (arith, most, high))));
      }
    where
      some_sent : (mss high number : ℕ) → 1 ≤ mss → high ≡ 0 → IsAnswerable mss high number → number ≤ high → ⊥
      some_sent mss high number least none early most = ⊎_elim (λ (a : mss ≤ number). omega (arith, a, least, none, most)) (λ (b : 2 * mss ≤ high). omega (arith, b, least, none)) early

      set_later : (x : Packet) → IsDue s k (Arrive x) → (h : IsArrival p s now k x) → k.node ≡ h.under_way.flow.sender → (F : IsSoundFlow s now x.flow h.under_way.flow) → (d : ℕ) → F.fields.deadline ≡ Some d → k.time < d
      set_later x due h at F d was =
          let q = timer_key h.under_way.flow.sender Retransmission d in
          let there : finmap.get s.pending q ≡ Some (Rto x.flow) = subst (λ o. IfSome o (λ t. finmap.get s.pending (timer_key h.under_way.flow.sender Retransmission t) ≡ Some (Rto x.flow))) (ap deadline_of F.sender_role ∙ was) (S.timers.rto_timers x.flow h.under_way.flow h.under_way.its_flow) in
          let upto : k.time ≤ d = due.first q (Rto x.flow) there in
          let apart : k.time ≢ d = λ same. due.none_less q (Rto x.flow) there (lower_source q k (sym same) (sym at) (let over = h.comes_over in omega (arith, over))) in
          omega (arith, upto, apart)

  arrive_has : (x : Packet) → IsDue s k (Arrive x) → IsArrival p s now k x → HasRow p s k (Arrive x)
  arrive_has x due h =
      by x.kind refl
    where
      by : (c : Kind) → x.kind ≡ c → HasRow p s k (Arrive x)
      by Data is =
          let U = h.under_way in
          let on_way = subst (λ c. IsOnWay p (path_of c U.flow) h.number) is U.on_way in
          ⊎_elim
          (λ (ends : h.link.to ≡ U.flow.receiver). data_ends x due h is (h.ends_here ∙ ends))
          (λ (on : PathGoesOn p (path_of Data U.flow) h.link.to). passes x due h (subst (λ c. PathGoesOn p (path_of c U.flow) k.node) (sym is) (subst (PathGoesOn p (path_of Data U.flow)) (sym h.ends_here) on)))
          ((paths_go_on_or_end p is_scenario x.flow U.flow U.its_flow).0 h.number h.link on_way h.its_link)
      by Ack is =
          let U = h.under_way in
          let on_way = subst (λ c. IsOnWay p (path_of c U.flow) h.number) is U.on_way in
          ⊎_elim
          (λ (ends : h.link.to ≡ U.flow.sender). ack_ends x due h is (h.ends_here ∙ ends))
          (λ (on : PathGoesOn p (path_of Ack U.flow) h.link.to). passes x due h (subst (λ c. PathGoesOn p (path_of c U.flow) k.node) (sym is) (subst (PathGoesOn p (path_of Ack U.flow)) (sym h.ends_here) on)))
          ((paths_go_on_or_end p is_scenario x.flow U.flow U.its_flow).1 h.number h.link on_way h.its_link)

  -- each event that is due
  pub has_row : (v : Event) → IsDue s k v → Belongs p s now k v → HasRow p s k v
  has_row (Start number) due h = start_has number due h
  has_row (Rto number) due h = rto_has number due h
  has_row (DelAck number) due h = delack_has number due h
  has_row (Free number) due h = free_has number due h
  has_row (Arrive x) due h = arrive_has x due h
