-- What is acknowledged at a sender its receiver has: an event raises una at most to the number of an acknowledgement that arrives.
use Rattle.std.proofs.Common.{◌≡◌, ◌≢◌, ℕ, zero, suc, ◌≤◌, List, [], refl, sym, ap, subst, ◌∙◌, Option, Some, None, arith, inl, inr, ◌⊎◌, ⊎_elim}
use Rattle.std.specs.List.{slice_get}
use Rattle.std.proofs.lemmas.Bool.{cases_eq}
use Rattle.std.proofs.lemmas.List.{get_or-set_same, get_or-set_other}
use Rattle.std.proofs.lemmas.Option.{option_and_then_some}
use Rattle.std.specs.FinMap as finmap
use Rattle.sim_time.specs.declared.key.Key.{Key}
use Rattle.packet_chain.specs.declared.packet.Packet.{Packet}
use Rattle.packet_chain.specs.declared.packet.Kind.{Kind}
use Rattle.packet_chain.specs.declared.packet.Kind.TheVariants.{Data, Ack}
use Rattle.reno_sender.specs.declared.fields.SenderFields.{SenderFields}
use Rattle.reno_sender.specs.Sending.{Planned}
use Rattle.reno_sender.specs.LossRecovery.{may_send_new, partly}
use Rattle.reno_sender.specs.Table.{started, acknowledged, timed_out}
use Rattle.reno_sender.proofs.RowLaws.{by_rows}
use Rattle.run_laws.proofs.Ports.{by_test}
use Rattle.reno_receiver.specs.Received.{ReceiverState, next_of}
use Rattle.scenario_image.specs.declared.parts.FlowPart.{FlowPart}
use Rattle.scenario_image.specs.declared.parts.ScenarioParts.{ScenarioParts}
use Rattle.scenario_image.specs.Scenario.{IsScenario}
use Rattle.scenario_image.specs.Paths.{IsOnWay}
use Rattle.scenario_image.specs.PathLaws.{PathGoesOn}
use Rattle.scenario_image.proofs.Arrivals.{paths_go_on_or_end}
use Rattle.node_core.specs.declared.event.Event.{Event}
use Rattle.node_core.specs.declared.event.Event.TheVariants.{Start, Rto, DelAck, Free, Arrive}
use Rattle.node_core.specs.declared.role.Role.{Role}
use Rattle.node_core.specs.declared.role.Role.TheVariants.{Sends, Receives, Routes}
use Rattle.node_core.specs.declared.routes.FlowExits.{FlowExits}
use Rattle.node_core.specs.Part.{PartState}
use Rattle.node_core.specs.Row.{start_row, rto_row, delack_row, arrival_row, at_sender, at_receiver, passed_on, row}
use Rattle.node_core.specs.RouteTable.{exit_for}
use Rattle.node_core.specs.TraceLine.{TraceLine}
use Rattle.tournament.proofs.Maps.{same_some}
use Rattle.table_run.specs.State.{State, initial, part_at, no_part, due, effect_of, stepped, one_step_more, run}
use Rattle.table_run.specs.Flow.{next_at, high_of, sent_high, received_next, path_of, IsGiven, Carries}
use Rattle.table_run.specs.Sound.{IsArrival, IsSoundAt}
use Rattle.table_run.specs.Laws.{IsSoundRun, RoleRises}
use Rattle.table_run.proofs.Due.{is_due}
use Rattle.table_run.proofs.Exits.{has_exit}
use Rattle.table_run.proofs.Runs.{of_step, of_one_more}
use Rattle.table_run.proofs.RunLaws.{sound_run, kept_by}

-- the first byte that a sender does not know to be acknowledged; 0 at other nodes
abbrev una_of : Role → ℕ
una_of (Sends flow f) = f.una
una_of (Receives flow r) = 0
una_of (Routes table) = 0

-- una is as it was, or an acknowledgement's number
abbrev IsRaised : SenderFields → ℕ → Planned → Type 0
IsRaised f ack q = (q.fields.una ≡ f.una) ⊎ (q.fields.una ≡ ack)

acknowledged_raises : (f : SenderFields) (ack now : ℕ) → IsRaised f ack (acknowledged f ack now)
acknowledged_raises f ack now =
    by_rows (IsRaised f ack) f ack now (λ _ _. inr refl)
    (λ _ _. by_test (IsRaised f ack) (may_send_new (partly f ack now) _) _ _ (λ _. inr refl) (λ _. inr refl))
    (inl refl)
    (λ _. by_test (IsRaised f ack) (may_send_new f _) _ _ (λ _. inl refl) (λ _. inl refl))
    (λ _ _ _. inl refl) (λ _ _. inl refl)
    (λ _ _. by_test (IsRaised f ack) (may_send_new f _) _ _ (λ _. inl refl) (λ _. inl refl))
    (λ _ _. inl refl)

started_keeps_una : (f : SenderFields) (now : ℕ) → (started f now).fields.una ≡ f.una
unfolding started
started_keeps_una f now = refl

timeout_keeps_una : (f : SenderFields) (now : ℕ) → (timed_out f now).fields.una ≡ f.una
unfolding timed_out
timeout_keeps_una f now = refl

-- the event is an acknowledgement of this number or more that comes to a sender
record IsAckUpTo (v : Event) (una : ℕ) : Type 0 where
  pub packet : Packet
  pub arrives : v ≡ Arrive packet
  pub is_ack : packet.kind ≡ Ack
  pub up_to : una ≤ packet.number

-- what a row leaves
abbrev RaisesUna : PartState → Event → PartState → Type 0
RaisesUna part v after = (una_of after.role ≤ una_of part.role) ⊎ IsAckUpTo v (una_of after.role)

module _ (part : PartState) (key : Key) where
  at_start : (number : ℕ) (ρ : Role) → part.role ≡ ρ → RaisesUna part (Start number) (start_row part ρ key).part
  at_start number (Sends flow f) is = inl (let a = started_keeps_una f key.time in let b = ap una_of is in omega (arith, a, b))
  at_start number (Receives flow r) is = inl (omega arith)
  at_start number (Routes table) is = inl (omega arith)

  at_timeout : (number : ℕ) (ρ : Role) → part.role ≡ ρ → RaisesUna part (Rto number) (rto_row part ρ key).part
  at_timeout number (Sends flow f) is = inl (let a = timeout_keeps_una f key.time in let b = ap una_of is in omega (arith, a, b))
  at_timeout number (Receives flow r) is = inl (omega arith)
  at_timeout number (Routes table) is = inl (omega arith)

  at_delack : (number : ℕ) (ρ : Role) → part.role ≡ ρ → RaisesUna part (DelAck number) (delack_row part ρ key).part
  at_delack number (Sends flow f) is = inl (omega arith)
  at_delack number (Receives flow r) is = inl (omega arith)
  at_delack number (Routes table) is = inl (omega arith)

  passing : (x : Packet) (exit : Option ℕ) → RaisesUna part (Arrive x) (passed_on part key x exit).part
  passing x None = inl (omega arith)
  passing x (Some index) = inl (omega arith)

  coming : (x : Packet) (flow : ℕ) (f : SenderFields) → part.role ≡ Sends flow f → (kind : Kind) → x.kind ≡ kind → RaisesUna part (Arrive x) (at_sender part key flow f kind x.number).part
  coming x flow f is Data kind_is = inl (omega arith)
  coming x flow f is Ack kind_is =
      ⊎_elim
      (λ (same : (acknowledged f x.number key.time).fields.una ≡ f.una). inl (let b = ap una_of is in omega (arith, same, b)))
      (λ (raised : (acknowledged f x.number key.time).fields.una ≡ x.number). inr (record { packet = x; arrives = refl; is_ack = kind_is; up_to = omega (arith, raised) }))
      (acknowledged_raises f x.number key.time)

  got : (x : Packet) (flow : ℕ) (r : ReceiverState) (kind : Kind) → RaisesUna part (Arrive x) (at_receiver part key flow r kind x.number).part
  got x flow r Data = inl (omega arith)
  got x flow r Ack = inl (omega arith)

  at_arrival : (x : Packet) (ρ : Role) → part.role ≡ ρ → RaisesUna part (Arrive x) (arrival_row part ρ key x).part
  at_arrival x (Sends flow f) is = coming x flow f is x.kind refl
  at_arrival x (Receives flow r) is = got x flow r x.kind
  at_arrival x (Routes table) is = passing x (exit_for table x)

  row_raises : (v : Event) → RaisesUna part v (row part key v).part
  row_raises (Start number) = at_start number part.role refl
  row_raises (Rto number) = at_timeout number part.role refl
  row_raises (DelAck number) = at_delack number part.role refl
  row_raises (Free number) = inl (omega arith)
  row_raises (Arrive x) = at_arrival x part.role refl

-- the flow of a sender, by its number
abbrev sender_number : Role → Option ℕ
sender_number (Sends flow f) = Some flow
sender_number (Receives flow r) = None
sender_number (Routes table) = None

is_no_router : (number : ℕ) (f : SenderFields) (table : List FlowExits) → Sends number f ≡ Routes table → ⊥
is_no_router number f table e = cc

next_rises : (a b : Role) → RoleRises a b → next_at a ≤ next_at b
next_rises (Sends i f) (Sends j g) h = omega arith
next_rises (Sends i f) (Receives j g) h = omega arith
next_rises (Sends i f) (Routes g) h = omega arith
next_rises (Receives i f) (Sends j g) h = absurd h
next_rises (Receives i f) (Receives j g) h = h.1
next_rises (Receives i f) (Routes g) h = absurd h
next_rises (Routes f) (Sends j g) h = absurd h
next_rises (Routes f) (Receives j g) h = omega arith
next_rises (Routes f) (Routes g) h = omega arith

-- at each sender una is at most the next byte of its receiver
abbrev pub AreReceived : ScenarioParts → State → Type 0
AreReceived p s = (number : ℕ) (flow : FlowPart) → slice_get p.flows number ≡ Some flow → una_of (part_at s flow.sender).role ≤ received_next s flow

module _ (p : ScenarioParts) (is_scenario : IsScenario p) (lines : List TraceLine) (now : ℕ) (s : State) (S : IsSoundAt p lines now s) where
  -- an acknowledgement that comes to a flow's sender is of that flow
  pub ack_given : (k : Key) (x : Packet) → IsArrival p s now k x → x.kind ≡ Ack → (number : ℕ) (flow : FlowPart) → slice_get p.flows number ≡ Some flow → flow.sender ≡ k.node → IsGiven flow (sent_high s flow) (received_next s flow) x
  ack_given k x h is number flow its at =
      let U = h.under_way in
      let F = S.each_flow number flow its in
      let G = S.each_flow x.flow U.flow U.its_flow in
      let given : IsGiven U.flow (sent_high s U.flow) (received_next s U.flow) x = subst (λ c. Carries U.flow (sent_high s U.flow) (received_next s U.flow) c x) is U.carries in
      let on_way = subst (λ c. IsOnWay p (path_of c U.flow) h.number) is U.on_way in
      ⊎_elim
      (λ (ends : h.link.to ≡ U.flow.sender).
      let node : flow.sender ≡ U.flow.sender = at ∙ h.ends_here ∙ ends in
      let roles : Sends number F.fields ≡ Sends x.flow G.fields = sym F.sender_role ∙ ap (λ n. (part_at s n).role) node ∙ G.sender_role in
      let numbers : number ≡ x.flow = same_some number x.flow (ap sender_number roles) in
      let flows : flow ≡ U.flow = same_some flow U.flow (sym its ∙ ap (slice_get p.flows) numbers ∙ U.its_flow) in
      subst (λ (g : FlowPart). IsGiven g (sent_high s g) (received_next s g) x) (sym flows) given)
      (λ (on : PathGoesOn p (path_of Ack U.flow) h.link.to).
      let e = has_exit p lines now s k S (path_of Ack U.flow) (subst (PathGoesOn p (path_of Ack U.flow)) (sym h.ends_here) on) in
      absurd (is_no_router number F.fields _ (sym F.sender_role ∙ ap (λ n. (part_at s n).role) at ∙ e.role_is)))
      ((paths_go_on_or_end p is_scenario x.flow U.flow U.its_flow).1 h.number h.link on_way h.its_link)

  una_by_next : (k : Key) (v : Event) → finmap.get s.pending k ≡ Some v → AreReceived p s → (number : ℕ) (flow : FlowPart) → slice_get p.flows number ≡ Some flow → flow.sender ≡ k.node → una_of (row (part_at s k.node) k v).part.role ≤ received_next s flow
  una_by_next k v there all number flow its at =
      ⊎_elim
      (λ (kept : una_of (row (part_at s k.node) k v).part.role ≤ una_of (part_at s k.node).role).
      let before = all number flow its in
      let same = ap (λ n. una_of (part_at s n).role) at in
      omega (arith, kept, before, same))
      (λ (acked : IsAckUpTo v (una_of (row (part_at s k.node) k v).part.role)).
      let x = acked.packet in
      let given = ack_given k x (S.belongs k (Arrive x) (there ∙ ap (λ (w : Event). Some w) acked.arrives)) acked.is_ack number flow its at in
      let most = acked.up_to in let fits = given.by_next in omega (arith, most, fits))
      (row_raises (part_at s k.node) k v)

received_step : (p : ScenarioParts) (lines : List TraceLine) (s : State) (k : Key) (v : Event) → IsScenario p → IsSoundRun p lines s → due s ≡ Some (k, v) → AreReceived p s → AreReceived p (stepped s k (effect_of s (k, v)))
received_step p lines s k v is_scenario sound e all number flow its =
    let t = stepped s k (effect_of s (k, v)) in
    let part = (effect_of s (k, v)).part in
    let kept = kept_by p lines s k v is_scenario sound e in
    let there = is_due s k v e in
    let here : part_at t k.node ≡ part = get_or-set_same s.parts k.node part no_part kept.within in
    let next : received_next s flow ≤ received_next t flow = ⊎_elim
    (λ (at : flow.receiver ≡ k.node).
    let rises = next_rises (part_at s k.node).role part.role kept.rises in
    let a = ap (λ n. next_at (part_at s n).role) at in
    let b = ap (λ n. next_at (part_at t n).role) at in
    let c = ap (λ (x : PartState). next_at x.role) here in
    omega (arith, rises, a, b, c))
    (λ (other : flow.receiver ≢ k.node). let same = ap (λ (x : PartState). next_at x.role) (get_or-set_other s.parts k.node flow.receiver part no_part other) in omega (arith, same))
    (cases_eq flow.receiver k.node) in
    ⊎_elim
    (λ (at : flow.sender ≡ k.node).
    let most = una_by_next p is_scenario lines sound.moment s sound.sound k v there.pending all number flow its at in
    let a = ap (λ n. una_of (part_at t n).role) at in
    let b = ap (λ (x : PartState). una_of x.role) here in
    omega (arith, most, next, a, b))
    (λ (other : flow.sender ≢ k.node).
    let same = ap (λ (x : PartState). una_of x.role) (get_or-set_other s.parts k.node flow.sender part no_part other) in
    let before = all number flow its in
    omega (arith, same, before, next))
    (cases_eq flow.sender k.node)

-- at first nothing is sent
received_initial : (p : ScenarioParts) → IsScenario p → AreReceived p (initial p)
received_initial p is_scenario number flow its =
    let sound = (sound_run p zero [] (initial p) is_scenario refl).sound in
    let F = sound.each_flow number flow its in
    let none : sent_high (initial p) flow ≡ 0 = sound.unstarted number flow its (sound.starts.waits number flow its tt) in
    let a = ap una_of F.sender_role in
    let b = ap high_of F.sender_role in
    let c = F.sound.una_nxt in
    let d = F.sound.nxt_high in
    omega (arith, none, a, b, c, d)

-- so in each state
pub all_received : (p : ScenarioParts) (n : ℕ) (lines : List TraceLine) (s : State) → IsScenario p → run (initial p) n ≡ Some (lines, s) → AreReceived p s
all_received p zero lines s is e = subst (AreReceived p) (ap (λ (q : List TraceLine × State). q.1) (same_some ([], initial p) (lines, s) e)) (received_initial p is)
all_received p (suc n) lines s is e =
    option_and_then_some one_step_more (run (initial p) n) (lines, s) e (λ so_far was now.
    of_one_more so_far lines s now (λ line step_is _.
    of_step so_far.1 line s step_is (λ k v due_is new_is _.
    subst (AreReceived p) (sym new_is) (received_step p so_far.0 so_far.1 k v is (sound_run p n so_far.0 so_far.1 is was) due_is (all_received p n so_far.0 so_far.1 is was)))))

-- the same of a flow's two ends
pub una_received : (p : ScenarioParts) (s : State) (number : ℕ) (flow : FlowPart) (f : SenderFields) (r : ReceiverState) → AreReceived p s → slice_get p.flows number ≡ Some flow → (part_at s flow.sender).role ≡ Sends number f → (part_at s flow.receiver).role ≡ Receives number r → f.una ≤ next_of r
una_received p s number flow f r all its sends receives =
    let a = all number flow its in
    let b = ap una_of sends in
    let c = ap next_at receives in
    omega (arith, a, b, c)
