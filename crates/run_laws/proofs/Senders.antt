-- Each event at a sender is a row of its table.
use Rattle.std.proofs.Common.{◌≡◌, ◌≢◌, ℕ, ◌*◌, ◌%◌, ◌<◌, ◌≤◌, List, inl, inr, refl, sym, ap, subst, ◌∙◌, Option, Some, IsSome, arith}
use Rattle.std.proofs.lemmas.Nat.{mul-le}
use Rattle.std.specs.List.{slice_get}
use Rattle.std.specs.FinMap as finmap
use Rattle.sim_time.specs.declared.key.Key.{Key}
use Rattle.packet_chain.specs.declared.packet.Packet.{Packet}
use Rattle.packet_chain.specs.declared.packet.Kind.{Kind}
use Rattle.packet_chain.specs.declared.packet.Kind.TheVariants.{Data, Ack}
use Rattle.scenario_image.specs.declared.parts.FlowPart.{FlowPart}
use Rattle.scenario_image.specs.declared.parts.ScenarioParts.{ScenarioParts}
use Rattle.scenario_image.specs.Scenario.{IsScenario}
use Rattle.reno_sender.specs.declared.fields.SenderFields.{SenderFields}
use Rattle.reno_sender.specs.Fields.{IsSound, total}
use Rattle.reno_sender.specs.Laws.{IsAckFor}
use Rattle.reno_sender.specs.Sending.{Planned}
use Rattle.reno_sender.specs.LossRecovery.{nothing_sent}
use Rattle.reno_sender.specs.Table.{started, acknowledged, timed_out}
use Rattle.reno_sender.proofs.RowLaws.{start_never_times_resent, acknowledgement_never_times_resent, timeout_never_times_resent, timeout_doubles_rto, rto_stays_until_sample}
use Rattle.node_core.specs.declared.event.Event.{Event}
use Rattle.node_core.specs.declared.event.Event.TheVariants.{Start, Rto, DelAck, Free, Arrive}
use Rattle.node_core.specs.declared.role.Role.TheVariants.{Sends}
use Rattle.node_core.specs.Part.{PartState}
use Rattle.node_core.specs.Row.{start_row, rto_row, delack_row, arrival_row, at_sender, row}
use Rattle.node_core.specs.TraceLine.{TraceLine}
use Rattle.table_run.specs.State.{State, part_at, due, effect_of, stepped}
use Rattle.table_run.specs.Flow.{high_of, next_at, deadline_of, IsSoundFlow, sent_high, received_next, IsGiven}
use Rattle.table_run.specs.Sound.{Belongs, IsStart, IsTimeout, IsArrival}
use Rattle.table_run.specs.Laws.{IsSoundRun}
use Rattle.table_run.proofs.Due.{is_due}
use Rattle.table_run.proofs.RowFlows.{timed_later}
use Rattle.table_run.proofs.RunLaws.{sound_run}
use Rattle.run_laws.specs.Senders.{for_packet, row_of, AtEachSender, FitsWindows, IsSilentOnceComplete, EndsAfterRto, GoesByTimeouts, TimesNoneResent}
use Rattle.run_laws.proofs.Acknowledged.{ack_given}
use Rattle.run_laws.proofs.Events.{here}
use Rattle.run_laws.proofs.Rows.{FitsAtAck, started_fits, timeout_fits, ack_fits, started_ends, timeout_ends, ack_ends, start_keeps_rto, ack_silent}

same_fields : (a b : ℕ) (f g : SenderFields) → Sends a f ≡ Sends b g → f ≡ g
same_fields a b f g e = cc

-- the role that a sender's row leaves
module _ (part : PartState) (key : Key) (number : ℕ) (f : SenderFields) (is : part.role ≡ Sends number f) where
  by_kind : (x : Packet) (kind : Kind) → (at_sender part key number f kind x.number).part.role ≡ Sends number (for_packet f kind x.number key.time).fields
  by_kind x Data = is
  by_kind x Ack = refl

  row_role : (v : Event) → (row part key v).part.role ≡ Sends number (row_of f v key.time).fields
  row_role (Start flow) = ap (λ ρ. (start_row part ρ key).part.role) is
  row_role (Rto flow) = ap (λ ρ. (rto_row part ρ key).part.role) is
  row_role (DelAck flow) = ap (λ ρ. (delack_row part ρ key).part.role) is ∙ is
  row_role (Free link) = is
  row_role (Arrive x) = ap (λ ρ. (arrival_row part ρ key x).part.role) is ∙ by_kind x x.kind

-- neither the flow's start, nor its timeout, nor an acknowledgement
pub record IsAnother (v : Event) : Type 0 where
  pub not_start : (number : ℕ) → v ≢ Start number
  pub not_timeout : (number : ℕ) → v ≢ Rto number
  pub not_ack : (x : Packet) → v ≡ Arrive x → x.kind ≢ Ack

-- what is known of an event at a sender
pub data Comes (now : ℕ) (f : SenderFields) : Event → Type 0 where
  starts : {v : Event} (number : ℕ) → v ≡ Start number → f.high ≡ 0 → Comes now f v
  times_out : {v : Event} (number : ℕ) → v ≡ Rto number → IsSome f.deadline → Comes now f v
  acks : {v : Event} (x : Packet) → v ≡ Arrive x → x.kind ≡ Ack → IsAckFor f x.number now → Comes now f v
  others : {v : Event} → ((at : ℕ) → row_of f v at ≡ nothing_sent f) → IsAnother v → Comes now f v

del_ack_not : (a number : ℕ) → DelAck a ≢ Rto number
del_ack_not a number e = cc

free_not : (a number : ℕ) → Free a ≢ Rto number
free_not a number e = cc

pub arrive_not : (x : Packet) (number : ℕ) → Arrive x ≢ Rto number
arrive_not x number e = cc

arrive_starts_none : (x : Packet) (number : ℕ) → Arrive x ≢ Start number
arrive_starts_none x number e = cc

del_ack_starts_none : (a number : ℕ) → DelAck a ≢ Start number
del_ack_starts_none a number e = cc

free_starts_none : (a number : ℕ) → Free a ≢ Start number
free_starts_none a number e = cc

del_ack_brings_none : (a : ℕ) (x : Packet) → DelAck a ≢ Arrive x
del_ack_brings_none a x e = cc

free_brings_none : (a : ℕ) (x : Packet) → Free a ≢ Arrive x
free_brings_none a x e = cc

pub same_packet : (x y : Packet) → Arrive x ≡ Arrive y → x ≡ y
same_packet x y e = cc

data_not_ack : Data ≢ Ack
data_not_ack e = cc

module _ (p : ScenarioParts) (is_scenario : IsScenario p) (lines : List TraceLine) (s : State) (k : Key) (v : Event) (sound : IsSoundRun p lines s) (is : due s ≡ Some (k, v))
    (number : ℕ) (flow : FlowPart) (its : slice_get p.flows number ≡ Some flow) (at : flow.sender ≡ k.node) where
  abbrev F : IsSoundFlow s sound.moment number flow
  F = sound.sound.each_flow number flow its

  role_is : (part_at s k.node).role ≡ Sends number F.fields
  role_is = ap (λ n. (part_at s n).role) (sym at) ∙ F.sender_role

  upto : sound.moment ≤ k.time
  upto = sound.sound.not_past k v (is_due s k v is).pending

  at_start : (n : ℕ) → v ≡ Start n → IsStart p k n → Comes k.time F.fields v
  at_start n v_is h =
      let node : k.node ≡ h.flow.sender = ap (λ (q : Key). q.node) h.is_key in
      let none : sent_high s h.flow ≡ 0 = sound.sound.unstarted n h.flow h.its_flow (ap (finmap.get s.pending) (sym h.is_key) ∙ (is_due s k v is).pending ∙ ap (λ (w : Event). Some w) v_is) in
      starts n v_is (ap high_of (sym role_is) ∙ ap (λ m. high_of (part_at s m).role) node ∙ none)

  at_timeout : (n : ℕ) → v ≡ Rto n → IsTimeout p s k n → Comes k.time F.fields v
  at_timeout n v_is h =
      let node : k.node ≡ h.flow.sender = ap (λ (q : Key). q.node) h.timer.is_key in
      let set : F.fields.deadline ≡ Some k.time = ap deadline_of (sym role_is) ∙ ap (λ m. deadline_of (part_at s m).role) node ∙ h.timer.is_set in
      times_out n v_is (subst (λ (o : Option ℕ). IsSome o) (sym set) refl)

  at_ack : (x : Packet) → v ≡ Arrive x → IsArrival p s sound.moment k x → (kind : Kind) → x.kind ≡ kind → Comes k.time F.fields v
  at_ack x v_is h Data kind_is =
      others (λ now. ap (λ w. row_of F.fields w now) v_is ∙ ap (λ c. for_packet F.fields c x.number now) kind_is) (record {
        not_start = λ n e. arrive_starts_none x n (sym v_is ∙ e);
        not_timeout = λ n e. arrive_not x n (sym v_is ∙ e);
        not_ack = λ y e is. data_not_ack (sym kind_is ∙ ap (λ (q : Packet). q.kind) (same_packet x y (sym v_is ∙ e)) ∙ is);
      })
  at_ack x v_is h Ack kind_is =
      let given : IsGiven flow (sent_high s flow) (received_next s flow) x = ack_given p is_scenario lines sound.moment s sound.sound k x h kind_is number flow its at in
      acks x v_is kind_is (record {
        multiple = subst (λ m. x.number % m ≡ 0) (sym F.its_mss) given.multiple;
        most = (let a = given.by_next in let b = F.next_sent in let c = ap next_at F.receiver_role in omega (arith, a, b, c));
        timed_before = timed_later sound.moment k.time F.fields.timing upto F.timed_before;
      })

  by_event : (w : Event) → v ≡ w → Belongs p s sound.moment k w → Comes k.time F.fields v
  by_event (Start n) v_is h = at_start n v_is h
  by_event (Rto n) v_is h = at_timeout n v_is h
  by_event (DelAck n) v_is h =
      others (λ now. ap (λ w. row_of F.fields w now) v_is) (record { not_start = λ m e. del_ack_starts_none n m (sym v_is ∙ e); not_timeout = λ m e. del_ack_not n m (sym v_is ∙ e); not_ack = λ x e _. del_ack_brings_none n x (sym v_is ∙ e) })
  by_event (Free n) v_is h =
      others (λ now. ap (λ w. row_of F.fields w now) v_is) (record { not_start = λ m e. free_starts_none n m (sym v_is ∙ e); not_timeout = λ m e. free_not n m (sym v_is ∙ e); not_ack = λ x e _. free_brings_none n x (sym v_is ∙ e) })
  by_event (Arrive x) v_is h = at_ack x v_is h x.kind refl

  pub comes : Comes k.time F.fields v
  comes = by_event v refl (sound.sound.belongs k v (is_due s k v is).pending)

  pub role_after : (part_at (stepped s k (effect_of s (k, v))) flow.sender).role ≡ Sends number (row_of F.fields v k.time).fields
  role_after = ap (λ n. (part_at (stepped s k (effect_of s (k, v))) n).role) at ∙ ap (λ (x : PartState). x.role) (here p is_scenario lines s k v sound is) ∙ row_role (part_at s k.node) k number F.fields role_is v

-- what holds of each row of the table holds at each event at a sender
pub at_each_sender : (P : ℕ → Event → SenderFields → Planned → Type 0) → ((now : ℕ) (v : Event) (f : SenderFields) → IsSound f → Comes now f v → P now v f (row_of f v now)) → AtEachSender P
at_each_sender P each p n lines s is_scenario e k v is number flow its at f role =
    let sound = sound_run p n lines s is_scenario e in
    let F = sound.sound.each_flow number flow its in
    let same : F.fields ≡ f = same_fields number number F.fields f (sym F.sender_role ∙ role) in
    subst (λ g. ((part_at (stepped s k (effect_of s (k, v))) flow.sender).role ≡ Sends number (row_of g v k.time).fields) × P k.time v g (row_of g v k.time)) same
    (role_after p is_scenario lines s k v sound is number flow its at, each k.time v F.fields F.sound (comes p is_scenario lines s k v sound is number flow its at))

-- so what holds of each row of the table, and where it has none
pub by_rows : (P : ℕ → Event → SenderFields → Planned → Type 0)
    → ((now number : ℕ) (v : Event) (f : SenderFields) → IsSound f → v ≡ Start number → f.high ≡ 0 → P now v f (started f now))
    → ((now number : ℕ) (v : Event) (f : SenderFields) → IsSound f → v ≡ Rto number → IsSome f.deadline → P now v f (timed_out f now))
    → ((now : ℕ) (x : Packet) (v : Event) (f : SenderFields) → IsSound f → v ≡ Arrive x → x.kind ≡ Ack → IsAckFor f x.number now → P now v f (acknowledged f x.number now))
    → ((now : ℕ) (v : Event) (f : SenderFields) → IsSound f → IsAnother v → P now v f (nothing_sent f)) → AtEachSender P
by_rows P a b c d = at_each_sender P each
  where
    each : (now : ℕ) (v : Event) (f : SenderFields) → IsSound f → Comes now f v → P now v f (row_of f v now)
    each now v f sound (starts number is none) = subst (P now v f) (sym (ap (λ w. row_of f w now) is)) (a now number v f sound is none)
    each now v f sound (times_out number is set) = subst (P now v f) (sym (ap (λ w. row_of f w now) is)) (b now number v f sound is set)
    each now v f sound (acks x is kind_is fits) = subst (P now v f) (sym (ap (λ w. row_of f w now) is ∙ ap (λ kind. for_packet f kind x.number now) kind_is)) (c now x v f sound is kind_is fits)
    each now v f sound (others is other) = subst (P now v f) (sym (is now)) (d now v f sound other)

pub new_segments_fit : AtEachSender FitsWindows
new_segments_fit =
    by_rows FitsWindows (λ now _ _ f sound _ _. inl (started_fits f now sound)) (λ now _ _ f sound _ _. inl (timeout_fits f now sound)) (λ now x v f sound is kind fits. at_ack x v f kind is (acknowledged f x.number now) (ack_fits f x.number now sound fits))
    (λ _ _ _ _ _. inl (inl refl))
  where
    at_ack : (x : Packet) (v : Event) (f : SenderFields) → x.kind ≡ Ack → v ≡ Arrive x → (q : Planned) → FitsAtAck f x.number q → FitsWindows 0 v f q
    at_ack x v f kind is q (inl fits) = inl fits
    at_ack x v f kind is q (inr (early, fits)) = inr (((x, is, kind, early.0, early.1), early.2, early.3), fits)

pub timers_end_after_rto : AtEachSender EndsAfterRto
timers_end_after_rto =
    by_rows EndsAfterRto (λ now _ _ f _ _ _. started_ends f now) (λ now _ _ f _ _ _. timeout_ends f now) (λ now x _ f _ _ _ _. ack_ends f x.number now) (λ _ _ _ _ _. inr (inl refl))

pub nothing_resent_is_timed : AtEachSender TimesNoneResent
nothing_resent_is_timed =
    by_rows TimesNoneResent (λ now _ _ f sound _ _. (start_never_times_resent f now sound.mss_least).fresh) (λ now _ _ f sound _ _. (timeout_never_times_resent f now sound.mss_least).fresh)
    (λ now x _ f sound _ _ _. (acknowledgement_never_times_resent f x.number now sound.mss_least).fresh) (λ _ _ _ _ _ x there. absurd (none there.0 there.1))
  where
    none : (i : ℕ) → i < 0 → ⊥
    none i within = omega (arith, within)

pub complete_flows_are_silent : AtEachSender IsSilentOnceComplete
complete_flows_are_silent =
    by_rows IsSilentOnceComplete (λ _ _ _ f sound _ none whole. absurd (some_bytes f sound none whole)) (λ _ _ _ f sound _ set whole. absurd (none_flies f sound set whole))
    (λ now x _ f sound _ _ fits whole. ack_silent f x.number now sound fits whole) (λ _ _ _ _ _ _. refl)
  where
    some_bytes : (f : SenderFields) → IsSound f → f.high ≡ 0 → f.una ≡ total f → ⊥
    some_bytes f sound none whole =
        let least : 1 * 1 ≤ f.segments * f.mss = mul-le 1 1 f.segments f.mss sound.segments_least sound.mss_least in
        let a = sound.una_nxt in
        let b = sound.nxt_high in
        omega (arith, least, none, whole, a, b)

    none_flies : (f : SenderFields) → IsSound f → IsSome f.deadline → f.una ≡ total f → ⊥
    none_flies f sound set whole =
        let flies : f.una < f.nxt = sound.deadline_flight.0 set in
        let a = sound.nxt_high in
        let b = sound.high_total in
        omega (arith, flies, whole, a, b)

pub rto_doubles_until_sample : AtEachSender GoesByTimeouts
rto_doubles_until_sample =
    by_rows GoesByTimeouts
    (λ now n v f _ is _. record { doubles = λ m e. absurd (start_not n m (sym is ∙ e)); stays = λ _ _. start_keeps_rto f now })
    (λ now n v f _ is _. record { doubles = λ _ _. timeout_doubles_rto f now; stays = λ not _. absurd (not n is) })
    (λ now x v f _ is _ _. record { doubles = λ m e. absurd (arrive_not x m (sym is ∙ e)); stays = λ _ below. rto_stays_until_sample f x.number now (below x is) })
    (λ now v f _ other. record { doubles = λ m e. absurd (other.not_timeout m e); stays = λ _ _. refl })
  where
    start_not : (a number : ℕ) → Start a ≢ Rto number
    start_not a number e = cc
