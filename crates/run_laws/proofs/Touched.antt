-- The one link at which an event does something: packets are offered to it, or it has sent a packet and takes the next.
use Rattle.std.proofs.Common.{◌≡◌, ℕ, ◌+◌, ◌-◌, ◌<◌, List, length, map, set, refl, sym, ap, subst, ◌∙◌, Some, arith, ⊎_elim}
use Rattle.std.specs.List.{slice_get}
use Rattle.sim_time.specs.declared.key.Key.{Key}
use Rattle.packet_chain.specs.declared.packet.Packet.{Packet}
use Rattle.packet_chain.specs.declared.packet.Kind.{Kind}
use Rattle.packet_chain.specs.declared.packet.Kind.TheVariants.{Data, Ack}
use Rattle.reno_sender.specs.declared.fields.SenderFields.{SenderFields}
use Rattle.reno_sender.specs.Sending.{Planned}
use Rattle.reno_sender.specs.Table.{started, acknowledged, timed_out}
use Rattle.reno_receiver.specs.Received.{ReceiverState, Answered, data_came, timer_came}
use Rattle.scenario_image.specs.declared.parts.FlowPart.{FlowPart}
use Rattle.scenario_image.specs.declared.parts.ScenarioParts.{ScenarioParts}
use Rattle.scenario_image.specs.Scenario.{IsScenario}
use Rattle.scenario_image.specs.Paths.{data_path, ack_path}
use Rattle.scenario_image.specs.PathLaws.{PathGoesOn, GoesOnOrEnds}
use Rattle.scenario_image.proofs.Arrivals.{paths_begin, paths_go_on_or_end}
use Rattle.port.specs.Port.{PortState, PortStep, offered_one, offered_all, taken}
use Rattle.node_core.specs.declared.event.Event.{Event}
use Rattle.node_core.specs.declared.event.Event.TheVariants.{Start, Rto, DelAck, Free, Arrive}
use Rattle.node_core.specs.declared.role.Role.{Role}
use Rattle.node_core.specs.Part.{PartState, link_at}
use Rattle.node_core.specs.Row.{Effect, leaving_over, data_packet, ack_of, sender_row, receiver_row, start_row, rto_row, delack_row, free_row, arrival_row, at_sender, at_receiver, passed_on}
use Rattle.node_core.specs.TraceLine.{TraceLine}
use Rattle.table_run.specs.State.{State, part_at, effect_of}
use Rattle.table_run.specs.Flow.{path_of}
use Rattle.table_run.specs.Sound.{Belongs, IsStart, IsTimeout, IsDelayed, IsFree, IsArrival, IsSoundAt}
use Rattle.table_run.proofs.Exits.{has_exit, exit_by_table}
use Rattle.table_run.proofs.RowLinks.{flow_limits, first_link}

-- what is done at a link at a moment
pub data Touches (now : ℕ) (port : PortState) : PortStep → Type 0 where
  by_offers : {step : PortStep} (packets : List Packet) → step ≡ offered_all now port packets → Touches now port step
  by_offer : {step : PortStep} (packet : Packet) → step ≡ offered_one now port packet → Touches now port step
  by_take : {step : PortStep} → port.next_free ≡ Some now → step ≡ taken now port → Touches now port step

-- the event does this at one link of its node, and nothing else at any
pub record IsTouched (part : PartState) (now : ℕ) (effect : Effect) : Type 0 where
  pub index : ℕ
  pub within : index < length part.links
  pub step : PortStep
  pub touches : Touches now (link_at part.links index).port step
  pub links_are : effect.part.links ≡ set part.links index (record (link_at part.links index) { port = step.port })
  pub acts_are : effect.acts ≡ step.acts
  pub leaving_is : effect.leaving ≡ leaving_over index step.departure

module _ (p : ScenarioParts) (is_scenario : IsScenario p) (lines : List TraceLine) (now : ℕ) (s : State) (k : Key) (S : IsSoundAt p lines now s) where
  abbrev part : PartState
  part = part_at s k.node

  role_at : (node : ℕ) → k.node ≡ node → (role : Role) → (part_at s node).role ≡ role → part.role ≡ role
  role_at node at role is = ap (λ n. (part_at s n).role) at ∙ is

  by_sender : (effect : Effect) (number : ℕ) (flow : FlowPart) → slice_get p.flows number ≡ Some flow → k.node ≡ flow.sender → (old : SenderFields) (planned : Planned) → effect ≡ sender_row part k number old planned → IsTouched part k.time effect
  by_sender effect number flow its at old planned is =
      let first = first_link p lines now s S (data_path flow) (flow_limits p is_scenario number flow its).sender_node (paths_begin p is_scenario number flow its).0 in
      record {
        index = 0;
        within = subst (λ n. 0 < length (part_at s n).links) (sym at) first.within;
        step = offered_all k.time (link_at part.links 0).port (map (data_packet number planned.fields.mss) planned.sent);
        touches = by_offers (map (data_packet number planned.fields.mss) planned.sent) refl;
        links_are = ap (λ (e : Effect). e.part.links) is;
        acts_are = ap (λ (e : Effect). e.acts) is;
        leaving_is = ap (λ (e : Effect). e.leaving) is;
      }

  by_receiver : (effect : Effect) (number : ℕ) (flow : FlowPart) → slice_get p.flows number ≡ Some flow → k.node ≡ flow.receiver → (old : ReceiverState) (answered : Answered) → effect ≡ receiver_row part k number old answered → IsTouched part k.time effect
  by_receiver effect number flow its at old answered is =
      let first = first_link p lines now s S (ack_path flow) (flow_limits p is_scenario number flow its).receiver_node (paths_begin p is_scenario number flow its).1 in
      record {
        index = 0;
        within = subst (λ n. 0 < length (part_at s n).links) (sym at) first.within;
        step = offered_all k.time (link_at part.links 0).port (ack_of number answered.reply);
        touches = by_offers (ack_of number answered.reply) refl;
        links_are = ap (λ (e : Effect). e.part.links) is;
        acts_are = ap (λ (e : Effect). e.acts) is;
        leaving_is = ap (λ (e : Effect). e.leaving) is;
      }

  at_start : (number : ℕ) → IsStart p k number → IsTouched part k.time (effect_of s (k, Start number))
  at_start number h =
      let F = S.each_flow number h.flow h.its_flow in
      let at : k.node ≡ h.flow.sender = ap (λ (q : Key). q.node) h.is_key in
      by_sender (effect_of s (k, Start number)) number h.flow h.its_flow at F.fields (started F.fields k.time) (ap (λ ρ. start_row part ρ k) (role_at h.flow.sender at _ F.sender_role))

  at_timeout : (number : ℕ) → IsTimeout p s k number → IsTouched part k.time (effect_of s (k, Rto number))
  at_timeout number h =
      let F = S.each_flow number h.flow h.its_flow in
      let at : k.node ≡ h.flow.sender = ap (λ (q : Key). q.node) h.timer.is_key in
      by_sender (effect_of s (k, Rto number)) number h.flow h.its_flow at F.fields (timed_out F.fields k.time) (ap (λ ρ. rto_row part ρ k) (role_at h.flow.sender at _ F.sender_role))

  at_delack : (number : ℕ) → IsDelayed p s k number → IsTouched part k.time (effect_of s (k, DelAck number))
  at_delack number h =
      let F = S.each_flow number h.flow h.its_flow in
      let at : k.node ≡ h.flow.receiver = ap (λ (q : Key). q.node) h.timer.is_key in
      by_receiver (effect_of s (k, DelAck number)) number h.flow h.its_flow at F.received (timer_came F.received) (ap (λ ρ. delack_row part ρ k) (role_at h.flow.receiver at _ F.receiver_role))

  at_free : (number : ℕ) → IsFree s k number → IsTouched part k.time (effect_of s (k, Free number))
  at_free number h =
      let step = taken k.time (link_at part.links h.index).port in
      let index : k.number - 3 ≡ h.index = (let is : k.number ≡ 3 + h.index = ap (λ (q : Key). q.number) h.timer.is_key in omega (arith, is)) in
      let is : effect_of s (k, Free number) ≡ free_row part k h.index = ap (free_row part k) index in
      record {
        index = h.index;
        within = h.link.within;
        step = step;
        touches = by_take h.timer.is_set refl;
        links_are = ap (λ (e : Effect). e.part.links) is;
        acts_are = ap (λ (e : Effect). e.acts) is;
        leaving_is = ap (λ (e : Effect). e.leaving) is;
      }

  passes : (x : Packet) (h : IsArrival p s now k x) → PathGoesOn p (path_of x.kind h.under_way.flow) k.node → IsTouched part k.time (effect_of s (k, Arrive x))
  passes x h on =
      let U = h.under_way in
      let e = has_exit p lines now s k S (path_of x.kind U.flow) on in
      let is : effect_of s (k, Arrive x) ≡ passed_on part k x (Some e.index) = ap (λ ρ. arrival_row part ρ k x) e.role_is ∙ ap (passed_on part k x) (exit_by_table p k.node x U.flow U.its_flow ∙ e.exit) in
      record {
        index = e.index;
        within = e.within;
        step = offered_one k.time (link_at part.links e.index).port x;
        touches = by_offer x refl;
        links_are = ap (λ (e : Effect). e.part.links) is;
        acts_are = ap (λ (e : Effect). e.acts) is;
        leaving_is = ap (λ (e : Effect). e.leaving) is;
      }

  ends_at : (x : Packet) (h : IsArrival p s now k x) (kind : Kind) → x.kind ≡ kind → k.node ≡ (path_of kind h.under_way.flow).end → IsTouched part k.time (effect_of s (k, Arrive x))
  ends_at x h Data is at =
      let U = h.under_way in
      let F = S.each_flow x.flow U.flow U.its_flow in
      by_receiver (effect_of s (k, Arrive x)) x.flow U.flow U.its_flow at F.received (data_came F.received x.number k.time)
      (ap (λ ρ. arrival_row part ρ k x) (role_at U.flow.receiver at _ F.receiver_role) ∙ ap (λ c. at_receiver part k x.flow F.received c x.number) is)
  ends_at x h Ack is at =
      let U = h.under_way in
      let F = S.each_flow x.flow U.flow U.its_flow in
      by_sender (effect_of s (k, Arrive x)) x.flow U.flow U.its_flow at F.fields (acknowledged F.fields x.number k.time)
      (ap (λ ρ. arrival_row part ρ k x) (role_at U.flow.sender at _ F.sender_role) ∙ ap (λ c. at_sender part k x.flow F.fields c x.number) is)

  of_kind : (kind : Kind) (flow : FlowPart) → GoesOnOrEnds p (data_path flow) × GoesOnOrEnds p (ack_path flow) → GoesOnOrEnds p (path_of kind flow)
  of_kind Data flow both = both.0
  of_kind Ack flow both = both.1

  at_arrival : (x : Packet) → IsArrival p s now k x → IsTouched part k.time (effect_of s (k, Arrive x))
  at_arrival x h =
      let U = h.under_way in
      ⊎_elim
      (λ (ends : h.link.to ≡ (path_of x.kind U.flow).end). ends_at x h x.kind refl (h.ends_here ∙ ends))
      (λ (on : PathGoesOn p (path_of x.kind U.flow) h.link.to). passes x h (subst (PathGoesOn p (path_of x.kind U.flow)) (sym h.ends_here) on))
      (of_kind x.kind U.flow (paths_go_on_or_end p is_scenario x.flow U.flow U.its_flow) h.number h.link U.on_way h.its_link)

  pub touched : (v : Event) → Belongs p s now k v → IsTouched part k.time (effect_of s (k, v))
  touched (Start number) h = at_start number h
  touched (Rto number) h = at_timeout number h
  touched (DelAck number) h = at_delack number h
  touched (Free number) h = at_free number h
  touched (Arrive x) h = at_arrival x h
