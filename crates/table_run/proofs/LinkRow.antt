-- A row that leaves its node's role as it is: a link becomes free, or a router passes a packet on.
use Rattle.std.proofs.Common.{◌≡◌, ◌≢◌, ℕ, ◌+◌, ◌<◌, ◌≤◌, List, length, refl, ap, subst, ◌∙◌, Option, None, arith, inl, inr, ◌⊎◌}
use Rattle.sim_time.specs.declared.key.Key.{Key}
use Rattle.packet_chain.specs.declared.packet.Packet.{Packet}
use Rattle.scenario_image.specs.declared.parts.ScenarioParts.{ScenarioParts}
use Rattle.scenario_image.specs.Scenario.{IsScenario}
use Rattle.port.specs.Port.{PortStep, taken, offered_one}
use Rattle.node_core.specs.declared.timer.Timer.{Timer}
use Rattle.node_core.specs.declared.timer.Timer.TheVariants.{Retransmission, DelayedAcknowledgement}
use Rattle.node_core.specs.declared.event.Event.{Event}
use Rattle.node_core.specs.declared.event.Event.TheVariants.{Rto, Free, Arrive}
use Rattle.node_core.specs.Timers.{timer_key, timer_number}
use Rattle.node_core.specs.Part.{PartState, link_at}
use Rattle.node_core.specs.TraceLine.{TraceLine}
use Rattle.tournament.proofs.Maps.{not_some}
use Rattle.table_run.specs.State.{State, part_at, stepped}
use Rattle.table_run.specs.Flow.{high_of, deadline_of, timer_of, IsUnderWay}
use Rattle.table_run.specs.Sound.{IsFree, IsSoundAt}
use Rattle.table_run.proofs.Due.{IsDue}
use Rattle.table_run.proofs.PortMoves.{PortMoves, taken_moves, one_moves}
use Rattle.table_run.proofs.Moved.{Shape, IsMoved, shaped, is_moved, node_there}
use Rattle.table_run.proofs.Rows.{EachFlow, FlowRises, IsOffered, IsFreed, IsRow, under_way_on}
use Rattle.table_run.proofs.RowLinks.{under_way_sized, is_link, waits_later}
use Rattle.table_run.proofs.RowFlows.{flow_stays, role_rises_itself, same_roles, rises_same, rto_timer_same}

module _ (p : ScenarioParts) (is_scenario : IsScenario p) (lines : List TraceLine) (now : ℕ) (s : State) (k : Key) (v : Event) (S : IsSoundAt p lines now s) (due : IsDue s k v)
    (index : ℕ) (within : index < length (part_at s k.node).links) (step : PortStep) where
  abbrev part : PartState
  part = part_at s k.node

  abbrev pub shape : Shape
  shape = record { role = part.role; timer = Retransmission; event = Rto 0; old = None; new = None; index = index; step = step }

  abbrev pub after : State
  after = stepped s k (shaped part k shape)

  M : IsMoved s k shape after
  M = is_moved s k shape within

  pub nodes_there : k.node < length p.nodes
  nodes_there = subst (λ n. k.node < n) S.nodes_are (node_there s k.node index within)

  pub rises_here : EachFlow p (λ _ flow. FlowRises s after flow)
  rises_here = rises_same p s after k shape M refl

  upto : now ≤ k.time
  upto = S.not_past k v due.pending

  pub link_row : (count : ℕ) → count ≤ 2147483648 → (before : Option ℕ) → IsOffered s k shape before ⊎ IsFreed s k shape before
      → PortMoves (IsUnderWay p after (link_at part.links index).port.link) k.time count before (link_at part.links index).port step
      → ((node : ℕ) (timer : Timer) (time : ℕ) → timer_number timer ≤ 2 → timer_key node timer time ≢ k) → IsRow p s k v shape after
  link_row count few before entered moves not_rto_timer = record {
    within = within;
    timer_least = omega arith;
    timer_most = omega arith;
    not_arrival = λ x e. not_arrives x e;
    count = count;
    few = few;
    before = before;
    entered = entered;
    moves = moves;
    flows = λ number flow its. flow_stays s after now k.time number flow upto (same flow.sender) (same flow.receiver) (S.each_flow number flow its);
    rises = rises_here;
    unsent = λ number flow its none _. ap high_of (same flow.sender) ∙ none;
    routers = λ node _. same node;
    role_rises = role_rises_itself part.role;
    rto_timers = λ number flow its. inl (rto_timer_same p s after k shape M refl deadline_of Retransmission flow.sender refl refl (λ time. not_rto_timer flow.sender Retransmission time (omega arith)));
    delayed = λ number flow its. inl (rto_timer_same p s after k shape M refl timer_of DelayedAcknowledgement flow.receiver refl refl (λ time. not_rto_timer flow.receiver DelayedAcknowledgement time (omega arith)));
    new_soon = λ u is. absurd (not_some is);
    new_belongs = λ u is. absurd (not_some is);
  }
    where
      same : (node : ℕ) → (part_at after node).role ≡ (part_at s node).role
      same = same_roles p s after k shape M refl

      not_arrives : (x : Packet) → Rto 0 ≡ Arrive x → ⊥
      not_arrives x e = cc

-- a link has sent a packet, and takes the next
pub free_row_is : (p : ScenarioParts) (is_scenario : IsScenario p) (lines : List TraceLine) (now : ℕ) (s : State) (k : Key) (number : ℕ) (S : IsSoundAt p lines now s) (due : IsDue s k (Free number)) (h : IsFree s k number)
    → let step = taken k.time (link_at (part_at s k.node).links h.index).port in
    IsRow p s k (Free number) (shape p is_scenario lines now s k (Free number) S due h.index h.link.within step) (after p is_scenario lines now s k (Free number) S due h.index h.link.within step)
free_row_is p is_scenario lines now s k number S due h =
    let step = taken k.time (link_at (part_at s k.node).links h.index).port in
    let t = after p is_scenario lines now s k (Free number) S due h.index h.link.within step in
    let link = link_at (part_at s k.node).links h.index in
    let nodes = nodes_there p is_scenario lines now s k (Free number) S due h.index h.link.within step in
    let waits = waits_later p is_scenario lines now s S k.node h.index nodes h.link.within t (rises_here p is_scenario lines now s k (Free number) S due h.index h.link.within step) in
    link_row p is_scenario lines now s k (Free number) S due h.index h.link.within step 0 (omega arith) None (inr (record { idle = refl; was = h.timer.is_set; is_key = h.timer.is_key }))
    (taken_moves (IsUnderWay p t link.port.link) (under_way_sized p is_scenario t link.port.link) k.time link.port (is_link p is_scenario lines now s S k.node h.index nodes h.link.within) waits.queued waits.room)
    (λ node timer time small same. let three : timer_number timer ≡ 3 + h.index = ap (λ (q : Key). q.number) (same ∙ h.timer.is_key) in absurd (omega (arith, three, small)))

-- a router passes a packet on
pub pass_row_is : (p : ScenarioParts) (is_scenario : IsScenario p) (lines : List TraceLine) (now : ℕ) (s : State) (k : Key) (x : Packet) (S : IsSoundAt p lines now s) (due : IsDue s k (Arrive x)) (index : ℕ) (within : index < length (part_at s k.node).links)
    → IsUnderWay p s (link_at (part_at s k.node).links index).port.link x → (over : ℕ) → k.source ≡ over + 1
    → let step = offered_one k.time (link_at (part_at s k.node).links index).port x in
    IsRow p s k (Arrive x) (shape p is_scenario lines now s k (Arrive x) S due index within step) (after p is_scenario lines now s k (Arrive x) S due index within step)
pass_row_is p is_scenario lines now s k x S due index within under over source =
    let step = offered_one k.time (link_at (part_at s k.node).links index).port x in
    let t = after p is_scenario lines now s k (Arrive x) S due index within step in
    let link = link_at (part_at s k.node).links index in
    let nodes = nodes_there p is_scenario lines now s k (Arrive x) S due index within step in
    let rises = rises_here p is_scenario lines now s k (Arrive x) S due index within step in
    link_row p is_scenario lines now s k (Arrive x) S due index within step 1 (omega arith) link.port.next_free (inl (record { same = refl; not_free = λ node i time same. no_source (ap (λ (q : Key). q.source) same) }))
    (one_moves (IsUnderWay p t link.port.link) (under_way_sized p is_scenario t link.port.link) k.time link.port x (is_link p is_scenario lines now s S k.node index nodes within) (under_way_on p s t rises link.port.link x under)
    (waits_later p is_scenario lines now s S k.node index nodes within t rises))
    (λ node timer time small same. no_source (ap (λ (q : Key). q.source) same))
  where
    no_source : 0 ≡ k.source → ⊥
    no_source e = omega (arith, e, source)
