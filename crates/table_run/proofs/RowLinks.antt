-- A row that offers packets to a link, or takes from one: what is done there.
use Rattle.std.proofs.Common.{◌≡◌, ℕ, ◌<◌, ◌≤◌, List, length, sym, ap, subst, ◌∙◌, Some, arith}
use Rattle.std.specs.List.{slice_get}
use Rattle.std.specs.Option.{option_map}
use Rattle.packet_chain.specs.declared.packet.Packet.{Packet}
use Rattle.packet_chain.specs.declared.packet.Kind.{Kind}
use Rattle.packet_chain.specs.declared.packet.Kind.TheVariants.{Data, Ack}
use Rattle.scenario_image.specs.declared.parts.FlowPart.{FlowPart}
use Rattle.scenario_image.specs.declared.parts.LinkPart.{LinkPart}
use Rattle.scenario_image.specs.declared.parts.ScenarioParts.{ScenarioParts}
use Rattle.scenario_image.specs.declared.paths.Path.{Path}
use Rattle.scenario_image.specs.FlowLimits.{IsFlowInLimits}
use Rattle.scenario_image.specs.Scenario.{IsScenario}
use Rattle.scenario_image.specs.Paths.{IsOnWay}
use Rattle.scenario_image.specs.PathLaws.{Begins}
use Rattle.scenario_image.proofs.Courses.{all_at}
use Rattle.aqm.specs.Queue.{waiting_in}
use Rattle.node_core.specs.Part.{LinkState, link_at, no_link}
use Rattle.node_core.specs.TraceLine.{TraceLine}
use Rattle.table_run.specs.State.{State, part_at}
use Rattle.table_run.specs.Flow.{Carries, IsUnderWay}
use Rattle.table_run.specs.Sound.{lines_at, IsSoundLink, IsSoundAt}
use Rattle.table_run.proofs.Lists.{all_map, all_here}
use Rattle.table_run.proofs.Links.{link_part, link_in_limits, leaving_index}
use Rattle.table_run.proofs.PortMoves.{AreSized, IsLink, Waits}
use Rattle.table_run.proofs.Rows.{EachFlow, FlowRises, under_way_on}

-- a flow is within its limits
pub flow_limits : (p : ScenarioParts) → IsScenario p → (number : ℕ) (flow : FlowPart) → slice_get p.flows number ≡ Some flow → IsFlowInLimits (length p.nodes) p.end flow
flow_limits p is number flow its = all_at (IsFlowInLimits (length p.nodes) p.end) p.flows number flow is.in_limits.each_flow its

-- packets are in their range of sizes
carried_size : (flow : FlowPart) (high next : ℕ) (kind : Kind) (x : Packet) → flow.mss ≤ 9000 → Carries flow high next kind x → (1 ≤ x.bytes) × (x.bytes ≤ 9040)
carried_size flow high next Data x most h = let is = h.bytes_are in (omega (arith, is), omega (arith, is, most))
carried_size flow high next Ack x most h = let is = h.bytes_are in (omega (arith, is), omega (arith, is))

pub under_way_sized : (p : ScenarioParts) → IsScenario p → (t : State) (link : ℕ) → AreSized (IsUnderWay p t link)
under_way_sized p is t link x h = carried_size h.flow _ _ x.kind x (flow_limits p is x.flow h.flow h.its_flow).mss_range.1 h.carries

module _ (p : ScenarioParts) (is_scenario : IsScenario p) (lines : List TraceLine) (now : ℕ) (s : State) (S : IsSoundAt p lines now s) (node index : ℕ) (nodes : node < length p.nodes) (within : index < length (part_at s node).links) where
  abbrev link : LinkState
  link = link_at (part_at s node).links index

  pub sound_link : IsSoundLink p s (lines_at node lines) link.port
  sound_link = all_here (λ (l : LinkState). IsSoundLink p s (lines_at node lines) l.port) (part_at s node).links index no_link within (S.each_node node nodes).each_link

  pub is_link : IsLink link.port
  is_link = link_in_limits p node (part_at s node).links (S.each_node node nodes).its_links is_scenario index within

  -- what waits there is right afterwards too
  pub waits_later : (t : State) → EachFlow p (λ _ flow. FlowRises s t flow) → Waits (IsUnderWay p t link.port.link) link.port
  waits_later t rises = record {
    queued = all_map (λ x. IsUnderWay p s link.port.link x.0) (λ x. IsUnderWay p t link.port.link x.0) (λ x. under_way_on p s t rises link.port.link x.0) (waiting_in link.port.queue) sound_link.queued;
    idle_empty = sound_link.idle_empty;
    room = sound_link.room;
  }

-- the one link that leaves a path's start
pub record FirstLink (p : ScenarioParts) (s : State) (path : Path) : Type 0 where
  pub within : 0 < length (part_at s path.start).links
  pub on_way : IsOnWay p path (link_at (part_at s path.start).links 0).port.link

pub first_link : (p : ScenarioParts) (lines : List TraceLine) (now : ℕ) (s : State) → IsSoundAt p lines now s → (path : Path) → path.start < length p.nodes → Begins p path → FirstLink p s path
first_link p lines now s S path nodes begins =
    let links = (part_at s path.start).links in
    let its_links = (S.each_node path.start nodes).its_links in
    let (i, inside) = leaving_index p path.start links its_links begins.first begins.leaves_start in
    let within : 0 < length links = omega (arith, inside) in
    let part = link_part p path.start links its_links 0 within in
    let source : option_map (λ (l : LinkPart). l.from) (slice_get p.links (link_at links 0).port.link) ≡ Some path.start = ap (option_map (λ (l : LinkPart). l.from)) part.its_part ∙ ap (λ n. Some n) part.from_here in
    record { within = within; on_way = subst (IsOnWay p path) (sym (begins.only (link_at links 0).port.link source)) begins.on_way }
