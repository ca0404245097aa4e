-- A router has an exit for each packet that comes to it in a run.
use Rattle.std.proofs.Common.{◌≡◌, ℕ, ◌<◌, List, length, map, sym, ap, subst, ◌∙◌, Some, refl, ⊎_elim}
use Rattle.std.proofs.lemmas.Option.{slice_get-map, slice_get_within}
use Rattle.std.specs.List.{slice_get}
use Rattle.std.specs.Option.{option_map, option_and_then}
use Rattle.sim_time.specs.declared.key.Key.{Key}
use Rattle.packet_chain.specs.declared.packet.Packet.{Packet}
use Rattle.packet_chain.specs.declared.packet.Kind.{Kind}
use Rattle.packet_chain.specs.declared.packet.Kind.TheVariants.{Data, Ack}
use Rattle.reno_receiver.specs.Received.{ReceiverState}
use Rattle.reno_sender.specs.declared.fields.SenderFields.{SenderFields}
use Rattle.scenario_image.specs.declared.parts.FlowPart.{FlowPart}
use Rattle.scenario_image.specs.declared.parts.ScenarioParts.{ScenarioParts}
use Rattle.scenario_image.specs.declared.paths.Path.{Path}
use Rattle.scenario_image.specs.Scenario.{IsScenario}
use Rattle.scenario_image.specs.Paths.{data_path, ack_path, IsOnWay}
use Rattle.scenario_image.specs.PathLaws.{PathGoesOn, GoesOnOrEnds}
use Rattle.scenario_image.proofs.Arrivals.{paths_go_on_or_end}
use Rattle.node_core.specs.declared.role.Role.TheVariants.{Sends, Receives, Routes}
use Rattle.node_core.specs.declared.routes.FlowExits.{FlowExits}
use Rattle.node_core.specs.Initial.{exits_of, exit_to}
use Rattle.node_core.specs.Part.{link_at}
use Rattle.node_core.specs.RouteTable.{exit_of_kind, exit_for}
use Rattle.node_core.specs.TraceLine.{TraceLine}
use Rattle.table_run.specs.State.{State, part_at}
use Rattle.table_run.specs.Flow.{path_of}
use Rattle.table_run.specs.Sound.{IsArrival, IsSoundAt}
use Rattle.table_run.specs.Laws.{HasRoute}
use Rattle.table_run.proofs.Links.{exit_is}

exit_to_end : (p : ScenarioParts) (node : ℕ) (kind : Kind) (flow : FlowPart) → exit_of_kind kind (exits_of p node flow) ≡ exit_to p node (path_of kind flow).end
exit_to_end p node Data flow = refl
exit_to_end p node Ack flow = refl

-- the exit by a router's table is the one to the end of the packet's path
pub exit_by_table : (p : ScenarioParts) (node : ℕ) (x : Packet) (flow : FlowPart) → slice_get p.flows x.flow ≡ Some flow → exit_for (map (exits_of p node) p.flows) x ≡ exit_to p node (path_of x.kind flow).end
exit_by_table p node x flow its = ap (option_and_then (exit_of_kind x.kind)) (slice_get-map (exits_of p node) p.flows x.flow ∙ ap (option_map (exits_of p node)) its) ∙ exit_to_end p node x.kind flow

of_kind : (P : Path → Type 0) (kind : Kind) (flow : FlowPart) → P (data_path flow) × P (ack_path flow) → P (path_of kind flow)
of_kind P Data flow both = both.0
of_kind P Ack flow both = both.1

sends_isnt_routes : (a : ℕ) (f : SenderFields) (table : List FlowExits) → Sends a f ≡ Routes table → ⊥
sends_isnt_routes a f table e = cc

receives_isnt_routes : (a : ℕ) (f : ReceiverState) (table : List FlowExits) → Receives a f ≡ Routes table → ⊥
receives_isnt_routes a f table e = cc

same_table : (table other : List FlowExits) → Routes table ≡ Routes other → table ≡ other
same_table table other e = cc

module _ (p : ScenarioParts) (lines : List TraceLine) (now : ℕ) (s : State) (k : Key) (S : IsSoundAt p lines now s) where
  -- a router has an exit for the packets of a path, over a link of the path
  pub record HasExit (path : Path) : Type 0 where
    pub index : ℕ
    pub exit : exit_to p k.node path.end ≡ Some index
    pub within : index < length (part_at s k.node).links
    pub on_way : IsOnWay p path (link_at (part_at s k.node).links index).port.link
    pub role_is : (part_at s k.node).role ≡ Routes (map (exits_of p k.node) p.flows)

  pub has_exit : (path : Path) → PathGoesOn p path k.node → HasExit path
  has_exit path on =
      let nodes = slice_get_within p.nodes k.node _ on.router in
      let (index, exit, within, number) = exit_is p k.node (part_at s k.node).links (S.each_node k.node nodes).its_links path.end on.next on.route on.leaves_router in
      record { index = index; exit = exit; within = within; on_way = subst (IsOnWay p path) (sym number) on.on_way; role_is = S.each_router k.node on.router }

  -- the path of no packet ends at a router
  no_end : (x : Packet) (h : IsArrival p s now k x) (table : List FlowExits) → (part_at s k.node).role ≡ Routes table → (kind : Kind) → k.node ≡ (path_of kind h.under_way.flow).end → ⊥
  no_end x h table routes Data at =
      let F = S.each_flow x.flow h.under_way.flow h.under_way.its_flow in
      receives_isnt_routes x.flow F.received table (sym F.receiver_role ∙ ap (λ n. (part_at s n).role) (sym at) ∙ routes)
  no_end x h table routes Ack at =
      let F = S.each_flow x.flow h.under_way.flow h.under_way.its_flow in
      sends_isnt_routes x.flow F.fields table (sym F.sender_role ∙ ap (λ n. (part_at s n).role) (sym at) ∙ routes)

  -- so from a router it goes on
  goes_on : IsScenario p → (x : Packet) (h : IsArrival p s now k x) (table : List FlowExits) → (part_at s k.node).role ≡ Routes table → PathGoesOn p (path_of x.kind h.under_way.flow) k.node
  goes_on is_scenario x h table routes =
      let U = h.under_way in
      ⊎_elim
      (λ (ends : h.link.to ≡ (path_of x.kind U.flow).end). absurd (no_end x h table routes x.kind (h.ends_here ∙ ends)))
      (λ (on : PathGoesOn p (path_of x.kind U.flow) h.link.to). subst (PathGoesOn p (path_of x.kind U.flow)) (sym h.ends_here) on)
      (of_kind (GoesOnOrEnds p) x.kind U.flow (paths_go_on_or_end p is_scenario x.flow U.flow U.its_flow) h.number h.link U.on_way h.its_link)

  -- a router has a route for a packet that comes to it
  pub has_route : IsScenario p → (x : Packet) → IsArrival p s now k x → (table : List FlowExits) → (part_at s k.node).role ≡ Routes table → HasRoute s k.node table x
  has_route is_scenario x h table routes =
      let U = h.under_way in
      let e = has_exit (path_of x.kind U.flow) (goes_on is_scenario x h table routes) in
      record {
        index = e.index;
        exit = ap (λ t. exit_for t x) (same_table table _ (sym routes ∙ e.role_is)) ∙ exit_by_table p k.node x U.flow U.its_flow ∙ e.exit;
        within = e.within;
      }
