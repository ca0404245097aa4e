use Rattle.std.proofs.Common.{ap, refl, ◌∙◌}
use Rattle.scenario_asm.specs.Names.{with_link}
use Rattle.scenario_asm.specs.Table.{known_in}
use Rattle.scenario_asm.proofs.Added.{sim_added, node_added, link_added, flow_added, route_added, lose_added}
use Rattle.scenario_asm.proofs.draft.Draft.add.Goals as goal

pub returns-in-Sim : goal.returns-in-Sim
returns-in-Sim c = λ statements held. rw c.in-Sim.is (sim_added c.args.self.now _ statements c.in-Sim.end held c.and-self.ensures refl)

pub returns-in_ok-add_node-in-Node : goal.returns-in_ok-add_node-in-Node
returns-in_ok-add_node-in-Node c = λ statements held. rw c.in-Node.is (node_added c.args.self.now _ statements _ _ held (rw c.in-Node.is at c.requires) refl c.in_ok-add_node-in-Node.ensures)

pub returns-in_ok-add_link-in-Link : goal.returns-in_ok-add_link-in-Link
returns-in_ok-add_link-in-Link c = λ statements held.
    let links = c.in_ok-add_link-in-Link.ensures ∙ ap (λ part. with_link (known_in c.args.self.now.table) c.in-Link.name part) c.new_link.ensures in
    rw c.in-Link.is (link_added c.args.self.now _ statements _ _ held (rw c.in-Link.is at c.requires) refl links)

pub returns-in_ok-add_flow-in-Flow : goal.returns-in_ok-add_flow-in-Flow
returns-in_ok-add_flow-in-Flow c = λ statements held. rw c.in-Flow.is (flow_added c.args.self.now _ statements _ _ held (rw c.in-Flow.is at c.requires) refl c.in_ok-add_flow-in-Flow.ensures)

pub returns-in_ok-add_route-in-Route : goal.returns-in_ok-add_route-in-Route
returns-in_ok-add_route-in-Route c = λ statements held. rw c.in-Route.is (route_added c.args.self.now _ statements _ held (rw c.in-Route.is at c.requires) refl c.in_ok-add_route-in-Route.ensures)

pub returns-in_ok-add_lost-in-Lose : goal.returns-in_ok-add_lost-in-Lose
returns-in_ok-add_lost-in-Lose c = λ statements held.
    let right = rw c.in-Lose.is at c.requires in
    rw c.in-Lose.is (lose_added c.args.self.now _ statements c.in-Lose.line right.part held right.declared refl (c.in_ok-add_lost-in-Lose.ensures right.part right.declared))
