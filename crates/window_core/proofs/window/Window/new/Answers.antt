use Rattle.std.proofs.Common.{◌≡◌, ℕ, List, length, sym, ap, subst, ◌∙◌}
use Rattle.std.proofs.lemmas.List.{length-map}
use Rattle.node_core.specs.Node.{NodeState}
use Rattle.table_run.specs.Laws.{ComesTo}
use Rattle.net_machine.specs.Nodes.{net_state}
use Rattle.net_machine.specs.Run.{Reached}
use Rattle.window_law.specs.Lookahead.{lookahead}
use Rattle.net_partition.specs.Partition.{group_in}
use Rattle.node_group.specs.GroupStates.{AreJoined}
use Rattle.node_group.proofs.OfRun.{are_joined}
use Rattle.window_core.proofs.SameLinks.{one_lookahead}
use Rattle.window_core.proofs.window.Window.new.Goals as goal

pub room_for-requires-clause-joined : goal.room_for-requires-clause-joined
room_for-requires-clause-joined c =
    let parts = c.into_parts-parts.result in
    let size : length c.args.partition ≡ length parts.nodes.items = c.requires ∙ ap (λ (r : Reached). length r.state.parts) (sym c.into_parts-parts.ensures.state) ∙ length-map parts.nodes.items (λ (n : NodeState). n.part) in
    subst (AreJoined parts.links.items) (sym c.deref.ensures.value) (are_joined parts.nodes.items parts.links.items parts.end parts.position c.into_parts-parts.ensures.parts c.args.partition size)

pub returns-in-Ok-clause-ahead : goal.returns-in-Ok-clause-ahead
returns-in-Ok-clause-ahead c = λ p before is_p comes.
    let parts = c.into_parts-parts.result in
    let net = c.into_parts-parts.ensures.parts in
    let here = subst (λ (r : Reached). ComesTo p r.position before r.state) (sym c.into_parts-parts.ensures.state) comes in
    c.opened.ensures.first.ahead_is net.run.scenario.links net.links_are
    ∙ ap (λ (entries : List ℕ). lookahead (group_in entries) net.run.scenario.links) c.opened.ensures.entries
    ∙ one_lookahead (net_state parts.nodes.items parts.end) parts.position net.run.scenario p net.run.lines before net.run.is_scenario is_p net.run.is here (group_in c.args.partition)
