use Rattle.std.proofs.Common.{◌≡◌, List, length, ap, subst, ◌∙◌, arith}
use Rattle.scenario_image.specs.declared.parts.LinkPart.{LinkPart}
use Rattle.scenario_image.specs.declared.parts.ScenarioParts.{ScenarioParts}
use Rattle.node_core.specs.Node.{NodeState}
use Rattle.net_machine.specs.Wiring.{AreEnds}
use Rattle.net_machine.proofs.Opened.{node_count}
use Rattle.net_machine.proofs.OpenedNet.{state_is, opened_parts}
use Rattle.net_machine.proofs.net.Net.new.Goals as goal

pub new-requires : goal.new-requires
new-requires c =
    let p = c.args.scenario.now in
    let size : length c.in_ok-nodes.nodes.items ≡ length p.nodes = ap (λ (nodes : List NodeState). length nodes) c.in_ok-nodes.ensures ∙ node_count p in
    let most = c.parts-parts.ensures.scenario.in_limits.counts.node_count.1 in
    omega (arith, size, most, c.len.ensures, c.in_ok-nodes.nodes.ok.0)

pub of_parts-requires-clause-parts : goal.of_parts-requires-clause-parts
of_parts-requires-clause-parts c =
    let p = c.args.scenario.now in
    let links_are = subst (λ (links : List LinkPart). AreEnds links c.in_ok-links.links.items) (c.as_slice.ensures.value ∙ ap (λ (q : ScenarioParts). q.links) c.parts-parts.ensures.value) c.in_ok-links.ensures in
    opened_parts p c.parts-parts.ensures.scenario c.in_ok-nodes.nodes.items c.in_ok-nodes.ensures c.parts-parts.result.now.end (ap (λ (q : ScenarioParts). q.end) c.parts-parts.ensures.value) c.in_ok-links.links.items links_are

pub returns : goal.returns
returns c =
    let p = c.args.scenario.now in
    let same = state_is p c.parts-parts.ensures.scenario c.in_ok-nodes.nodes.items c.in_ok-nodes.ensures c.parts-parts.result.now.end (ap (λ (q : ScenarioParts). q.end) c.parts-parts.ensures.value) in
    record { state = c.of_parts.ensures ∙ (λ i. record { state = same i; position = 0 }) }
