use Rattle.std.proofs.Common.{◌*◌, ap, ◌∙◌}
use Rattle.scenario_image.specs.Layout.{version_of, flow_size}
use Rattle.scenario_image.proofs.Enough.{enough_behind, few_behind, few_nodes}
use Rattle.scenario_image.proofs.layout.has_its_layout.Goals as goal

pub returns-then-bytes-nodes : goal.returns-then-bytes-nodes
returns-then-bytes-nodes c = few_nodes c.args.bytes.now c.node_count-nodes.result c.if-bytes-nodes.true c.node_count-nodes.ensures.value

pub returns-in-Some : goal.returns-in-Some
returns-in-Some c =
    enough_behind c.args.bytes.now c.behind.result.now c.in-Some.rest.now c.node_count-nodes.result c.link_count.result c.flows_size-flows.result c.route_count.result c.if-bytes-lt-HEADER.false c.if-bytes-nodes.false c.behind.ensures c.in-Some.ensures.some c.node_count-nodes.ensures.value c.link_count.ensures.value
    (c.flows_size-flows.ensures.value ∙ ap (λ version. flow_size version * c.flow_count.result) c.version_of.ensures ∙ ap (λ n. flow_size (version_of c.args.bytes.now) * n) c.flow_count.ensures.value)
    c.route_count.ensures.value

pub returns-in-None : goal.returns-in-None
returns-in-None c = few_behind c.args.bytes.now c.behind.result.now c.node_count-nodes.result c.link_count.result c.if-bytes-lt-HEADER.false c.if-bytes-nodes.false c.behind.ensures c.in-None.ensures.none c.node_count-nodes.ensures.value c.link_count.ensures.value
