use Rattle.scenario_image.proofs.Takes.{parts_read}
use Rattle.scenario_image.proofs.reading.parts_from.Goals as goal

pub returns : goal.returns
returns c =
    parts_read c.args.bytes.now c.args.rest.now c.behind-rest.result.now c.behind.result.now c.args.nodes c.args.links c.version_of-version.result c.flow_count-count.result c.flows_size.result c.route_count.result c.route_count-2.result c.long_at.result c.in_ok-flows.flows.items c.new.result c.in_ok-routes.routes.items c.new-2.result
    c.version_of-version.ensures c.flow_count-count.ensures.value c.in_ok-flows.ensures c.new.ensures c.flows_size.ensures.value c.behind-rest.ensures c.route_count.ensures.value c.in_ok-routes.ensures c.new-2.ensures c.long_at.ensures c.route_count-2.ensures.value c.behind.ensures
