use Rattle.std.proofs.Common.{◌∙◌, sym}
use Rattle.scenario_image.proofs.Loops.{flow_next, no_flow}
use Rattle.scenario_image.proofs.reading.flows_of.Goals as goal

pub returns-in_default : goal.returns-in_default
returns-in_default c = no_flow c.args.version c.args.count c.args.bytes.now c.loop.counter c.loop.flows.items c.loop.rest.now c.loop-test.true (sym c.flow_of.ensures ∙ c.in_default.is) c.loop.invariant

pub loop-preserved : goal.loop-preserved
loop-preserved c =
    rw (c.in_ok-push.ensures.items, c.behind-rest.ensures, c.flow_size.ensures)
    (flow_next c.args.version c.args.count c.args.bytes.now c.loop.counter c.loop.flows.items c.loop.rest.now c.in-Some.flow c.loop-test.true (sym c.flow_of.ensures ∙ c.in-Some.is) c.loop.invariant)
