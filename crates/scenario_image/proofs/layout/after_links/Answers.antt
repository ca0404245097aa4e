use Rattle.scenario_image.proofs.Loops.{size_next}
use Rattle.scenario_image.proofs.layout.after_links.Goals as goal

pub loop-preserved : goal.loop-preserved
loop-preserved c =
    size_next c.args.count c.args.bytes.now c.loop.counter c.loop.rest.now c.behind-rest.result.now c.link_size-size.result c.loop-test.true c.link_size-size.ensures.value c.if-rest-size.false c.behind-rest.ensures c.loop.invariant
