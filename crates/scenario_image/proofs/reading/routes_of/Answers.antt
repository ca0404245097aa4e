use Rattle.scenario_image.specs.Reading.{route_at}
use Rattle.scenario_image.proofs.Loops.{read_next, all_read}
use Rattle.scenario_image.proofs.reading.routes_of.Goals as goal

pub loop-preserved : goal.loop-preserved
loop-preserved c =
    rw (c.in_ok-push.ensures.items, c.behind-rest.ensures, c.route_of.ensures) (read_next 6 route_at c.args.count c.args.bytes.now c.loop.counter _ c.loop.rest.now c.loop-test.true c.loop.invariant)

pub returns : goal.returns
returns c = all_read 6 route_at c.args.count c.args.bytes.now c.loop.counter _ c.loop.rest.now c.loop-test.false c.loop.invariant
