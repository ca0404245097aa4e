use Rattle.std.proofs.Common.{arith}
use Rattle.std.proofs.lemmas.Result.{err_from_is_err_and}
use Rattle.scenario_image.proofs.Loops.{link_fits, link_next, link_fails, links_done}
use Rattle.scenario_image.proofs.reading.links_of.Goals as goal

pub returns-in_err-link_of : goal.returns-in_err-link_of
returns-in_err-link_of c =
    let p = err_from_is_err_and c.from_residual.result c.from_residual.ensures.1 in
    rw (p.1, p.2) (link_fails c.in_err-link_of.field-0.0 c.args.count c.args.bytes.now c.loop.counter c.loop.links.items c.loop.rest.now c.loop-test.true c.in_err-link_of.ensures c.loop.invariant)

pub link_of-requires : goal.link_of-requires
link_of-requires c = link_fits c.args.count c.args.bytes.now c.loop.counter c.loop.links.items c.loop.rest.now c.loop-test.true c.loop.invariant

pub link_size-requires : goal.link_size-requires
link_size-requires c = let fits = link_fits c.args.count c.args.bytes.now c.loop.counter c.loop.links.items c.loop.rest.now c.loop-test.true c.loop.invariant in omega (arith, fits)

pub behind-rest-requires : goal.behind-rest-requires
behind-rest-requires c =
    let fits = link_fits c.args.count c.args.bytes.now c.loop.counter c.loop.links.items c.loop.rest.now c.loop-test.true c.loop.invariant in omega (arith, fits, c.link_size.ensures.value)

pub loop-preserved : goal.loop-preserved
loop-preserved c =
    rw (c.in_ok-push.ensures.items, c.behind-rest.ensures, c.link_size.ensures.value)
    (link_next c.args.count c.args.bytes.now c.loop.counter c.loop.links.items c.loop.rest.now c.in_ok-link_of.field-0 c.loop-test.true c.in_ok-link_of.ensures c.loop.invariant)

pub returns : goal.returns
returns c = links_done c.args.count c.args.bytes.now c.loop.counter c.loop.links.items c.loop.rest.now c.loop-test.false c.loop.invariant
