use Rattle.byteorder.specs.Endian.{big_number}
use Rattle.scenario_image.proofs.Loops.{read_next, all_read}
use Rattle.scenario_image.proofs.reading.lose_of.Goals as goal

pub loop-preserved : goal.loop-preserved
loop-preserved c =
    rw (c.in_ok-push.ensures.items, c.behind-rest.ensures, c.read_u32.ensures) (read_next 4 (big_number 4) c.args.count c.args.bytes.now c.loop.counter _ c.loop.rest.now c.loop-test.true c.loop.invariant)

pub returns : goal.returns
returns c = all_read 4 (big_number 4) c.args.count c.args.bytes.now c.loop.counter _ c.loop.rest.now c.loop-test.false c.loop.invariant
