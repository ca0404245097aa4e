use Rattle.std.proofs.Common.{refl}
use Rattle.byteorder.specs.Endian.{big_bytes}
use Rattle.scenario_image.proofs.Appends.{grown}
use Rattle.scenario_image.proofs.saving.put_lose.Goals as goal

pub loop-number-preserved : goal.loop-number-preserved
loop-number-preserved c = grown (big_bytes 4) c.args.lose.now c.loop-number.number-index _ _ c.args.out.now.items c.loop-number.out.items c.put_u32.new.out.items c.loop-number-test.true refl c.loop-number.invariant c.in_ok-put_u32.ensures
