use Rattle.std.proofs.Common.{◌+◌, arith}
use Rattle.sim_time.specs.declared.control_law.TheConstants.{ONE}
use Rattle.sim_time.proofs.ControlLaw.{fits_below, gap_from_next, only_gap}
use Rattle.sim_time.proofs.InverseRoot.{scaled_fits}
use Rattle.sim_time.proofs.control_law.gap.Goals as goal

pub loop-gap-init : goal.loop-gap-init
loop-gap-init c = scaled_fits _ c.args.interval c.inverse_root.result c.args.count ONE (omega arith) c.parts_of-gap.ensures c.inverse_root.ensures.below

pub loop-gap-smaller : goal.loop-gap-smaller
loop-gap-smaller c =
    let within = fits_below c.args.interval c.args.count (c.loop-gap.gap + 1) c.requires.counted (c.fits.ensures.0 c.loop-gap-test.true) in
    omega arith

pub returns-clause-greatest : goal.returns-clause-greatest
returns-clause-greatest c = gap_from_next c.args.interval c.args.count c.loop-gap.gap c.loop-gap.invariant (grind arith)

pub returns-clause-value : goal.returns-clause-value
returns-clause-value c = only_gap c.args.interval c.args.count c.loop-gap.gap (returns-clause-greatest c) c.requires.counted
