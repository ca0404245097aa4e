use Rattle.std.proofs.Common.{◌+◌, ◌/◌, arith}
use Rattle.sim_time.specs.declared.control_law.TheConstants.{ONE}
use Rattle.sim_time.proofs.ControlLaw.{fits_below}
use Rattle.sim_time.proofs.InverseRoot.{guess_below}
use Rattle.sim_time.proofs.control_law.inverse_root.Goals as goal

pub loop-init : goal.loop-init
loop-init c =
    let below = guess_below c.args.count c.ilog2.result (c.ilog2.result / 2 + 1) ONE c.ilog2.ensures.next_power_gt (omega arith) in
    (below, fits_below ONE c.args.count _ c.requires below)
