use Rattle.std.proofs.Common.{◌*◌, arith}
use Rattle.sim_time.specs.declared.control_law.TheConstants.{ONE}
use Rattle.sim_time.proofs.ControlLaw.{fits_below}
use Rattle.sim_time.proofs.InverseRoot.{step_below}
use Rattle.sim_time.proofs.control_law.closer.Goals as goal

pub returns-clause-below : goal.returns-clause-below
returns-clause-below c = simp (c.from.ensures, c.from-root.ensures, c.from-one.ensures) (step_below c.args.root c.args.count (ONE * ONE) (omega arith) c.requires.below)

pub returns-clause-most : goal.returns-clause-most
returns-clause-most c = fits_below ONE c.args.count _ c.requires.counted (returns-clause-below c)
