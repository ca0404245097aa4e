use Rattle.std.proofs.Common.{◌≤◌, ◌*◌}
use Rattle.sim_time.specs.declared.control_law.TheConstants.{ONE}
use Rattle.sim_time.proofs.control_law.inverse_root.Given as goal

abbrev pub invariant-loop : goal.invariant-loop
invariant-loop l = (l.root * l.root * l.count ≤ ONE * ONE) × (l.root ≤ ONE)
