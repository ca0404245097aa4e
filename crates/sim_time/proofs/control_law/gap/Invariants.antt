use Rattle.std.proofs.Common.{◌≤◌, ◌*◌, ◌-◌}
use Rattle.sim_time.proofs.control_law.gap.Given as goal

abbrev pub invariant-loop-gap : goal.invariant-loop-gap
invariant-loop-gap l = l.gap * l.gap * l.count ≤ l.interval * l.interval

abbrev pub decreases-loop-gap : goal.decreases-loop-gap
decreases-loop-gap l = l.interval - l.gap
