use Rattle.std.proofs.Common.{◌≤◌, ◌+◌, ◌-◌, length}
use Rattle.sim_time.specs.declared.limits.TheConstants.{MOST_EVENTS}
use Rattle.node_group.specs.Group.{AfterFirings, IsOnRun}
use Rattle.node_group.proofs.group_state.GroupState.run.Given as goal

-- some events below the end were run, and the group is still on its run
abbrev pub invariant-loop : goal.invariant-loop
invariant-loop l = AfterFirings l.end l.initial.self l.self × IsOnRun l.self × (l.end ≤ l.self.until)

-- how many events may still be run
abbrev pub decreases-loop : goal.decreases-loop
decreases-loop l = MOST_EVENTS - (l.self.position + length l.self.lines)
