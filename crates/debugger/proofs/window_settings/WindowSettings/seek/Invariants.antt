use Rattle.std.proofs.Common.{◌≡◌, ◌≤◌, ◌-◌}
use Rattle.sim_time.specs.declared.limits.TheConstants.{MOST_EVENTS}
use Rattle.debugger.specs.Courses.{IsOnWindows}
use Rattle.debugger.proofs.Aims.{NotYet}
use Rattle.debugger.proofs.window_settings.WindowSettings.seek.Given as goal

abbrev pub invariant-loop-batch : goal.invariant-loop-batch
invariant-loop-batch g l = record {
  same : l.checkpoints ≡ l.fn.checkpoints;
  on_way : IsOnWindows l.fn.checkpoints l.course.engine.net.position l.course;
  few : l.course.engine.net.position ≤ MOST_EVENTS;
  from : l.fn.present.position ≤ l.course.engine.net.position;
  slice : 1 ≤ l.course.slice;
  yet : NotYet l.fn.checkpoints l.aim l.fn.present.position l.course.engine.net.position;
}

-- each window has committed an event, and there are at most 10^15
abbrev pub decreases-loop-batch : goal.decreases-loop-batch
decreases-loop-batch g l = MOST_EVENTS - l.course.engine.net.position
