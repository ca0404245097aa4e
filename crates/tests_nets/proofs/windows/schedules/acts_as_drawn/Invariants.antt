use Rattle.std.proofs.Common.{◌≡◌, false}
use Rattle.tests_nets.proofs.windows.schedules.acts_as_drawn.Given as goal

abbrev pub invariant-loop-action : goal.invariant-loop-action
invariant-loop-action g l = l.window.out ≡ false
