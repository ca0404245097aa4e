-- Each of the breakpoints so far sees the state after the line, and each of the others that before it.
use Rattle.std.proofs.Common.{◌≡◌}
use Rattle.breakpoints.proofs.States.{halves}
use Rattle.breakpoints.proofs.seen.see_again.Given as goal

abbrev pub invariant-loop-index : goal.invariant-loop-index
invariant-loop-index l = l.seen.items ≡ halves l.before.value.state l.net.state l.breaks l.index
