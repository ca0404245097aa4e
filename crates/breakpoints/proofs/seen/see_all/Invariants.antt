-- What each of the breakpoints so far sees.
use Rattle.std.proofs.Common.{take}
use Rattle.breakpoints.specs.Seen.{AreSeen}
use Rattle.breakpoints.proofs.seen.see_all.Given as goal

abbrev pub invariant-loop-index : goal.invariant-loop-index
invariant-loop-index l = AreSeen (take l.index l.breaks) l.net.state l.all.items
