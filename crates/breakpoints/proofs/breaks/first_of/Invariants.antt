use Rattle.std.proofs.Common.{Some}
use Rattle.node_core.specs.TraceLine.{shown}
use Rattle.net_machine.specs.Run.{Reached, IsRun, Stepped}
use Rattle.breakpoints.specs.Seen.{AreSeen}
use Rattle.breakpoints.proofs.First.{NoneOfFirst}
use Rattle.breakpoints.proofs.breaks.first_of.Given as goal

-- none so far matches the line, whatever the state before it
abbrev pub invariant-loop-index : goal.invariant-loop-index
invariant-loop-index l = (before : Reached) → IsRun before → Stepped before (Some (shown l.line)) l.net → AreSeen l.breaks before.state l.seen → NoneOfFirst l.breaks before.state (shown l.line) l.net.state l.index
