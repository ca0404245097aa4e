-- what was put fits
use Rattle.std.proofs.Common.{◌≤◌, length}
use Rattle.sessions.proofs.typed.read_line.Given as goal

abbrev pub invariant-loop : goal.invariant-loop
invariant-loop g l = l.count ≤ length l.room
