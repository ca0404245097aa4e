-- The names behind are still to be looked at.
use Rattle.std.proofs.Common.{◌≡◌, None, drop}
use Rattle.sessions.proofs.BestNames.{nearest_of}
use Rattle.sessions.proofs.nearest.nearest.Given as goal

abbrev pub invariant-loop-name : goal.invariant-loop-name
invariant-loop-name l = nearest_of l.word l.best (drop l.name-index l.names) ≡ nearest_of l.word None l.names
