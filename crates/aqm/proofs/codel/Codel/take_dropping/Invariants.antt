use Rattle.std.proofs.Common.{ℕ, length}
use Rattle.aqm.proofs.SoFar.{IsSoFar}
use Rattle.aqm.proofs.codel.Codel.take_dropping.Given as goal

abbrev pub invariant-loop-head : goal.invariant-loop-head
invariant-loop-head l = (k : ℕ) × IsSoFar l.fn.self l.now l.fn.dropped l.dropped l.self l.head.cell l.head.ok k

abbrev pub decreases-loop-head : goal.decreases-loop-head
decreases-loop-head l = length l.self.fifo.waiting
