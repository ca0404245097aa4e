-- What was passed has no marker.
use Rattle.std.proofs.Common.{length}
use Rattle.prompt_words.proofs.Parted.{Scanned}
use Rattle.prompt_words.proofs.input.split.Given as goal

abbrev pub invariant-loop-rest : goal.invariant-loop-rest
invariant-loop-rest l = Scanned l.input l.rest

abbrev pub decreases-loop-rest : goal.decreases-loop-rest
decreases-loop-rest l = length l.rest
