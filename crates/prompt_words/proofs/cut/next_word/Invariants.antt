-- What was passed had no words.
use Rattle.std.proofs.Common.{◌≡◌, length}
use Rattle.prompt_words.specs.Input.{words_in}
use Rattle.prompt_words.proofs.cut.next_word.Given as goal

abbrev pub invariant-loop-rest : goal.invariant-loop-rest
invariant-loop-rest l = words_in l.rest ≡ words_in l.line

abbrev pub decreases-loop-rest : goal.decreases-loop-rest
decreases-loop-rest l = length l.rest
