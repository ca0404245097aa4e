-- What was read and what is left is all.
use Rattle.std.proofs.Common.{◌≡◌}
use Rattle.breakpoints.specs.Breaks.{asks_nothing}
use Rattle.prompt_words.specs.Conditions.{conditions}
use Rattle.prompt_words.proofs.conditions.conditions.Given as goal

abbrev pub invariant-loop-left : goal.invariant-loop-left
invariant-loop-left l = conditions l.left l.naming l.b l.word l.parts ≡ conditions 21 l.naming asks_nothing l.first l.fn.parts

abbrev pub decreases-loop-left : goal.decreases-loop-left
decreases-loop-left l = l.left
