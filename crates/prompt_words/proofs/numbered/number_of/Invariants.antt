-- The breakpoint is none of those before.
use Rattle.std.proofs.Common.{take}
use Rattle.std.specs.List.{Contains}
use Rattle.prompt_words.proofs.numbered.number_of.Given as goal

abbrev pub invariant-loop-index : goal.invariant-loop-index
invariant-loop-index l = ¬ Contains (take l.index l.breaks) l.b
