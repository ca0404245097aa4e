-- The word names none of the values before.
use Rattle.std.proofs.Common.{◌≡◌, drop}
use Rattle.prompt_words.specs.ValueNames.{value_among}
use Rattle.prompt_words.proofs.value_names.value_among.Given as goal

abbrev pub invariant-loop-value : goal.invariant-loop-value
invariant-loop-value l = value_among (drop l.value-index l.values) l.word ≡ value_among l.values l.word
