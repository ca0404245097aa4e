-- What was appended and what is left is all.
use Rattle.std.proofs.Common.{◌≡◌, ◌++◌, drop}
use Rattle.std.specs.List.{flat_map}
use Rattle.prompt_words.specs.ValueTexts.{asked_text}
use Rattle.prompt_words.proofs.value_texts.append_each.Given as goal

abbrev pub invariant-loop-value : goal.invariant-loop-value
invariant-loop-value l = l.out.items ++ flat_map (asked_text l.naming l.values) (drop l.value-index l.all) ≡ l.fn.out.items ++ flat_map (asked_text l.naming l.values) l.all
