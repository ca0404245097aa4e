-- None of those that are passed is meant.
use Rattle.std.proofs.Common.{◌≡◌, drop}
use Rattle.prompt_words.specs.Entries.{name_among}
use Rattle.prompt_words.proofs.entries.name_among.Given as goal

abbrev pub invariant-loop-entry : goal.invariant-loop-entry
invariant-loop-entry l = name_among (drop l.entry-index l.entries) l.word ≡ name_among l.entries l.word
