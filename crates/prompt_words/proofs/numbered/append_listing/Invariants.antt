-- What was appended and what is left are all lines.
use Rattle.std.proofs.Common.{◌≡◌, ◌+◌, ◌++◌, drop}
use Rattle.prompt_words.specs.Numbered.{lines_from}
use Rattle.prompt_words.proofs.numbered.append_listing.Given as goal

abbrev pub invariant-loop-index : goal.invariant-loop-index
invariant-loop-index l = l.out.items ++ lines_from l.naming (l.index + 1) (drop l.index l.breaks) ≡ l.fn.out.items ++ lines_from l.naming 1 l.breaks
