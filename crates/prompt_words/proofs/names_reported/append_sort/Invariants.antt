-- What was appended and what is left are all lines.
use Rattle.std.proofs.Common.{◌≡◌, ◌++◌, drop}
use Rattle.prompt_words.specs.NamesReported.{names_from}
use Rattle.prompt_words.proofs.names_reported.append_sort.Given as goal

abbrev pub invariant-loop-index : goal.invariant-loop-index
invariant-loop-index l = l.out.items ++ names_from l.sort l.index (drop l.index l.names) ≡ l.fn.out.items ++ names_from l.sort 0 l.names
