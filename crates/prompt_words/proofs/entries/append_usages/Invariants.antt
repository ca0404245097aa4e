-- What was appended and what is left is all.
use Rattle.std.proofs.Common.{◌≡◌, ◌++◌, drop}
use Rattle.std.specs.List.{flat_map}
use Rattle.prompt_words.proofs.entries.append_usages.Given as goal

abbrev pub invariant-loop-entry : goal.invariant-loop-entry
invariant-loop-entry l = l.out.items ++ flat_map (λ entry. entry.1.now) (drop l.entry-index l.entries) ≡ l.fn.out.items ++ flat_map (λ entry. entry.1.now) l.entries
