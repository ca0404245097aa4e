-- What is written so far, with what is left, is the whole.
use Rattle.std.proofs.Common.{◌≡◌, ◌++◌, drop}
use Rattle.scenario_asm.specs.Spelling.{text_for}
use Rattle.scenario_asm.specs.CanonicalText.{lose_statements}
use Rattle.scenario_asm.proofs.disassembler.put_losses.Given as goal

abbrev pub invariant-loop-number : goal.invariant-loop-number
invariant-loop-number l =
    l.text.items ++ text_for (lose_statements l.number (drop l.number l.links)) ≡ l.initial.text.items ++ text_for (lose_statements 0 l.links)
