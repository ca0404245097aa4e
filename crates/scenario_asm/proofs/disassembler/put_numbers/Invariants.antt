-- What is written so far, with what is left, is the whole.
use Rattle.std.proofs.Common.{◌≡◌, ◌++◌, drop}
use Rattle.scenario_asm.specs.Spelling.{text_for}
use Rattle.scenario_asm.specs.CanonicalText.{numbers_lost}
use Rattle.scenario_asm.proofs.disassembler.put_numbers.Given as goal

abbrev pub invariant-loop-number : goal.invariant-loop-number
invariant-loop-number l =
    l.text.items ++ text_for (numbers_lost l.link (drop l.number-index l.numbers)) ≡ l.initial.text.items ++ text_for (numbers_lost l.link l.numbers)
