use Rattle.std.proofs.Common.{◌≡◌, ◌≤◌, ◌++◌, length}
use Rattle.std.specs.List.{filter}
use Rattle.scenario_asm.specs.Lines.{words_of, is_word}
use Rattle.scenario_asm.proofs.lexer.first_words.Given as goal

abbrev pub invariant-loop-bytes : goal.invariant-loop-bytes
invariant-loop-bytes l = (l.words.items ++ filter is_word l.bytes-iterator ≡ words_of l.fn.line) × (length l.words.items ≤ 12)
