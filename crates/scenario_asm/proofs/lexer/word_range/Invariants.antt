use Rattle.scenario_asm.proofs.Ranges.{Passed}
use Rattle.scenario_asm.proofs.lexer.word_range.Given as goal

abbrev pub invariant-loop-bytes : goal.invariant-loop-bytes
invariant-loop-bytes l = Passed l.fn.line l.fn.number l.start l.before l.bytes-iterator
