-- One has the digit 1.
use Rattle.std.proofs.Common.{sym, arith}
use Rattle.std.proofs.lemmas.Fmt.{decimal_digit}
use Rattle.trace_text.proofs.kept.TimeText.new.Goals as goal

pub invariant_of-result-clause-are : goal.invariant_of-result-clause-are
invariant_of-result-clause-are c = sym (decimal_digit 1 (omega arith))
