use Rattle.scenario_asm.proofs.Progress.{Progress}
use Rattle.scenario_asm.proofs.lines.read_lines.Given as goal

abbrev pub invariant-loop-line : goal.invariant-loop-line
invariant-loop-line l = Progress l.fn.text l.draft l.number l.line-iterator
