-- What is found so far, with what is left, is the whole.
use Rattle.std.proofs.Common.{◌≡◌, ◌++◌, map}
use Rattle.scenario_asm.specs.Lines.{lines_of_text}
use Rattle.scenario_asm.specs.Declarations.{seconds_after}
use Rattle.scenario_asm.proofs.named_parts.seconds_after.Given as goal

abbrev pub invariant-loop-line : goal.invariant-loop-line
invariant-loop-line l = map (λ second. second.now) l.seconds.items ++ seconds_after l.fn.first l.line-iterator ≡ seconds_after l.fn.first (lines_of_text l.fn.text)
