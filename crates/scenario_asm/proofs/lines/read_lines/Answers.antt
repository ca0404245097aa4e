use Rattle.std.proofs.Common.{rules, arith, sym, refl}
use Rattle.scenario_asm.proofs.Progress.{progress_none, progress_few, refused_line, all_read}
use Rattle.scenario_asm.proofs.Right.{line_right_says}
use Rattle.scenario_asm.proofs.lines.read_lines.Goals as goal

pub overflow_add-number : goal.overflow_add-number
overflow_add-number c = omega (arith, progress_few _ _ _ _ _ _ c.loop-line.invariant c.in-Some.ensures.steps (omega arith))

pub loop-line-init : goal.loop-line-init
loop-line-init c = progress_none _ _ _ (search rules) c.requires

pub add_said-requires : goal.add_said-requires
add_said-requires c = line_right_says _ _ _ (sym c.in-Ok.ensures.said)

pub returns-clause-all : goal.returns-clause-all
returns-clause-all c = all_read _ _ _ _ c.loop-line.invariant c.in-None.ensures.steps.0

pub returns-in-Err-clause-refused : goal.returns-in-Err-clause-refused
returns-in-Err-clause-refused c = refused_line _ _ _ _ _ _ _ c.loop-line.invariant c.in-Some.ensures.steps refl refl c.in-Err.ensures.said c.in-Err.ensures.word
