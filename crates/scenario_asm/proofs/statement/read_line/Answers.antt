use Rattle.std.proofs.Common.{rules, Err, ◌≡◌, ap, sym, ◌∙◌}
use Rattle.scenario_asm.specs.Statements.{as_said}
use Rattle.scenario_asm.specs.Refusals.{as_fault}
use Rattle.scenario_asm.proofs.Words.{line_says, line_word_is}
use Rattle.scenario_asm.proofs.statement.read_line.Goals as goal

pub returns-clause-said : goal.returns-clause-said
returns-clause-said c = ap as_said c.in_ok-statement.ensures.said ∙ sym (line_says _ _ _ c.requires (search rules) (search rules))

pub returns-in_err-statement-clause-said : goal.returns-in_err-statement-clause-said
returns-in_err-statement-clause-said c =
    let is : c.from_residual.result ≡ Err c.in_err-statement.field-0.0 = search rules in
    ap as_fault is ∙ (ap as_said c.in_err-statement.ensures.said ∙ sym (line_says _ _ _ c.requires (search rules) (search rules)))

pub returns-in_err-statement-clause-word : goal.returns-in_err-statement-clause-word
returns-in_err-statement-clause-word c =
    let is : c.from_residual.result ≡ Err c.in_err-statement.field-0.0 = search rules in
    rw is (c.in_err-statement.ensures.word ∙ sym (line_word_is _ _ _ c.requires (search rules) (search rules)))
