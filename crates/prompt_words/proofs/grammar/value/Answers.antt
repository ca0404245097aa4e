use Rattle.std.proofs.Common.{rules}
use Rattle.scenario_asm.proofs.Digits.{digits_more}
use Rattle.prompt_words.proofs.grammar.value.Goals as goal

pub loop-digit-preserved : goal.loop-digit-preserved
loop-digit-preserved c = digits_more c.args.digits.now c.loop-digit.digit-index _ _ _ _ (search rules) c.loop-digit-test.true c.loop-digit.invariant c.saturating_mul.ensures c.from.ensures c.saturating_add-value.ensures
