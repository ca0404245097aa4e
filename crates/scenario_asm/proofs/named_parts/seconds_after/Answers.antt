use Rattle.std.proofs.Common.{rules, ◌∙◌}
use Rattle.scenario_asm.proofs.Declaring.{seconds_more, seconds_all}
use Rattle.scenario_asm.proofs.named_parts.seconds_after.Goals as goal

pub loop-line-init : goal.loop-line-init
loop-line-init c = search rules

pub loop-line-preserved : goal.loop-line-preserved
loop-line-preserved c = seconds_more _ _ _ _ _ _ _ _ c.loop-line.invariant c.in-Some.ensures.steps (c.deref.ensures.value ∙ c.in_ok-first_words.ensures) c.in_ok-push_second.ensures

pub returns : goal.returns
returns c = seconds_all _ _ _ _ c.loop-line.invariant c.in-None.ensures.steps.0
