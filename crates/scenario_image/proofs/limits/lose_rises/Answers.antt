use Rattle.std.proofs.Common.{ltb, rules}
use Rattle.std.proofs.lemmas.List.Sorted.{answers_always}
use Rattle.scenario_image.proofs.Rising.{rising_answer}
use Rattle.scenario_image.proofs.limits.lose_rises.Goals as goal

pub returns : goal.returns
returns c = rising_answer _ _ (c.is_sorted_by.ensures.cases ltb (answers_always _ _ _ (λ _ _ _ _ called. search rules)))
