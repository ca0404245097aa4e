use Rattle.std.proofs.Common.{rules}
use Rattle.std.proofs.lemmas.List.Sorted.{answers_always}
use Rattle.scenario_image.proofs.Rising.{routes_answer, route_before, route_before_answer}
use Rattle.scenario_image.proofs.limits.routes_rise.Goals as goal

pub returns : goal.returns
returns c =
    rw (← c.as_slice-routes.ensures.value)
    (routes_answer _ _ (c.is_sorted_by.ensures.cases route_before (answers_always _ _ _ (λ _ a r _ called. route_before_answer a.0.now a.1.0.now r (search rules)))))
