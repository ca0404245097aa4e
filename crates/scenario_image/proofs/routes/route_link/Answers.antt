use Rattle.std.proofs.Common.{rules, arith}
use Rattle.std.proofs.lemmas.List.Sorted.{answers_always}
use Rattle.scenario_image.proofs.RouteSearch.{key_of, search_found, search_missed}
use Rattle.scenario_image.proofs.routes.route_link.Goals as goal

pub returns-in-Ok : goal.returns-in-Ok
returns-in-Ok c =
    search_found c.args.parts.now c.as_slice-routes.result.now c.route_key-key.result c.args.router c.args.destination c.in-Ok.place c.requires c.as_slice-routes.ensures.value c.route_key-key.ensures
    _ (omega arith) c.in-Ok.ensures.bound (c.in-Ok.ensures.position key_of (answers_always _ _ _ (λ f a r g called. search rules)))

pub returns-in-Err : goal.returns-in-Err
returns-in-Err c =
    search_missed c.args.parts.now c.as_slice-routes.result.now c.route_key-key.result c.args.router c.args.destination c.in-Err.field-0 c.requires c.as_slice-routes.ensures.value c.route_key-key.ensures
    (c.in-Err.ensures.position key_of (answers_always _ _ _ (λ f a r g called. search rules)))
