use Rattle.std.proofs.Common.{◌≡◌, ◌++◌, take}
use Rattle.std.specs.List.{flat_map}
use Rattle.scenario_image.specs.Image.{route_image}
use Rattle.scenario_image.proofs.saving.put_routes.Given as goal

abbrev pub invariant-loop-route : goal.invariant-loop-route
invariant-loop-route l = l.out.items ≡ l.fn.out.items ++ flat_map route_image (take l.route-index l.routes)
