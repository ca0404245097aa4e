use Rattle.std.proofs.Common.{ap, map, ◌∙◌}
use Rattle.scenario_asm.specs.Routes.{as_route}
use Rattle.scenario_asm.specs.Table.{known_in}
use Rattle.scenario_asm.proofs.Routes.{placed_entries}
use Rattle.scenario_asm.proofs.table.Table.add_route.Goals as goal

pub returns : goal.returns
returns c = ap (λ r. record (known_in c.args.self.now) { routes = r }) (ap (λ es. map as_route es) c.in_ok-insert.ensures.entries ∙ placed_entries c.args.route c.args.self.now.routes.entries c.requires)
