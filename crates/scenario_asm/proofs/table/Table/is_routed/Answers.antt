use Rattle.std.proofs.Common.{◌∙◌}
use Rattle.scenario_asm.proofs.Routes.{routed_entries}
use Rattle.scenario_asm.proofs.table.Table.is_routed.Goals as goal

pub returns : goal.returns
returns c = c.contains_key.ensures ∙ routed_entries c.args.router c.args.destination c.args.self.now.routes.entries
