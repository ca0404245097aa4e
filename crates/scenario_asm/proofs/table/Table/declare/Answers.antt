use Rattle.std.proofs.Common.{ap}
use Rattle.scenario_asm.specs.Table.{known_in}
use Rattle.scenario_asm.proofs.Declared.{items_updated}
use Rattle.scenario_asm.proofs.table.Table.declare.Goals as goal

pub returns : goal.returns
returns c = ap (λ f. record (known_in c.args.self.now) { item = f }) (items_updated c.args.name.now _ c.args.item c.args.self.now.items c.insert.new.self c.bytes.ensures c.in_ok-insert.ensures.updates)
