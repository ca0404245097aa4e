use Rattle.scenario_asm.specs.Table.{known_in}
use Rattle.scenario_asm.proofs.Declared.{flow_after}
use Rattle.scenario_asm.proofs.table.Table.add_flow.Goals as goal

pub returns : goal.returns
returns c = flow_after (known_in c.declare.new.self) (known_in c.args.self.now) c.args.name.now c.args.part _ c.in_ok-declare.ensures c.in_ok-push.ensures.items
