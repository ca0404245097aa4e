use Rattle.std.proofs.Common.{rules}
use Rattle.scenario_asm.specs.Table.{known_in}
use Rattle.scenario_asm.proofs.Declared.{link_after}
use Rattle.scenario_asm.proofs.table.Table.add_link.Goals as goal

pub returns : goal.returns
returns c = link_after (known_in c.declare.new.self) (known_in c.args.self.now) c.args.name.now c.args.part _ _ c.in_ok-declare.ensures c.in_ok-push.ensures.items (search rules)
