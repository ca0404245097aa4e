use Rattle.scenario_asm.proofs.Declaring.{names_declared}
use Rattle.scenario_asm.proofs.named_parts.with_names.Goals as goal

pub returns-clause-declared : goal.returns-clause-declared
returns-clause-declared c = names_declared c.args.text.now _ c.requires c.in_ok-nodes.ensures c.in_ok-links.ensures c.in_ok-flows.ensures
