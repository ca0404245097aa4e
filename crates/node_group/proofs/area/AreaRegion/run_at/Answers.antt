use Rattle.std.proofs.Common.{arith}
use Rattle.node_group.proofs.Seated.{length-seated}
use Rattle.node_group.proofs.area.AreaRegion.run_at.Goals as goal

pub fire_into-requires-clause-within : goal.fire_into-requires-clause-within
fire_into-requires-clause-within c = let within = c.requires.within in let size = length-seated c.args.self.now.nodes_by_number in omega (arith, within, size)
