use Rattle.std.proofs.Common.{arith}
use Rattle.node_group.proofs.Seated.{length-seated}
use Rattle.node_group.proofs.area.AreaRegion.link_of.Goals as goal

pub link_number-requires-clause-within : goal.link_number-requires-clause-within
link_number-requires-clause-within c = let within = c.requires.within in let size = length-seated c.args.self.now.nodes_by_number in omega (arith, within, size)
