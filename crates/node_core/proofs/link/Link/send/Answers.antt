use Rattle.std.proofs.Common.{arith}
use Rattle.port.proofs.CodelLaws.{offerings_drop_nothing}
use Rattle.node_core.proofs.link.Link.send.Goals as goal

pub send-requires-clause-room : goal.send-requires-clause-room
send-requires-clause-room c = let none = offerings_drop_nothing c.args.now c.self.inside.port c.args.cell.0 c.self.invariant in omega (arith, none, c.requires.room)

pub invariant_of-self : goal.invariant_of-self
invariant_of-self c = c.send.ensures.caught_up c.self.invariant
