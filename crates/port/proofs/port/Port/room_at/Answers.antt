use Rattle.std.proofs.Common.{arith}
use Rattle.port.proofs.CodelLaws.{offerings_drop_nothing}
use Rattle.port.proofs.port.Port.room_at.Goals as goal

pub returns-clause-sends : goal.returns-clause-sends
returns-clause-sends c = λ nothing packet. let none = offerings_drop_nothing c.args.now c.args.self.now packet nothing in omega (arith, none)
