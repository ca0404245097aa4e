use Rattle.std.proofs.Common.{ap, arith, length}
use Rattle.aqm.specs.Queue.{waiting_in}
use Rattle.port.specs.Port.{PortState}
use Rattle.port.proofs.CodelLaws.{drops_at_most, offering_drops_at_most}
use Rattle.port.proofs.port.Port.room.Goals as goal

pub returns-clause-sends : goal.returns-clause-sends
returns-clause-sends c = λ now packet.
    let most = offering_drops_at_most now c.args.self.now packet in
    let same = ap (λ (p : PortState). length (waiting_in p.queue)) c.self.view_is in
    omega (arith, most, same, c.len.ensures.value)

pub returns-clause-frees : goal.returns-clause-frees
returns-clause-frees c = λ now.
    let most = drops_at_most now c.args.self.now in
    let same = ap (λ (p : PortState). length (waiting_in p.queue)) c.self.view_is in
    omega (arith, most, same, c.len.ensures.value)
