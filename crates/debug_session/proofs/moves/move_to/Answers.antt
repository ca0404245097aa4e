use Rattle.std.proofs.Common.{arith}
use Rattle.debug_session.proofs.Going.{back_there, on_there}
use Rattle.debug_session.proofs.moves.move_to.Goals as goal

pub returns-then-target-from-clause-goes : goal.returns-then-target-from-clause-goes
returns-then-target-from-clause-goes c =
    back_there c.args.debugger.now c.back.new.self c.position-from.result c.args.target c.back.result c.position-from.ensures.count c.if-target-from.true c.back.ensures.moved c.back.ensures.goes

pub returns-else-target-from-clause-goes : goal.returns-else-target-from-clause-goes
returns-else-target-from-clause-goes c =
    on_there c.args.debugger.now c.position-from.result c.args.target c.step.result c.position-from.ensures.count (omega (arith, c.if-target-from.false)) c.step.ensures.goes
