use Rattle.std.proofs.Common.{sym, subst}
use Rattle.port.specs.Laws.{NothingWaitsWhereIdle}
use Rattle.port.proofs.StepLaws.{taken_keeps_nothing}
use Rattle.port.proofs.port.Port.free.Goals as goal

pub returns-clause-caught_up : goal.returns-clause-caught_up
returns-clause-caught_up c = subst NothingWaitsWhereIdle (sym c.take.ensures.state) (taken_keeps_nothing c.args.now c.args.self.now)
