use Rattle.std.proofs.Common.{sym, subst}
use Rattle.port.specs.Laws.{NothingWaitsWhereIdle}
use Rattle.port.proofs.StepLaws.{taken_keeps_nothing}
use Rattle.node_core.proofs.link.Link.free.Goals as goal

pub invariant_of-self : goal.invariant_of-self
invariant_of-self c = subst NothingWaitsWhereIdle (sym c.free.ensures.state) (taken_keeps_nothing c.args.now c.self.inside.port)
