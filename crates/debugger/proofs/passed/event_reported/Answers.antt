use Rattle.std.proofs.Common.{sym, subst}
use Rattle.std.proofs.lemmas.Result.{IfOk-at_ok}
use Rattle.node_core.specs.TraceLine.{shown}
use Rattle.breakpoints.specs.Breaks.{IsFirstHit}
use Rattle.debugger.proofs.passed.event_reported.Goals as goal

pub first_hit-requires : goal.first_hit-requires
first_hit-requires c = c.requires

pub returns-in-Ok-clause-shows : goal.returns-in-Ok-clause-shows
returns-in-Ok-clause-shows c = c.event_of.ensures.shows

pub returns-in-Ok-clause-first : goal.returns-in-Ok-clause-first
returns-in-Ok-clause-first c = λ before is stepped are.
    subst (IsFirstHit c.args.breaks.now before.state (shown c.args.line.now) c.args.net.now.state) (sym c.event_of.ensures.hit)
    (IfOk-at_ok (IsFirstHit c.args.breaks.now before.state (shown c.args.line.now) c.args.net.now.state) c.in-Ok.is (c.first_hit.ensures before is stepped are))

pub returns-in-Err-clause-shows : goal.returns-in-Err-clause-shows
returns-in-Err-clause-shows c = tt

pub returns-in-Err-clause-first : goal.returns-in-Err-clause-first
returns-in-Err-clause-first c = λ before is stepped are. tt
