use Rattle.std.proofs.Common.{refl, subst}
use Rattle.net_watch.specs.Watched.{IsStepFault}
use Rattle.window_engine.proofs.OneByOne.{gone_full}
use Rattle.window_engine.proofs.singly.run_some.Goals as goal

pub returns-in-Err-CountFull-clause-fault : goal.returns-in-Err-CountFull-clause-fault
returns-in-Err-CountFull-clause-fault c =
    let new = c.run_watched.new in
    let paged = c.in-Err-CountFull.ensures.watched.holds.3 c.requires.empty refl in
    let end = subst (IsStepFault new.net) c.in-Err-CountFull.field-0-is c.in-Err-CountFull.ensures.end in
    gone_full c.args.until new.watch.last c.args.net.now new.net new.watch.page.now paged.1 end.0 end.1
