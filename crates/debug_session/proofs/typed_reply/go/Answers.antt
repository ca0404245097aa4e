use Rattle.std.proofs.Common.{ap}
use Rattle.debugger.specs.Debugging.{Debugging}
use Rattle.debug_session.specs.Answers.{session_state}
use Rattle.debug_session.proofs.TypedMoving.{has_from, gone_past}
use Rattle.debug_session.proofs.typed_reply.go.Goals as goal

pub make-requires : goal.make-requires
make-requires g c = record { ready = c.requires.ready }

pub say_move-told-requires : goal.say_move-told-requires
say_move-told-requires g c = has_from c.args.debugger.now c.make.new.debugger _ c.position-from.result c.position-from.ensures.count c.position-from.ensures.on_run c.in-Ok.ensures.moved

pub returns-in-Ok-clause-obeyed : goal.returns-in-Ok-clause-obeyed
returns-in-Ok-clause-obeyed g c =
    let told = c.say_move-told in
    let done = c.or_undone in
    (gone_past c.args.naming.now c.args.asked c.args.debugger.now c.make.new.debugger told.new.debugger done.new.debugger c.position-from.result c.report_of-report.result _ told.result done.result told.new.self c.position-from.ensures.count c.report_of-report.ensures
    c.in-Ok.ensures.moved c.in-Ok.ensures.goes told.ensures.same told.ensures.reported done.ensures.same done.ensures.undone).obeyed

pub returns-in-Ok-clause-start : goal.returns-in-Ok-clause-start
returns-in-Ok-clause-start g c =
    let told = c.say_move-told in
    let done = c.or_undone in
    (gone_past c.args.naming.now c.args.asked c.args.debugger.now c.make.new.debugger told.new.debugger done.new.debugger c.position-from.result c.report_of-report.result _ told.result done.result told.new.self c.position-from.ensures.count c.report_of-report.ensures
    c.in-Ok.ensures.moved c.in-Ok.ensures.goes told.ensures.same told.ensures.reported done.ensures.same done.ensures.undone).start

pub returns-in-Ok-clause-left : goal.returns-in-Ok-clause-left
returns-in-Ok-clause-left g c =
    let told = c.say_move-told in
    let done = c.or_undone in
    (gone_past c.args.naming.now c.args.asked c.args.debugger.now c.make.new.debugger told.new.debugger done.new.debugger c.position-from.result c.report_of-report.result _ told.result done.result told.new.self c.position-from.ensures.count c.report_of-report.ensures
    c.in-Ok.ensures.moved c.in-Ok.ensures.goes told.ensures.same told.ensures.reported done.ensures.same done.ensures.undone).left

pub returns-in-Err-clause-obeyed : goal.returns-in-Err-clause-obeyed
returns-in-Err-clause-obeyed g c = (ap session_state c.in-Err.ensures.err, tt)

pub returns-in-Err-clause-start : goal.returns-in-Err-clause-start
returns-in-Err-clause-start g c = ap (λ (d : Debugging). d.start) c.in-Err.ensures.err

pub returns-in-Err-clause-left : goal.returns-in-Err-clause-left
returns-in-Err-clause-left g c = tt
