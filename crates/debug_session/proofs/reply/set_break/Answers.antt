use Rattle.std.proofs.Common.{ap, sym, ◌∙◌}
use Rattle.std.specs.List.{Contains}
use Rattle.breakpoints.specs.declared.breaks.BreakFault.TheVariants.{TooMany}
use Rattle.debugger.specs.Debugging.{Debugging}
use Rattle.debug_session.specs.Answers.{session_state}
use Rattle.debug_session.proofs.Setting.{decided, has_room, is_full, set_done, ok_no_err, err_no_ok, many_no_memory, fault_of}
use Rattle.debug_session.proofs.reply.set_break.Goals as goal

pub returns-in-Ok-clause-obeyed : goal.returns-in-Ok-clause-obeyed
returns-in-Ok-clause-obeyed c =
    let d = c.args.debugger.now in
    let e = c.in-Ok.ensures in
    set_done c.args.b d c.add_break.new.self c.in-Ok.count c.say_set.new.self (decided (Contains d.breaks c.args.b) c.has_break-is_set.result c.has_break-is_set.ensures.value) c.has_break-is_set.ensures.few
    e.same e.count (λ has. (e.again has).0) e.fresh (λ hasn't many. ok_no_err c.in-Ok.count TooMany (e.full hasn't many)) c.say_set.ensures

pub returns-in-Ok-clause-start : goal.returns-in-Ok-clause-start
returns-in-Ok-clause-start c = ap (λ (d : Debugging). d.start) c.in-Ok.ensures.same

pub returns-in-Err-TooMany-clause-obeyed : goal.returns-in-Err-TooMany-clause-obeyed
returns-in-Err-TooMany-clause-obeyed c =
    let e = c.in-Err-TooMany.ensures in
    let many = is_full c.args.debugger.now.breaks c.has_break-is_set.ensures.few (λ under. many_no_memory (sym c.in-Err-TooMany.field-0-is ∙ e.room under)) in
    (ap session_state e.err, ((λ has. err_no_ok _ _ (e.again has).1), many))

pub returns-in-Err-TooMany-clause-start : goal.returns-in-Err-TooMany-clause-start
returns-in-Err-TooMany-clause-start c = ap (λ (d : Debugging). d.start) c.in-Err-TooMany.ensures.err

pub returns-in-Err-NoMemory-clause-obeyed : goal.returns-in-Err-NoMemory-clause-obeyed
returns-in-Err-NoMemory-clause-obeyed c =
    let e = c.in-Err-NoMemory.ensures in
    let hasn't : ¬ Contains c.args.debugger.now.breaks c.args.b = λ has. err_no_ok _ _ (e.again has).1 in
    (ap session_state e.err, (hasn't, has_room c.args.debugger.now.breaks c.has_break-is_set.ensures.few (λ many. many_no_memory (sym (ap fault_of (e.full hasn't many)) ∙ c.in-Err-NoMemory.field-0-is))))

pub returns-in-Err-NoMemory-clause-start : goal.returns-in-Err-NoMemory-clause-start
returns-in-Err-NoMemory-clause-start c = ap (λ (d : Debugging). d.start) c.in-Err-NoMemory.ensures.err
