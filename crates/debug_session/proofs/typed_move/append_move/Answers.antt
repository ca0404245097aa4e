use Rattle.std.proofs.Common.{◌∙◌, OnOk, subst}
use Rattle.debugger.specs.Debugging.{Debugging}
use Rattle.debugger.proofs.Between.{on_ok}
use Rattle.debug_session.specs.Answers.{session_state}
use Rattle.debug_session.specs.Reported.{AddsPlace, AddsMove}
use Rattle.debug_session.proofs.TypedMoving.{move_reported}
use Rattle.debug_session.proofs.typed_move.append_move.Goals as goal

pub append_lines-requires : goal.append_lines-requires
append_lines-requires c = c.requires

pub returns-in-Ok-clause-ok : goal.returns-in-Ok-clause-ok
returns-in-Ok-clause-ok c =
    let d = c.args.debugger.now in
    let out = c.args.out.now.items in
    let made = c.append_lines.new.out.items in
    let all = c.append_where.new.out.items in
    on_ok {P = AddsPlace c.args.naming.now d.start c.args.report.bound (session_state d) made all} {Q = AddsMove c.args.naming.now d.start c.args.from c.args.report (session_state d) out all} c.append_where.result
    (λ place. move_reported c.args.naming.now d.start c.args.from c.args.report (session_state d) out made all c.in-Ok.ensures.ok place)
    (subst (λ (e : Debugging). OnOk c.append_where.result (AddsPlace c.args.naming.now e.start c.args.report.bound (session_state e) made all)) c.append_lines.ensures.same c.append_where.ensures.ok)

pub returns-in-Ok-clause-same : goal.returns-in-Ok-clause-same
returns-in-Ok-clause-same c = c.append_where.ensures.same ∙ c.append_lines.ensures.same

pub returns-in-Err-clause-same : goal.returns-in-Err-clause-same
returns-in-Err-clause-same c = c.append_lines.ensures.same
