use Rattle.std.proofs.Common.{◌≡◌, ◌++◌, ◌∙◌, OnOk, subst}
use Rattle.debugger.specs.Debugging.{Debugging}
use Rattle.debugger.proofs.Between.{on_ok}
use Rattle.debug_session.specs.Answers.{session_state}
use Rattle.debug_session.specs.Reported.{AddsPlace}
use Rattle.debug_session.specs.TypedMoves.{next_text, known_line, where_text}
use Rattle.debug_session.proofs.TypedMoving.{where_reported}
use Rattle.debug_session.proofs.typed_move.append_whereabouts.Goals as goal

pub returns-in-Ok-clause-ok : goal.returns-in-Ok-clause-ok
returns-in-Ok-clause-ok c =
    let d = c.args.debugger.now in
    let out = c.args.out.now.items in
    let made = c.append_where.new.out.items in
    let all = c.append_ahead.new.out.items in
    let place : AddsPlace c.args.naming.now d.start d.shown.position (session_state d) out made = subst (λ n. AddsPlace c.args.naming.now d.start n (session_state d) out made) c.position-here.ensures.count c.in-Ok.ensures.ok in
    on_ok {P = all ≡ made ++ (next_text d.start d.shown ++ known_line c.args.known)} {Q = all ≡ out ++ where_text d.start d.shown c.args.known} c.append_ahead.result
    (λ more. where_reported c.args.naming.now d.start (session_state d) c.args.known out made all place more)
    (subst (λ (e : Debugging). OnOk c.append_ahead.result (all ≡ made ++ (next_text e.start e.shown ++ known_line c.args.known))) c.append_where.ensures.same c.append_ahead.ensures.ok)

pub returns-in-Ok-clause-same : goal.returns-in-Ok-clause-same
returns-in-Ok-clause-same c = c.append_ahead.ensures.same ∙ c.append_where.ensures.same

pub returns-in-Err-clause-same : goal.returns-in-Err-clause-same
returns-in-Err-clause-same c = c.append_where.ensures.same
