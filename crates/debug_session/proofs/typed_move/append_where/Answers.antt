use Rattle.std.proofs.Common.{◌≡◌, ◌++◌, refl, subst, arith}
use Rattle.debugger.proofs.Between.{on_ok}
use Rattle.debug_session.specs.Answers.{session_state}
use Rattle.debug_session.specs.Reported.{reported_hit, reported_origin, AddsPlace}
use Rattle.debug_session.specs.TypedMoves.{place_line, hit_line}
use Rattle.debug_session.proofs.TypedMoving.{begin_reported, event_reported}
use Rattle.debug_session.proofs.typed_move.append_where.Goals as goal

pub returns-then-position-eq0-clause-ok : goal.returns-then-position-eq0-clause-ok
returns-then-position-eq0-clause-ok c =
    let d = c.args.debugger.now in
    let out = c.args.out.now.items in
    let all = c.append_place.new.out.items in
    on_ok {P = all ≡ out ++ place_line 0 0 c.is_at_end-at_end.result} {Q = AddsPlace c.args.naming.now d.start c.args.bound (session_state d) out all} c.append_place.result
    (λ reported. begin_reported c.args.naming.now d.start c.args.bound (session_state d) out all c.is_at_end-at_end.result c.is_at_end-at_end.ensures (omega (arith, c.position-position.ensures.count, c.if-position-eq0.true)) reported)
    c.append_place.ensures

pub returns-then-position-eq0-clause-same : goal.returns-then-position-eq0-clause-same
returns-then-position-eq0-clause-same c = refl

pub last_event-requires : goal.last_event-requires
last_event-requires c = omega (arith, c.position-position.ensures.count, c.if-position-eq0.false)

pub returns-in-Ok-clause-ok : goal.returns-in-Ok-clause-ok
returns-in-Ok-clause-ok c =
    let d = c.args.debugger.now in
    let out = c.args.out.now.items in
    let all = c.append_event.new.out.items in
    on_ok {P = all ≡ out ++ (reported_origin c.args.naming.now c.args.bound c.position-position.result c.in-Ok.event ++ (place_line c.position-position.result c.in-Ok.event.time c.is_at_end-at_end.result ++ hit_line c.args.naming.now (reported_hit c.args.bound c.position-position.result c.in-Ok.event.hit)))}
    {Q = AddsPlace c.args.naming.now d.start c.args.bound (session_state d) out all} c.append_event.result
    (λ reported.
    event_reported c.args.naming.now d.start c.args.bound (session_state d) out all c.is_at_end-at_end.result c.is_at_end-at_end.ensures c.in-Ok.event c.in-Ok.ensures.ok
    (subst (λ p. all ≡ out ++ (reported_origin c.args.naming.now c.args.bound p c.in-Ok.event ++ (place_line p c.in-Ok.event.time c.is_at_end-at_end.result ++ hit_line c.args.naming.now (reported_hit c.args.bound p c.in-Ok.event.hit)))) c.position-position.ensures.count reported))
    c.append_event.ensures

pub returns-in-Ok-clause-same : goal.returns-in-Ok-clause-same
returns-in-Ok-clause-same c = c.last_event.ensures.same

pub returns-in-Err-clause-same : goal.returns-in-Err-clause-same
returns-in-Err-clause-same c = c.last_event.ensures.same
