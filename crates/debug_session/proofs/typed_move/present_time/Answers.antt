use Rattle.std.proofs.Common.{◌≡◌, ◌∙◌, refl, sym, subst, arith}
use Rattle.debug_session.specs.TypedMoves.{present_time}
use Rattle.debug_session.proofs.TypedMoving.{time_at}
use Rattle.debug_session.proofs.typed_move.present_time.Goals as goal

pub last_event-requires : goal.last_event-requires
last_event-requires c = omega (arith, c.position.ensures.count, c.if-position-eq0.false)

pub returns-then-position-eq0-clause-ok : goal.returns-then-position-eq0-clause-ok
returns-then-position-eq0-clause-ok c = let none : 0 ≡ c.args.debugger.now.shown.position = omega (arith, c.position.ensures.count, c.if-position-eq0.true) in subst (λ p. 0 ≡ present_time c.args.debugger.now.start p) none refl

pub returns-then-position-eq0-clause-same : goal.returns-then-position-eq0-clause-same
returns-then-position-eq0-clause-same c = refl

pub returns-in-Ok-clause-ok : goal.returns-in-Ok-clause-ok
returns-in-Ok-clause-ok c =
    let d = c.args.debugger.now in
    let last = c.in-Ok.ensures.ok in
    last.shows.time ∙ sym (time_at d.start last.line d.shown.position last.given)

pub returns-in-Ok-clause-same : goal.returns-in-Ok-clause-same
returns-in-Ok-clause-same c = c.last_event.ensures.same

pub returns-in-Err-clause-same : goal.returns-in-Err-clause-same
returns-in-Err-clause-same c = c.last_event.ensures.same
