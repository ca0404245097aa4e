use Rattle.std.proofs.Common.{◌≡◌, ◌++◌, ◌∙◌, ap, append_assoc}
use Rattle.debugger.proofs.Between.{on_ok}
use Rattle.debug_session.specs.TypedMoves.{next_text, known_line}
use Rattle.debug_session.proofs.typed_move.append_ahead.Goals as goal

pub returns-in-Ok-clause-ok : goal.returns-in-Ok-clause-ok
returns-in-Ok-clause-ok c =
    let d = c.args.debugger.now in
    let out = c.args.out.now.items in
    let made = c.append_next.new.out.items in
    let all = c.append_known.new.out.items in
    let next = next_text d.start d.shown in
    let known = known_line c.args.known in
    on_ok {P = all ≡ made ++ known} {Q = all ≡ out ++ (next ++ known)} c.append_known.result
    (λ reported. reported ∙ ap (λ l. l ++ known) c.in-Ok.ensures.ok ∙ append_assoc out next known)
    c.append_known.ensures

pub returns-in-Ok-clause-same : goal.returns-in-Ok-clause-same
returns-in-Ok-clause-same c = c.append_next.ensures.same

pub returns-in-Err-clause-same : goal.returns-in-Err-clause-same
returns-in-Err-clause-same c = c.append_next.ensures.same
