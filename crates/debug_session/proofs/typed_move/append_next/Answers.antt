use Rattle.std.proofs.Common.{◌≡◌, ◌+◌, ◌++◌, ◌∙◌, ap, sym, refl, codes, append_assoc}
use Rattle.std.specs.List.{concat}
use Rattle.debugger.specs.Passed.{texts_between}
use Rattle.debugger.proofs.Between.{on_ok}
use Rattle.debug_session.specs.TypedMoves.{next_text}
use Rattle.debug_session.proofs.TypedMoving.{next_none, next_due, is_due_where}
use Rattle.debug_session.proofs.typed_move.append_next.Goals as goal

pub append_due-requires : goal.append_due-requires
append_due-requires c = is_due_where c.args.debugger.now.shown (sym c.if-is_at_end.ensures)

pub returns-then-is_at_end-clause-ok : goal.returns-then-is_at_end-clause-ok
returns-then-is_at_end-clause-ok c =
    let d = c.args.debugger.now in
    let out = c.args.out.now.items in
    let all = c.append_text.new.out.items in
    on_ok {P = all ≡ out ++ codes "next: none\n"} {Q = all ≡ out ++ next_text d.start d.shown} c.append_text.result
    (λ reported. reported ∙ ap (λ l. out ++ l) (sym (next_none d.start d.shown (sym c.if-is_at_end.ensures))))
    c.append_text.ensures

pub returns-then-is_at_end-clause-same : goal.returns-then-is_at_end-clause-same
returns-then-is_at_end-clause-same c = refl

pub returns-in-Ok-clause-ok : goal.returns-in-Ok-clause-ok
returns-in-Ok-clause-ok c =
    let d = c.args.debugger.now in
    let out = c.args.out.now.items in
    let made = c.append_text-else-is_at_end.new.out.items in
    let all = c.append_due.new.out.items in
    let line = concat (texts_between d.start d.shown.position (d.shown.position + 1)) in
    on_ok {P = all ≡ made ++ line} {Q = all ≡ out ++ next_text d.start d.shown} c.append_due.result
    (λ reported.
    reported ∙ ap (λ l. l ++ line) c.in-Ok.ensures ∙ append_assoc out (codes "next: ") line
    ∙ ap (λ l. out ++ l) (sym (next_due d.start d.shown (sym c.if-is_at_end.ensures))))
    c.append_due.ensures.ok

pub returns-in-Ok-clause-same : goal.returns-in-Ok-clause-same
returns-in-Ok-clause-same c = c.append_due.ensures.same

pub returns-in-Err-clause-same : goal.returns-in-Err-clause-same
returns-in-Err-clause-same c = refl
