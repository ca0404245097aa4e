use Rattle.std.proofs.Common.{◌≡◌, ◌++◌, ◌∙◌, ap, refl, append_assoc}
use Rattle.debugger.proofs.Between.{on_ok}
use Rattle.debug_session.specs.TypedMoves.{idle_line, passed, last_ten, passed_lines}
use Rattle.debug_session.proofs.typed_move.append_lines.Goals as goal

pub append_passed-requires : goal.append_passed-requires
append_passed-requires c = c.requires

pub returns-in-Ok-clause-ok : goal.returns-in-Ok-clause-ok
returns-in-Ok-clause-ok c =
    let d = c.args.debugger.now in
    let out = c.args.out.now.items in
    let made = c.append_idle.new.out.items in
    let all = c.append_passed.new.out.items in
    let texts = last_ten (passed d.start c.args.from c.args.report.bound d.shown.position) in
    let idle = idle_line c.args.report.until c.args.from d.shown.position in
    let front : made ≡ out ++ idle = c.in-Ok.ensures ∙ ap (λ p. out ++ idle_line c.args.report.until c.args.from p) c.position-to.ensures.count in
    on_ok {P = all ≡ made ++ texts} {Q = all ≡ out ++ passed_lines d.start c.args.from c.args.report d.shown.position} c.append_passed.result
    (λ more. more ∙ ap (λ l. l ++ texts) front ∙ append_assoc out idle texts)
    c.append_passed.ensures.ok

pub returns-in-Ok-clause-same : goal.returns-in-Ok-clause-same
returns-in-Ok-clause-same c = c.append_passed.ensures.same

pub returns-in-Err-clause-same : goal.returns-in-Err-clause-same
returns-in-Err-clause-same c = refl
