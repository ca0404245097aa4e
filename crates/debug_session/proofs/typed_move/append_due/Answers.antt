use Rattle.std.proofs.Common.{◌≡◌, ◌+◌, ◌++◌, OnOk, subst, sym}
use Rattle.std.specs.List.{concat}
use Rattle.debugger.specs.Moves.{HasPosition}
use Rattle.debugger.specs.Passed.{texts_between}
use Rattle.debug_session.proofs.TypedMoving.{has_next}
use Rattle.debug_session.proofs.typed_move.append_due.Goals as goal

pub append_lines-requires : goal.append_lines-requires
append_lines-requires c =
    let d = c.args.debugger.now in
    subst (λ p. HasPosition d.start (p + 1)) (sym c.position.ensures.count) (has_next d.start d.shown c.position.ensures.on_run c.requires)

pub returns-clause-ok : goal.returns-clause-ok
returns-clause-ok c =
    let d = c.args.debugger.now in
    subst (λ p. OnOk c.append_lines.result (c.append_lines.new.out.items ≡ c.args.out.now.items ++ concat (texts_between d.start p (p + 1)))) c.position.ensures.count c.append_lines.ensures.ok

pub returns-clause-same : goal.returns-clause-same
returns-clause-same c = c.append_lines.ensures.same
