use Rattle.std.proofs.Common.{◌≡◌, ◌+◌, ◌-◌, ◌++◌, ◌∙◌, OnOk, ap, subst, arith}
use Rattle.std.specs.List.{concat}
use Rattle.debugger.specs.Moves.{HasPosition}
use Rattle.debugger.specs.Passed.{texts_between}
use Rattle.debug_session.proofs.typed_move.append_last.Goals as goal

pub overflow_sub-stretch : goal.overflow_sub-stretch
overflow_sub-stretch c = omega (arith, c.saturating_sub-from.ensures)

pub append_lines-requires : goal.append_lines-requires
append_lines-requires c =
    let whole : c.args.debugger.now.shown.position ≡ c.saturating_sub-from.result + (c.position-position.result - c.saturating_sub-from.result) = omega (arith, c.saturating_sub-from.ensures, c.position-position.ensures.count) in
    subst (HasPosition c.args.debugger.now.start) whole (c.args.debugger.now.shown.state, c.position-position.ensures.on_run)

pub returns-clause-ok : goal.returns-clause-ok
returns-clause-ok c =
    let d = c.args.debugger.now in
    let whole : c.saturating_sub-from.result + (c.position-position.result - c.saturating_sub-from.result) ≡ d.shown.position = omega (arith, c.saturating_sub-from.ensures, c.position-position.ensures.count) in
    let from : c.saturating_sub-from.result ≡ d.shown.position - c.args.count = c.saturating_sub-from.ensures ∙ ap (λ p. p - c.args.count) c.position-position.ensures.count in
    subst (λ m. OnOk c.append_lines.result (c.append_lines.new.out.items ≡ c.args.out.now.items ++ concat (texts_between d.start m d.shown.position))) from
    (subst (λ p. OnOk c.append_lines.result (c.append_lines.new.out.items ≡ c.args.out.now.items ++ concat (texts_between d.start c.saturating_sub-from.result p))) whole c.append_lines.ensures.ok)

pub returns-clause-same : goal.returns-clause-same
returns-clause-same c = c.append_lines.ensures.same
