use Rattle.std.proofs.Common.{arith}
use Rattle.node_core.specs.TraceLine.{shown}
use Rattle.trace_text.proofs.Lines.{line_appended, take_shorter}
use Rattle.std.proofs.lemmas.Grind.{common_steps}
use Rattle.trace_text.proofs.line.append_long.Goals as goal

pub returns-in_err-append_acts-clause-err : goal.returns-in_err-append_acts-clause-err
returns-in_err-append_acts-clause-err c =
    grind (arith, common_steps, take_shorter, c.in_ok-append_head.ensures.ok, c.in_err-append_acts.ensures.err)

pub returns-clause-ok : goal.returns-clause-ok
returns-clause-ok c =
    let t = shown c.args.line.now in
    line_appended c.args.n t c.args.out.now.items c.append_head.new.out.items c.append_acts.new.out.items _
    (cc c.in_ok-append_head.ensures.ok) (cc c.in_ok-append_acts.ensures.ok) c.in_ok-push.ensures.items
