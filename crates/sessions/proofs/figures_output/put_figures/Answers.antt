use Rattle.std.proofs.Common.{◌≡◌, Result, Ok, Err, sym, subst, rules}
use Rattle.sessions.specs.declared.figures_fault.FiguresFault.{FiguresFault}
use Rattle.sessions.specs.declared.figures_plan.FiguresPlan.{FiguresPlan}
use Rattle.sessions.specs.Ended.{SessionEnded}
use Rattle.sessions.specs.FiguresOutput.{IsFiguresOutput, IsPlanOutput}
use Rattle.sessions.specs.Written.{Writes}
use Rattle.sessions.proofs.Planned.{plan_followed, plan_refused}
use Rattle.sessions.proofs.figures_output.put_figures.Goals as goal

pub returns-in_err-check_plan-clause-output : goal.returns-in_err-check_plan-clause-output
returns-in_err-check_plan-clause-output g c =
    let p = c.args.scenario.now in
    let names = c.args.counting.now.names in
    let input = c.args.input.now in
    let known = g.W.Sink.contents c.args.writer.now in
    let fault = c.in_err-check_plan.field-0.0 in
    let is : c.from_residual-in_err-check_plan.result ≡ Err fault = search rules in
    let refused = plan_refused names input c.in_ok-column.column p c.in_ok-plan.plan fault known c.in_ok-column.ensures c.in_err-check_plan.ensures.faults in
    let planned = subst (λ (plan : Result FiguresPlan FiguresFault). Writes (IsPlanOutput names input p plan (Err fault)) known known) (sym c.in_ok-plan.ensures.plan.0) refused in
    subst (λ (e : SessionEnded). Writes (IsFiguresOutput c.args.counting.now input p e) known known) (sym is) planned

pub returns-clause-output : goal.returns-clause-output
returns-clause-output g c =
    let p = c.args.scenario.now in
    let names = c.args.counting.now.names in
    let input = c.args.input.now in
    let old = g.W.Sink.contents c.args.writer.now in
    let new = g.W.Sink.contents c.put_planned.new.writer in
    let followed = plan_followed names input c.in_ok-column.column p c.in_ok-plan.plan c.put_planned.result old new c.in_ok-column.ensures c.in_ok-check_plan.ensures.few c.put_planned.ensures.output in
    subst (λ (plan : Result FiguresPlan FiguresFault). Writes (IsPlanOutput names input p plan c.put_planned.result) old new) (sym c.in_ok-plan.ensures.plan.0) followed
