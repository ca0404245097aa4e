use Rattle.std.proofs.Common.{◌≡◌, Err, sym, subst, rules}
use Rattle.sessions.specs.Ended.{SessionEnded}
use Rattle.sessions.specs.FiguresOutput.{IsTableOutput}
use Rattle.sessions.specs.Written.{Writes}
use Rattle.sessions.proofs.Figured.{table_refused}
use Rattle.sessions.proofs.figures_table.put_table.Goals as goal

pub returns-in_err-text-clause-output : goal.returns-in_err-text-clause-output
returns-in_err-text-clause-output g c =
    let p = c.args.scenario.now in
    let fault = c.in_err-text.field-0.0 in
    let known = g.W.Sink.contents c.args.writer.now in
    let is : c.from_residual.result ≡ Err fault = search rules in
    subst (λ (e : SessionEnded). Writes (IsTableOutput c.args.column.now p c.args.moment e) known known) (sym is) (table_refused c.args.column.now p c.args.moment fault known c.in_err-text.ensures.faults)
