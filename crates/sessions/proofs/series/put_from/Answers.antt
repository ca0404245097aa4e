use Rattle.std.proofs.Common.{◌≡◌, Err, sym, subst, rules}
use Rattle.sessions.specs.Ended.{SessionEnded}
use Rattle.sessions.specs.FiguresOutput.{IsRowsOutput}
use Rattle.sessions.specs.Written.{Writes}
use Rattle.sessions.proofs.Stepped.{never_begun}
use Rattle.sessions.proofs.series.put_from.Goals as goal

pub returns-in_err-begin_at-clause-output : goal.returns-in_err-begin_at-clause-output
returns-in_err-begin_at-clause-output g c =
    let p = c.args.scenario.now in
    let fault = c.in_err-begin_at.field-0.0 in
    let known = g.W.Sink.contents c.args.writer.now in
    let is : c.from_residual.result ≡ Err fault = search rules in
    subst (λ (e : SessionEnded). Writes (IsRowsOutput c.args.column.now p c.args.row_steps.from c.args.row_steps.every e) known known) (sym is)
    (never_begun c.args.column.now p c.args.row_steps.from c.args.row_steps.every c.begin_at.new.self.net fault known (c.begin_at.ensures.come p c.requires.opened) c.in_err-begin_at.ensures.faults)
