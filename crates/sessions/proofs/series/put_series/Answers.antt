use Rattle.std.proofs.Common.{◌≡◌, Err, sym, subst, rules}
use Rattle.std.specs.Io.KnownBytes.{Appends}
use Rattle.figures_text.specs.SeriesText.{series_heading}
use Rattle.sessions.specs.Ended.{SessionEnded}
use Rattle.sessions.specs.FiguresOutput.{IsSeriesOutput}
use Rattle.sessions.specs.Output.{IsAllOrNothing}
use Rattle.sessions.specs.Written.{Writes}
use Rattle.sessions.proofs.Stepped.{behind_heading, heading_cut}
use Rattle.sessions.proofs.series.put_series.Goals as goal

pub returns-in_err-put_heading-clause-output : goal.returns-in_err-put_heading-clause-output
returns-in_err-put_heading-clause-output g c =
    let p = c.args.scenario.now in
    let fault = c.in_err-put_heading.field-0.0 in
    let old = g.W.Sink.contents c.args.writer.now in
    let new = g.W.Sink.contents c.put_heading.new.writer in
    let made = subst (λ (e : SessionEnded). Writes (IsAllOrNothing (series_heading c.args.column.now) e) old new) c.in_err-put_heading.was c.put_heading.ensures.output in
    let is : c.from_residual-in_err-put_heading.result ≡ Err fault = search rules in
    subst (λ (e : SessionEnded). Writes (IsSeriesOutput c.args.column.now p c.args.row_steps.from c.args.row_steps.every e) old new) (sym is) (heading_cut c.args.column.now p c.args.row_steps.from c.args.row_steps.every fault old new made)

pub returns-clause-output : goal.returns-clause-output
returns-clause-output g c =
    let old = g.W.Sink.contents c.args.writer.now in
    let mid = g.W.Sink.contents c.put_heading.new.writer in
    let new = g.W.Sink.contents c.put_from-ended.new.writer in
    let made = subst (λ (e : SessionEnded). Writes (IsAllOrNothing (series_heading c.args.column.now) e) old mid) c.in_ok-put_heading.was c.put_heading.ensures.output in
    behind_heading c.args.column.now c.args.scenario.now c.args.row_steps.from c.args.row_steps.every c.put_from-ended.result old mid new (subst (Appends old mid) made.2 made.1) c.put_from-ended.ensures.output
