use Rattle.std.proofs.Common.{subst}
use Rattle.sessions.specs.declared.figures_plan.FiguresPlan.{FiguresPlan}
use Rattle.sessions.specs.Ended.{SessionEnded}
use Rattle.sessions.specs.FiguresOutput.{IsTableOutput, IsPlannedOutput}
use Rattle.sessions.specs.Written.{Writes}
use Rattle.std.proofs.Common.{sym}
use Rattle.sessions.proofs.Stepped.{behind_table}
use Rattle.sessions.proofs.figures_output.put_planned.Goals as goal

pub returns-in_ok-put_table-in-Both-clause-output : goal.returns-in_ok-put_table-in-Both-clause-output
returns-in_ok-put_table-in-Both-clause-output g c =
    let p = c.args.scenario.now in
    let old = g.W.Sink.contents c.args.writer.now in
    let mid = g.W.Sink.contents c.put_table-in-Both.new.writer in
    let new = g.W.Sink.contents c.put_series-in-Both.new.writer in
    let made = subst (λ (e : SessionEnded). Writes (IsTableOutput c.args.column.now p c.in-Both.from e) old mid) c.in_ok-put_table-in-Both.was c.put_table-in-Both.ensures.output in
    let both = behind_table c.args.column.now p c.in-Both.from c.in-Both.every c.put_series-in-Both.result old mid new made c.put_series-in-Both.ensures.output in
    subst (λ (plan : FiguresPlan). Writes (IsPlannedOutput c.args.column.now p plan c.put_series-in-Both.result) old new) (sym c.in-Both.is) both
