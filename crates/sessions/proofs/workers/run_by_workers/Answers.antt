use Rattle.std.proofs.Common.{◌≡◌, ◌∙◌, Result, Ok, Err, refl, sym, subst, arith, rules, IfErr}
use Rattle.window_core.specs.Full.{HasTooMany}
use Rattle.window_engine.specs.declared.fault.EngineFault.{EngineFault}
use Rattle.window_engine.specs.declared.fault.EngineFault.TheVariants.{CountFull}
use Rattle.window_engine.specs.declared.fault.Stop.{Stop}
use Rattle.window_engine.specs.declared.fault.Stop.TheVariants.{End}
use Rattle.sessions.specs.Worked.{RunsTo}
use Rattle.sessions.proofs.Worked.{any_stop, full_by, full_from_start, runs_nothing, runs_on}
use Rattle.sessions.proofs.workers.run_by_workers.Goals as goal

pub loop-percent-init : goal.loop-percent-init
loop-percent-init g c = let first = c.requires.first in (runs_nothing c.args.engine.now.net (g.W.Sink.contents c.args.writer.now) first, omega (arith, first), refl)

pub returns-in_err-stop-clause-runs : goal.returns-in_err-stop-clause-runs
returns-in_err-stop-clause-runs g c =
    let s = c.args.engine.now.net.state in
    let fault = c.in_err-stop.field-0.0 in
    let before = g.W.Sink.contents c.args.writer.now in
    let after = g.W.Sink.contents c.run.new.sink in
    let is : c.from_residual.result ≡ Err fault = search rules in
    let P : Result Stop EngineFault → Type 0 = λ r. RunsTo s r c.run.new.self.net before after in
    subst P (sym is) (runs_on s End c.loop-percent.engine.net (Err fault) c.run.new.self.net before (g.W.Sink.contents c.loop-percent.writer) after c.loop-percent.invariant.0 c.in_err-stop.ensures.commits)

pub returns-in_err-stop-clause-full : goal.returns-in_err-stop-clause-full
returns-in_err-stop-clause-full g c =
    let fault = c.in_err-stop.field-0.0 in
    let is : c.from_residual.result ≡ Err fault = search rules in
    let P : Result Stop EngineFault → Type 0 = λ r. IfErr r (λ f. f ≡ CountFull → HasTooMany c.args.engine.now.net) in
    subst P (sym is) (λ full.
    full_from_start c.args.engine.now.net End c.loop-percent.engine.net (g.W.Sink.contents c.args.writer.now) (g.W.Sink.contents c.loop-percent.writer) c.requires.first c.loop-percent.invariant.0 c.loop-percent.invariant.1
    (c.in_err-stop.ensures.full full))

pub loop-percent-preserved : goal.loop-percent-preserved
loop-percent-preserved g c =
    let s = c.args.engine.now.net.state in
    let before = g.W.Sink.contents c.args.writer.now in
    let after = g.W.Sink.contents c.run.new.sink in
    let runs = runs_on s End c.loop-percent.engine.net (Ok c.in_ok-stop.stop) c.run.new.self.net before (g.W.Sink.contents c.loop-percent.writer) after c.loop-percent.invariant.0 c.in_ok-stop.ensures.commits in (
      any_stop s c.in_ok-stop.stop End c.run.new.self.net before after runs,
      (c.position-events.ensures.is_run c.in_ok-stop.ensures.failed).position_fits,
      c.in_ok-stop.ensures.failures ∙ c.loop-percent.invariant.2,
    )

pub returns-clause-runs : goal.returns-clause-runs
returns-clause-runs g c =
    let s = c.args.engine.now.net.state in
    runs_on s End c.loop-percent.engine.net c.run-2.result c.run-2.new.self.net (g.W.Sink.contents c.args.writer.now) (g.W.Sink.contents c.loop-percent.writer) (g.W.Sink.contents c.run-2.new.sink) c.loop-percent.invariant.0
    c.run-2.ensures.commits

pub returns-clause-full : goal.returns-clause-full
returns-clause-full g c =
    let earlier = full_from_start c.args.engine.now.net End c.loop-percent.engine.net (g.W.Sink.contents c.args.writer.now) (g.W.Sink.contents c.loop-percent.writer) c.requires.first c.loop-percent.invariant.0 c.loop-percent.invariant.1 in
    full_by c.args.engine.now.net c.loop-percent.engine.net c.run-2.result earlier c.run-2.ensures.full
