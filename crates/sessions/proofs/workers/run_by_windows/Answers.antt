use Rattle.std.proofs.Common.{◌∙◌, sym, subst, ap, rules}
use Rattle.scenario_image.specs.declared.parts.ScenarioParts.{ScenarioParts}
use Rattle.table_run.specs.State.{State, initial}
use Rattle.window_engine.specs.Engines.{EngineValue}
use Rattle.sessions.specs.Ended.{IsRunOutput}
use Rattle.sessions.specs.Written.{Writes}
use Rattle.sessions.proofs.Lines.{nothing_made}
use Rattle.sessions.proofs.Worked.{has_run, run_ended}
use Rattle.sessions.proofs.workers.run_by_windows.Goals as goal

pub returns-in_err-engine-clause-output : goal.returns-in_err-engine-clause-output
returns-in_err-engine-clause-output g c = nothing_made (initial c.args.scenario.now) c.from_residual.result (g.W.Sink.contents c.args.writer.now) (search rules)

pub returns-clause-output : goal.returns-clause-output
returns-clause-output g c =
    let old = c.in_ok-engine.engine in
    let is = c.in_ok-engine.ensures in
    let end = c.new-progress.result.end in
    let ran = c.run_by_workers-ran in
    let before = g.W.Sink.contents c.args.writer.now in
    let between = g.W.Sink.contents ran.new.writer in
    let after = g.W.Sink.contents c.write_end-ended.new.writer in
    let end_is = c.new-progress.ensures ∙ ap (λ (p : ScenarioParts). p.end) c.parts.ensures.value ∙ sym (ap (λ (e : EngineValue). e.net.state.end) is) in
    let has = has_run old end ran.result ran.new.engine before between (ap (λ (e : EngineValue). e.net.position) is) end_is ran.ensures.runs ran.ensures.stop ran.ensures.full ran.ensures.failed in
    subst (λ (s : State). Writes (IsRunOutput s c.write_end-ended.result) before after) (ap (λ (e : EngineValue). e.net.state) is)
    (run_ended old.net.state end c.position-events.result ran.result ran.new.engine c.write_end-ended.result before between after has c.position-events.ensures.is_run c.position-events.ensures.count c.write_end-ended.ensures.ends)

pub returns-clause-failures : goal.returns-clause-failures
returns-clause-failures g c = c.write_end-ended.ensures.failures (g.W.Sink.failures c.args.writer.now) c.run_by_workers-ran.ensures.failures
