use Rattle.std.proofs.Common.{◌∙◌, Result, Err, refl, sym, subst, ap}
use Rattle.window_engine.specs.declared.fault.EngineFault.{EngineFault}
use Rattle.window_engine.specs.declared.fault.Stop.{Stop}
use Rattle.window_engine.specs.Engines.{sink_failures}
use Rattle.sessions.specs.Ended.{writes_after}
use Rattle.sessions.specs.Worked.{EndsRun}
use Rattle.sessions.proofs.Worked.{engine_writes}
use Rattle.sessions.proofs.workers.write_end.Goals as goal

pub returns-in-Ok-clause-ends : goal.returns-in-Ok-clause-ends
returns-in-Ok-clause-ends g c =
    subst (λ (r : Result Stop EngineFault). EndsRun r c.args.events c.put_end.result (g.W.Sink.contents c.args.writer.now) (g.W.Sink.contents c.put_end.new.writer)) (sym c.in-Ok.is) c.put_end.ensures.output

pub returns-in-Ok-clause-failures : goal.returns-in-Ok-clause-failures
returns-in-Ok-clause-failures g c n counts =
    c.put_end.ensures.failures ∙ ap (writes_after c.put_end.result) (counts ∙ ap (λ (r : Result Stop EngineFault). sink_failures r n) c.in-Ok.is)

pub returns-in-Err-clause-ends : goal.returns-in-Err-clause-ends
returns-in-Err-clause-ends g c =
    let known = g.W.Sink.contents c.args.writer.now in
    subst (λ (r : Result Stop EngineFault). EndsRun r c.args.events (Err c.from.result) known known) (sym c.in-Err.is) (ap Err c.from.ensures, refl)

pub returns-in-Err-clause-failures : goal.returns-in-Err-clause-failures
returns-in-Err-clause-failures g c n counts =
    engine_writes c.in-Err.fault c.from.result n (g.W.Sink.failures c.args.writer.now) c.from.ensures (counts ∙ ap (λ (r : Result Stop EngineFault). sink_failures r n) c.in-Err.is)
