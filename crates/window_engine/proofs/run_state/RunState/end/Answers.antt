use Rattle.std.proofs.Common.{ap, subst, sym}
use Rattle.window_core.specs.Window.{WindowValue}
use Rattle.window_engine.specs.declared.run_state.RunState.{RunState}
use Rattle.window_workers.specs.Edges.{edge_of}
use Rattle.window_engine.specs.Engines.{IsStop}
use Rattle.window_engine.proofs.Called.{rested}
use Rattle.window_engine.proofs.run_state.RunState.end.Goals as goal

pub returns-in-Ok : goal.returns-in-Ok
returns-in-Ok g c =
    let a = c.args in
    let contents = g.S.Sink.contents in
    let failures = g.S.Sink.failures in
    let rest = c.come_to_rest.new in
    let window = ap (λ (x : RunState). x.window) c.come_to_rest.ensures.rest in
    rested a.call.now.workers.workers a.call.now.until a.call.now.began.value rest.self rest.writing.written (contents a.call.now.known.value) (contents rest.sink) (failures a.call.now.known.value) (failures rest.sink) a.stop c.in-Ok.ensures.rests.rests c.in-Ok.ensures.rests.failures_are
    (subst (λ (v : WindowValue). IsStop a.call.now.until (edge_of v) a.stop) (sym window) c.requires.stop)
