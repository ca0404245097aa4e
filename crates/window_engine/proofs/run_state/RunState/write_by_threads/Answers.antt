use Rattle.std.proofs.Common.{ap, subst, sym, ◌≡◌, ◌∙◌}
use Rattle.window_core.specs.Window.{WindowValue}
use Rattle.window_engine.specs.declared.run_state.RunState.{RunState}
use Rattle.window_engine.specs.RunStates.{IsWriting}
use Rattle.window_engine.proofs.Called.{out_of_memory}
use Rattle.window_engine.proofs.run_state.RunState.write_by_threads.Goals as goal

pub returns-in_default : goal.returns-in_default
returns-in_default g c =
    let a = c.args in
    let new = c.settle.new in
    let known = g.S.Sink.contents a.call.now.known.value in
    let contents = g.S.Sink.contents new.sink in
    let window : new.writing.window.value ≡ new.self.window = ap (λ x. x.window.value) c.settle.ensures.same ∙ c.of-now.ensures ∙ sym (ap (λ (x : RunState). x.window) c.settle.ensures.rest) in
    let w = subst (λ (v : WindowValue). IsWriting a.call.now.until a.call.now.began.value (record new.self { window = v }) new.writing.written known contents) window c.in_ok-settle.ensures.writing.writing in
    out_of_memory a.call.now.until a.call.now.began.value new.self new.writing.written known contents w a.call.now.workers.workers (g.S.Sink.failures a.call.now.known.value) (g.S.Sink.failures new.sink) c.in_ok-settle.ensures.writing.failures_are
