use Rattle.std.proofs.Common.{ap, refl, ◌+◌, ◌∙◌}
use Rattle.window_text.specs.declared.pending_text.PendingText.{PendingText}
use Rattle.window_text.specs.PendingText.{text_pending}
use Rattle.window_engine.proofs.Called.{paid, unpaid}
use Rattle.window_engine.proofs.run_state.RunState.settle.Goals as goal

pub returns-in-Ok-clause-writing : goal.returns-in-Ok-clause-writing
returns-in-Ok-clause-writing g c =
    let a = c.args in
    let contents = g.S.Sink.contents in
    let is = c.in-Ok.ensures.ok in
    record {
      writing = rw (ap (λ (o : PendingText). o.lines) c.put-put.ensures.same)
          (paid a.call.now.until a.call.now.began.value (record a.self.now { window = a.writing.now.window.value }) (text_pending a.writing.now.texts.pending_text) a.writing.now.texts.pending_text.lines a.writing.now.written (contents a.call.now.known.value) (contents a.writing.now.texts.before.value) c.requires.pending.owing c.in-Ok.count (contents c.put-put.new.sink) is.0 is.1 is.2);
      failures_are = is.3 ∙ c.requires.pending.failures_are;
    }

pub returns-in-Err-clause-ended : goal.returns-in-Err-clause-ended
returns-in-Err-clause-ended g c =
    let a = c.args in
    let contents = g.S.Sink.contents in
    let failures = g.S.Sink.failures in
    let is = c.in-Err.ensures.err in
    let new = record a.self.now { position = a.self.now.position + c.put-put.new.self.lines } in
    let lines = ap (λ (o : PendingText). o.lines) c.put-put.ensures.same in
    unpaid a.call.now.until a.call.now.began.value (record a.self.now { window = a.writing.now.window.value }) (text_pending a.writing.now.texts.pending_text) a.writing.now.texts.pending_text.lines a.writing.now.written (contents a.call.now.known.value) (contents a.writing.now.texts.before.value) c.requires.pending.owing a.call.now.workers.workers new c.in-Err.count (contents c.put-put.new.sink) (failures a.call.now.known.value) (failures a.writing.now.texts.before.value) (failures c.put-put.new.sink)
    (ap (λ n. a.self.now.position + n) lines) is.0 is.1 c.requires.pending.failures_are is.2 refl refl
