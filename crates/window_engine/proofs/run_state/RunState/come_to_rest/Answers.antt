use Rattle.std.proofs.Common.{arith, ap, ◌∙◌}
use Rattle.window_engine.specs.declared.run_state.RunState.{RunState}
use Rattle.window_engine.specs.RunStates.{fails_after}
use Rattle.window_workers.specs.Edges.{reached_in}
use Rattle.window_engine.proofs.Called.{broken, more_fits, settled, tells}
use Rattle.window_engine.proofs.Writing.{broke_later}
use Rattle.window_engine.proofs.run_state.RunState.come_to_rest.Goals as goal

pub make_all-made-requires : goal.make_all-made-requires
make_all-made-requires g c =
    let b = c.requires.writing.writing.behind in let first = b.gone.first in let at = b.gone.position in let few = b.few in omega (arith, first, at, few)

pub put_made-requires-clause-fits : goal.put_made-requires-clause-fits
put_made-requires-clause-fits g c =
    let b = c.requires.writing.writing.behind in let at = b.gone.position in let few = b.few in let same = b.committed in omega (arith, same, at, few)

pub overflow_add-writing : goal.overflow_add-writing
overflow_add-writing g c =
    let w = c.requires.writing.writing in
    let contents = g.S.Sink.contents in
    let fits = more_fits c.args.call.now.until c.args.call.now.began.value c.args.self.now c.args.writing.now.written (contents c.args.call.now.known.value) (contents c.args.sink.now) w (reached_in c.args.self.now.window) c.in-Ok.count (contents c.put_made.new.sink)
    (c.in-Ok.ensures.wrote c.args.call.now.until w.net (reached_in c.args.self.now.window) w.early w.behind.gone) w.behind.few in
    omega (arith, fits)

pub reported-requires : goal.reported-requires
reported-requires g c =
    let w = c.requires.writing.writing in
    tells c.args.call.now.until c.args.call.now.began.value c.args.self.now c.args.writing.now.written (g.S.Sink.contents c.args.call.now.known.value) (g.S.Sink.contents c.args.sink.now) w 1 c.put_made.new.self.position (g.S.Sink.contents c.put_made.new.sink) c.in-Err.fault
    (c.in-Err.ensures.broke c.args.call.now.until w.net (reached_in c.args.self.now.window) w.early w.behind.gone w.behind.committed)

pub returns-in-Err-clause-ended : goal.returns-in-Err-clause-ended
returns-in-Err-clause-ended g c =
    let w = c.requires.writing.writing in
    let contents = g.S.Sink.contents in
    let failures = g.S.Sink.failures in
    let some = c.args.call.now.workers.some in
    rw c.reported.ensures
    (broken c.args.call.now.until c.args.call.now.began.value c.args.self.now c.args.writing.now.written (contents c.args.call.now.known.value) (contents c.args.sink.now) w c.args.call.now.workers.workers c.put_made.new.self (contents c.put_made.new.sink) c.in-Err.fault (failures c.args.call.now.known.value) (failures c.args.sink.now) (failures c.put_made.new.sink)
    (broke_later 1 c.args.call.now.workers.workers c.args.call.now.until c.args.call.now.until w.net c.put_made.new.self.position (contents c.args.sink.now) (contents c.put_made.new.sink) c.in-Err.fault (omega (arith, some)) (omega arith) (c.in-Err.ensures.broke c.args.call.now.until w.net (reached_in c.args.self.now.window) w.early w.behind.gone w.behind.committed))
    (λ is. absurd (c.in-Err.ensures.not_full is)) c.requires.writing.failures_are (c.put_made.ensures.failures ∙ ap (λ r. fails_after r (failures c.args.sink.now)) c.in-Err.is) (ap (λ (x : RunState). x.groups) c.put_made.ensures.rest) (ap (λ (x : RunState). x.ahead) c.put_made.ensures.rest))

pub returns-in-Ok-clause-rests : goal.returns-in-Ok-clause-rests
returns-in-Ok-clause-rests g c =
    let w = c.requires.writing.writing in
    let contents = g.S.Sink.contents in
    let failures = g.S.Sink.failures in
    record {
      rests = settled c.args.call.now.until c.args.call.now.began.value c.args.self.now c.args.writing.now.written (contents c.args.call.now.known.value) (contents c.args.sink.now) w c.in-Ok.count c.put_made.new.self (contents c.put_made.new.sink)
          (c.in-Ok.ensures.wrote c.args.call.now.until w.net (reached_in c.args.self.now.window) w.early w.behind.gone) c.put_made.ensures.rest c.in-Ok.ensures.position;
      failures_are = c.put_made.ensures.failures ∙ ap (λ r. fails_after r (failures c.args.sink.now)) c.in-Ok.is ∙ c.requires.writing.failures_are;
    }
