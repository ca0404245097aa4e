use Rattle.std.proofs.Common.{◌≡◌, ◌≤◌, ◌∙◌, ◌+◌, arith, ap, refl}
use Rattle.window_engine.specs.declared.run_state.RunState.{RunState}
use Rattle.window_engine.specs.RunStates.{fails_after}
use Rattle.window_engine.proofs.OneByOne.{broken_on, on_at, on_end, on_first, on_more}
use Rattle.window_engine.proofs.run_state.RunState.run_singly.Goals as goal

pub loop-more-init : goal.loop-more-init
loop-more-init g c = (on_first c.args.call.now.until c.args.self.now c.args.single.now.net c.args.written.now (g.S.Sink.contents c.args.sink.now) c.requires.rests.rests.rest c.requires.net, refl)

pub write_some-put-requires-clause-until : goal.write_some-put-requires-clause-until
write_some-put-requires-clause-until g c =
    let a = c.args in
    let contents = g.S.Sink.contents in
    let end = on_end a.call.now.until a.self.now c.loop-more.self c.loop-more.single.net a.written.now c.loop-more.written (contents a.sink.now) (contents c.loop-more.sink) c.loop-more.invariant.0 c.requires.rests.rests.rest in
    omega (arith, end, c.min-bound.ensures)

pub write_some-put-requires-clause-committed : goal.write_some-put-requires-clause-committed
write_some-put-requires-clause-committed g c =
    let a = c.args in
    let contents = g.S.Sink.contents in
    on_at a.call.now.until a.self.now c.loop-more.self c.loop-more.single.net a.written.now c.loop-more.written (contents a.sink.now) (contents c.loop-more.sink) c.loop-more.invariant.0

pub returns-in-Err-clause-ended : goal.returns-in-Err-clause-ended
returns-in-Err-clause-ended g c =
    let a = c.args in
    let was = c.loop-more in
    let contents = g.S.Sink.contents in
    let failures = g.S.Sink.failures in
    let put = c.write_some-put in
    let upto : c.min-bound.result ≤ a.call.now.until = omega (arith, c.min-bound.ensures) in
    rw c.reported.ensures
    (broken_on a.call.now.until a.call.now.began.value a.self.now was.self was.single.net a.written.now was.written (contents a.call.now.known.value) (contents a.sink.now) (contents was.sink) c.requires.rests.rests was.invariant.0 a.call.now.workers.workers c.min-bound.result put.new.self (contents put.new.sink) c.in-Err.fault (failures a.call.now.known.value) (failures was.sink) (failures put.new.sink)
    a.call.now.workers.some upto c.in-Err.ensures.broke c.in-Err.ensures.full (was.invariant.1 ∙ c.requires.rests.failures_are) (put.ensures.failures ∙ ap (λ r. fails_after r (failures was.sink)) c.in-Err.is) (ap (λ (x : RunState). x.groups) put.ensures.rest) (ap (λ (x : RunState). x.ahead) put.ensures.rest))

pub loop-more-preserved : goal.loop-more-preserved
loop-more-preserved g c =
    let a = c.args in
    let was = c.loop-more in
    let contents = g.S.Sink.contents in
    let failures = g.S.Sink.failures in
    let put = c.write_some-put in
    let upto : c.min-bound.result ≤ a.call.now.until = omega (arith, c.min-bound.ensures) in
    let now = record put.new.self { granularity = c.count_singly.new.self } in
    let at = c.in-Ok.ensures.committed in
    let rest : now ≡ record was.self { position = put.new.single.net.position; granularity = c.count_singly.new.self } = ap (λ (x : RunState). record x { granularity = c.count_singly.new.self }) put.ensures.rest ∙ ap (λ n. record was.self { position = n; granularity = c.count_singly.new.self }) at in (
      on_more a.call.now.until a.self.now was.self was.single.net a.written.now was.written (contents a.sink.now) (contents was.sink) was.invariant.0 c.min-bound.result now put.new.single.net c.in-Ok.count (was.written + c.in-Ok.count) (contents put.new.sink) upto c.in-Ok.ensures.wrote rest refl c.position-reached.ensures.is_run.position_fits,
      put.ensures.failures ∙ ap (λ r. fails_after r (failures was.sink)) c.in-Ok.is ∙ was.invariant.1,
    )
