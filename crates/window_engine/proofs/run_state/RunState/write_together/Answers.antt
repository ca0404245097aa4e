use Rattle.std.proofs.Common.{refl}
use Rattle.window_engine.proofs.Called.{at_first, awaits_nothing, begun_owing, not_begun}
use Rattle.window_engine.proofs.run_state.RunState.write_together.Goals as goal

pub returns-in_default : goal.returns-in_default
returns-in_default g c = not_begun c.args.workers.workers c.args.until c.args.self.now (g.S.Sink.contents c.args.sink.now) (g.S.Sink.failures c.args.sink.now) c.requires.rest

pub write_on-requires : goal.write_on-requires
write_on-requires g c =
    let none = c.in-Ok in
    let now = c.args.self.now in
    let known = g.S.Sink.contents c.args.sink.now in
    let failures = g.S.Sink.failures c.args.sink.now in
    let first = at_first c.args.until now known c.requires.rest c.requires.groups in
    record {
      owing = rw (c.of-began.ensures, c.of-known.ensures, none.ensures.written)
          (awaits_nothing c.args.until now (record now { sheaf = c.new-2.result }) none.writing.texts.pending_text 0 known known failures failures (begun_owing c.args.until now now c.new-2.result 0 known known first c.new-2.ensures) none.ensures.empty none.ensures.lines none.ensures.waits refl);
    }
