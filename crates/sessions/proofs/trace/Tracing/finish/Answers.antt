use Rattle.std.proofs.Common.{◌≡◌, Ok, rules}
use Rattle.net_watch.specs.declared.run_end.RunEnd.TheVariants.{Done}
use Rattle.sessions.proofs.Lines.{done, done_short, no_step}
use Rattle.sessions.proofs.trace.Tracing.finish.Goals as goal

pub returns-in-Ok-clause-ended : goal.returns-in-Ok-clause-ended
returns-in-Ok-clause-ended g c =
    let is_done : c.args.end ≡ Ok Done = search rules in λ s from known failed stops put.
    let self = c.args.self.now in
    done s from c.args.net.now self.page.now known (g.W.Sink.contents self.writer.now) failed (g.W.Sink.failures self.writer.now) self.refused c.args.end stops put
    c.put_end.new.self c.position.result is_done c.position.ensures.is_run.position_fits c.position.ensures.count c.in-Ok.ensures.ok

pub returns-in-Err-put_end-clause-ended : goal.returns-in-Err-put_end-clause-ended
returns-in-Err-put_end-clause-ended g c =
    let is_done : c.args.end ≡ Ok Done = search rules in λ s from known failed stops put.
    let self = c.args.self.now in
    done_short s from c.args.net.now self.page.now known (g.W.Sink.contents self.writer.now) failed (g.W.Sink.failures self.writer.now) self.refused c.args.end stops put
    c.put_end.new.self is_done c.in-Err-put_end.ensures.err

pub returns-in-Err-clause-ended : goal.returns-in-Err-clause-ended
returns-in-Err-clause-ended g c = λ s from known failed stops put.
    let self = c.args.self.now in
    no_step s from c.args.net.now self.page.now known (g.W.Sink.contents self.writer.now) failed (g.W.Sink.failures self.writer.now) self.refused c.args.end stops put
    c.in-Err.fault c.into.result c.in-Err.is c.into.ensures
