use Rattle.std.proofs.Common.{◌∙◌, rules}
use Rattle.net_watch.proofs.Alone.{first_alone}
use Rattle.sessions.proofs.trace.put_lines.Goals as goal

pub returns : goal.returns
returns g c =
    let writer = c.args.writer.now in
    let run = c.run_by_two-end.ensures in
    let put = first_alone _ _ _ run.watched (λ b reported. reported.holds) in
    let page_name = c.finish.ensures.same_page ∙ put.holds.0 in
    let writer_name = c.finish.ensures.same_writer ∙ put.holds.1 in
    let ended = c.finish.ensures.ended c.args.net.now.state c.args.net.now (g.W.Sink.contents writer) (g.W.Sink.failures writer) run.end (put.holds.2 c.requires.initial c.requires.empty) in
    let made = ended.made in
    let failed = ended.failed_then in
    let failures = ended.failures_are in
    record { made = search rules; failed = search rules; failures = search rules }
