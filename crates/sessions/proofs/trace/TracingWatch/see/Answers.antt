use Rattle.std.proofs.Common.{◌∙◌, refl, ap}
use Rattle.node_core.specs.TraceLine.{shown}
use Rattle.window_engine.specs.Failures.{counted}
use Rattle.sessions.proofs.Lines.{line_written, made_line, made_moved, made_so_far, memory_not_failed}
use Rattle.sessions.proofs.trace.TracingWatch.see.Goals as goal

pub returns-in-Err-clause-has : goal.returns-in-Err-clause-has
returns-in-Err-clause-has g c began from runs was =
    let contents = g.W.Sink.contents in
    let self = c.args.self.now in (
      was.0,
      was.1,
      λ initial empty.
          let so = was.2 initial empty in
          record {
            made = λ _. made_so_far from.state c.args._before.now.value self.page.now c.put_line.new.self (contents began.writer.now) (contents self.writer.now) so.0 c.in-Err.ensures.err;
            failed_then = λ e. absurd (memory_not_failed e);
            failures_are = so.1;
          },
    )

pub returns-in-Ok-put_full_page-clause-has : goal.returns-in-Ok-put_full_page-clause-has
returns-in-Ok-put_full_page-clause-has g c began from runs was =
    let contents = g.W.Sink.contents in
    let self = c.args.self.now in (
      was.0,
      was.1,
      λ initial empty.
          let so = was.2 initial empty in
          let made = made_line from.state c.args._before.now.value c.args.after.now self.page.now c.put_line.new.self (shown c.args.line.now) c.position.result (contents began.writer.now) (contents self.writer.now)
          so.0 c.requires.stepped c.position.ensures.count c.in-Ok.ensures.ok in (
            made_moved from.state c.args.after.now c.put_line.new.self c.put_full_page.new.page (contents began.writer.now) (contents self.writer.now) (contents c.put_full_page.new.writer) made c.in-Ok-put_full_page.ensures.ok,
            c.in-Ok-put_full_page.ensures.failures ∙ so.1,
          ),
    )

pub returns-in-Err-put_full_page-clause-has : goal.returns-in-Err-put_full_page-clause-has
returns-in-Err-put_full_page-clause-has g c began from runs was =
    let contents = g.W.Sink.contents in
    let self = c.args.self.now in (
      was.0,
      was.1,
      λ initial empty.
          let so = was.2 initial empty in
          let made = made_line from.state c.args._before.now.value c.args.after.now self.page.now c.put_line.new.self (shown c.args.line.now) c.position.result (contents began.writer.now) (contents self.writer.now)
          so.0 c.requires.stepped c.position.ensures.count c.in-Ok.ensures.ok in
          record {
            made = λ other. absurd (other refl);
            failed_then = λ _. line_written from.state c.args.after.now c.put_line.new.self (contents began.writer.now) (contents self.writer.now) (contents c.put_full_page.new.writer) made c.in-Err-put_full_page.ensures.err;
            failures_are = c.in-Err-put_full_page.ensures.failures ∙ ap counted so.1;
          },
    )
