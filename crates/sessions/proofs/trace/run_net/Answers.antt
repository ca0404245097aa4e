use Rattle.std.proofs.Common.{◌≡◌, Err, sym, subst, rules}
use Rattle.sessions.specs.declared.fault.SessionFault.TheVariants.{WriteFailed}
use Rattle.sessions.specs.Ended.{SessionEnded, IsRunOutput}
use Rattle.sessions.specs.Written.{Writes}
use Rattle.sessions.proofs.Lines.{written, page_failed}
use Rattle.sessions.proofs.trace.run_net.Goals as goal

pub returns-in_err-put_page-clause-output : goal.returns-in_err-put_page-clause-output
returns-in_err-put_page-clause-output g c =
    let contents = g.W.Sink.contents in
    let s = c.args.net.now.state in
    let other = c.writer_failed-failed.ensures.other c.if-failed.false in
    let is : c.from_residual.result ≡ Err WriteFailed = search rules in
    let P : SessionEnded → Type 0 = λ ended. Writes (IsRunOutput s ended) (contents c.args.writer.now) (contents c.put_page.new.writer) in
    subst P (sym is)
    (page_failed c.put_lines-ended.result s c.put_lines-ended.new.page (contents c.args.writer.now) (contents c.put_lines-ended.new.writer) (contents c.put_page.new.writer)
    other (c.put_lines-ended.ensures.made other) c.in_err-put_page.ensures.err)

pub returns-clause-output : goal.returns-clause-output
returns-clause-output g c =
    let contents = g.W.Sink.contents in
    written (IsRunOutput c.args.net.now.state c.put_lines-ended.result) c.put_lines-ended.new.page (contents c.args.writer.now) (contents c.put_lines-ended.new.writer) (contents c.put_page.new.writer)
    (c.put_lines-ended.ensures.made (c.writer_failed-failed.ensures.other c.if-failed.false)) c.in_ok-put_page.ensures.ok
