use Rattle.std.proofs.Common.{arith, subst, OnOk, ◌+◌}
use Rattle.window_core.specs.Sheaves.{merged}
use Rattle.window_text.specs.Parts.{IsWhole, text_of}
use Rattle.window_engine.proofs.Writing.{broke_batch, wrote_no_more}
use Rattle.window_engine.proofs.run_state.RunState.put_made.Goals as goal

pub returns-in_default-clause-broke : goal.returns-in_default-clause-broke
returns-in_default-clause-broke g c until from to early gone at = (wrote_no_more until from c.args.self.now.position (g.S.Sink.contents c.args.sink.now) at, tt)

pub returns-in-Err-clause-broke : goal.returns-in-Err-clause-broke
returns-in-Err-clause-broke g c until from to early gone at =
    let contents = g.S.Sink.contents in
    let now = c.args.self.now in
    let reached = gone.position in
    let whole = subst (λ r. OnOk r (IsWhole now.sheaf c.args.text.now)) c.in-Ok.is c.requires.text in
    broke_batch until from to (now.position + c.len.result) c.in-Err.written (merged now.sheaf) (text_of c.args.text.now.formatters.items c.args.text.now.places.items) (contents c.args.sink.now) (contents c.put.new.sink) early gone (omega (arith, at, reached, c.len.ensures))
    whole.is c.in-Err.ensures.err c.in-Err.ensures.few_before
