use Rattle.std.proofs.Common.{◌≡◌, Err, refl, sym, subst, rules}
use Rattle.sessions.specs.declared.fault.SessionFault.TheVariants.{NoMemory}
use Rattle.sessions.specs.Done.{IsPromptDone}
use Rattle.sessions.specs.Ended.{SessionEnded}
use Rattle.sessions.specs.Streams.{streams_of}
use Rattle.sessions.proofs.PromptEnds.{typed_end, unbegun}
use Rattle.sessions.proofs.prompt.answer_prompt.Goals as goal

pub returns-in_err-room : goal.returns-in_err-room
returns-in_err-room g c =
    let now = streams_of g.R.Source.failures g.R.Source.typed g.W.Sink.failures g.W.Sink.contents c.args.reader.now c.args.writer.now in
    let is : c.from_residual.result ≡ Err NoMemory = search rules in
    subst (λ (e : SessionEnded). IsPromptDone c.args.sharing.now.groups c.args.input.now now e now) (sym is) (record { over = unbegun now; reads = refl; writes = refl })

pub returns-in_err-prompt : goal.returns-in_err-prompt
returns-in_err-prompt g c =
    let now = streams_of g.R.Source.failures g.R.Source.typed g.W.Sink.failures g.W.Sink.contents c.args.reader.now c.args.writer.now in
    let fault = c.in_err-prompt.field-0.0 in
    let refused = c.in_err-prompt.ensures.refused in
    let is : c.from_residual-in_err-prompt.result ≡ Err fault = search rules in
    subst (λ (e : SessionEnded). IsPromptDone c.args.sharing.now.groups c.args.input.now now e now) (sym is)
    (record { over = refused.over now; reads = refused.reads now.read_failures; writes = refused.writes now.write_failures })

pub returns-then-workers-gt1 : goal.returns-then-workers-gt1
returns-then-workers-gt1 g c =
    let seen = streams_of g.R.Source.failures g.R.Source.typed g.W.Sink.failures g.W.Sink.contents in
    let ended = c.answer_lines in
    typed_end c.args.sharing.now.groups c.args.input.now c.in_ok-prompt.prompt ended.result (seen c.args.reader.now c.args.writer.now) (seen ended.new.reader ended.new.writer) c.requires c.in_ok-prompt.ensures.opened ended.ensures.session ended.ensures.reads
    ended.ensures.writes

pub returns : goal.returns
returns g c =
    let seen = streams_of g.R.Source.failures g.R.Source.typed g.W.Sink.failures g.W.Sink.contents in
    let ended = c.answer_lines-2 in
    typed_end c.args.sharing.now.groups c.args.input.now c.in_ok-prompt.prompt ended.result (seen c.args.reader.now c.args.writer.now) (seen ended.new.reader ended.new.writer) c.requires c.in_ok-prompt.ensures.opened ended.ensures.session ended.ensures.reads
    ended.ensures.writes
