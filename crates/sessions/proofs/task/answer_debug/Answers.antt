use Rattle.std.proofs.Common.{List, ℕ, Option, sym, subst}
use Rattle.sessions.specs.Done.{IsDebugWith}
use Rattle.sessions.specs.Streams.{streams_of}
use Rattle.sessions.proofs.Overs.{where_none, where_some}
use Rattle.sessions.proofs.task.answer_debug.Goals as goal

pub returns-in-Some : goal.returns-in-Some
returns-in-Some g c =
    let seen = streams_of g.R.Source.failures g.R.Source.typed g.W.Sink.failures g.W.Sink.contents in
    let before = seen c.args.reader.now c.args.writer.now in
    let after = seen c.answer_prompt.new.reader c.answer_prompt.new.writer in
    subst (λ (f : Option (List ℕ)). IsDebugWith c.args.sharing.now.groups f c.args.input.now before c.answer_prompt.result after) (sym (where_some _ _ _ _ c.get.ensures c.in-Some.is)) c.answer_prompt.ensures

pub returns-in-None : goal.returns-in-None
returns-in-None g c =
    let seen = streams_of g.R.Source.failures g.R.Source.typed g.W.Sink.failures g.W.Sink.contents c.args.reader.now in
    let before = seen c.args.writer.now in
    subst (λ (f : Option (List ℕ)). IsDebugWith c.args.sharing.now.groups f c.args.input.now before c.answer_commands.result (seen c.answer_commands.new.writer)) (sym (where_none _ _ _ c.get.ensures c.in-None.is)) (c.answer_commands.ensures before)

pub returns-in-None-2 : goal.returns-in-None-2
returns-in-None-2 g c =
    let seen = streams_of g.R.Source.failures g.R.Source.typed g.W.Sink.failures g.W.Sink.contents c.args.reader.now in
    let before = seen c.args.writer.now in
    let answered = c.answer_commands-in-None-2 in
    subst (λ (f : Option (List ℕ)). IsDebugWith c.args.sharing.now.groups f c.args.input.now before answered.result (seen answered.new.writer)) (sym (where_none _ _ _ c.get.ensures c.in-None-2.is)) (answered.ensures before)
