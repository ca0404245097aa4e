use Rattle.std.proofs.Common.{List, ℕ, Option, refl, sym, subst}
use Rattle.command_line.specs.declared.subcommand.Asked.{Asked}
use Rattle.sessions.specs.Asked.{IsAskedOn}
use Rattle.sessions.specs.Named.{IsTaskOver}
use Rattle.sessions.specs.Streams.{streams_of}
use Rattle.sessions.proofs.Overs.{named}
use Rattle.sessions.proofs.session.answer_asked.Goals as goal

pub returns-in-Session : goal.returns-in-Session
returns-in-Session g c =
    let seen = streams_of g.R.Source.failures g.R.Source.typed g.W.Sink.failures g.W.Sink.contents in
    let before = seen c.args.reader.now c.args.writer.now in
    let after = seen c.answer_named.new.reader c.answer_named.new.writer in
    let known = g.R.Source.remaining c.args.reader.now in
    let bytes_of = g.R.Source.bytes_of c.args.reader.now in
    let ended = c.answer_named.result in
    let over = subst (λ (f : Option (List ℕ)). IsTaskOver c.in-Session.task f known bytes_of ended before after) c.named_file.ensures c.answer_named.ensures in
    subst (λ (asked : Asked). IsAskedOn asked known bytes_of ended before after) (sym c.in-Session.is) (named c.in-Session.task c.in-Session.word known bytes_of ended before after over)

pub returns-in-Explanation : goal.returns-in-Explanation
returns-in-Explanation g c =
    let seen = streams_of g.R.Source.failures g.R.Source.typed g.W.Sink.failures g.W.Sink.contents c.args.reader.now in
    let known = g.R.Source.remaining c.args.reader.now in
    let bytes_of = g.R.Source.bytes_of c.args.reader.now in
    subst (λ (asked : Asked). IsAskedOn asked known bytes_of c.explain.result (seen c.args.writer.now) (seen c.explain.new.writer)) (sym c.in-Explanation.is)
    (record { output = c.explain.ensures.output; writes = c.explain.ensures.failures; unread = refl })
