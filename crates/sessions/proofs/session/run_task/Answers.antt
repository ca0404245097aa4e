use Rattle.std.proofs.Common.{List, ℕ, Option, subst}
use Rattle.sessions.specs.Named.{IsTaskOver}
use Rattle.sessions.specs.Streams.{streams_of}
use Rattle.sessions.proofs.session.run_task.Goals as goal

pub returns : goal.returns
returns g c =
    let seen = streams_of g.R.Source.failures g.R.Source.typed g.W.Sink.failures g.W.Sink.contents in
    let before = seen c.args.reader.now c.args.writer.now in
    let after = seen c.answer_named.new.reader c.answer_named.new.writer in
    let ended = c.answer_named.result in
    let known = g.R.Source.remaining c.args.reader.now in
    let bytes_of = g.R.Source.bytes_of c.args.reader.now in
    (ended, c.from.ensures, subst (λ (file : Option (List ℕ)). IsTaskOver c.args.task file known bytes_of ended before after) c.new.ensures c.answer_named.ensures)
