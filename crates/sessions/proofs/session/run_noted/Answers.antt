use Rattle.std.proofs.Common.{map, ap}
use Rattle.sessions.specs.Streams.{streams_of}
use Rattle.sessions.proofs.Refusals.{refusal, no_begin, asked_session}
use Rattle.sessions.proofs.session.run_noted.Goals as goal

pub returns-in-Ok-clause-asked : goal.returns-in-Ok-clause-asked
returns-in-Ok-clause-asked g c asked asks =
    let seen = streams_of g.R.Source.failures g.R.Source.typed g.W.Sink.failures g.W.Sink.contents in
    asked_session (map g.S.AsStr.text c.args.words.now) c.in-Ok.asked asked (g.R.Source.remaining c.args.reader.now) (g.R.Source.bytes_of c.args.reader.now) c.answer_asked.result c.from.result
    (seen c.args.reader.now c.args.writer.now) (seen c.answer_asked.new.reader c.answer_asked.new.writer) c.in-Ok.ensures.asked asks c.from.ensures c.answer_asked.ensures

pub returns-in-Err-clause-asked : goal.returns-in-Err-clause-asked
returns-in-Err-clause-asked g c asked asks =
    let seen = streams_of g.R.Source.failures g.R.Source.typed g.W.Sink.failures g.W.Sink.contents c.args.reader.now in
    no_begin (map g.S.AsStr.text c.args.words.now) asked (g.R.Source.remaining c.args.reader.now) (g.R.Source.bytes_of c.args.reader.now) c.in-Err.error c.answer_words.result c.from-in-Err.result
    (seen c.args.writer.now) (seen c.answer_words.new.writer) c.in-Err.ensures.faults asks c.from-in-Err.ensures (λ short. let is = c.answer_words.ensures.no_memory short in (is.0, ap seen is.1))

pub returns-in-Err-clause-mistake : goal.returns-in-Err-clause-mistake
returns-in-Err-clause-mistake g c mistaken =
    refusal (map g.S.AsStr.text c.args.words.now) c.in-Err.error c.answer_words.result c.from-in-Err.result c.args.writer.now c.answer_words.new.writer
    c.in-Err.ensures.faults mistaken c.from-in-Err.ensures c.answer_words.ensures.no_memory c.answer_words.ensures.mistake
