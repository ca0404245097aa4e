use Rattle.std.proofs.Common.{◌≡◌, List, ℕ, Option, Err, refl, sym, subst, ap₂, rules}
use Rattle.debug_session.specs.Prompt.{Typing}
use Rattle.sessions.specs.Done.{IsTaskWith}
use Rattle.sessions.specs.Ended.{SessionEnded}
use Rattle.sessions.specs.Named.{IsInputFault, IsTaskOver, known_of}
use Rattle.sessions.specs.Streams.{IsInputOf, Streams, streams_of}
use Rattle.sessions.proofs.Overs.{of_err, of_ok, over_read, over_unread, read_counts, unread_counts}
use Rattle.sessions.proofs.task.answer_named.Goals as goal

pub returns-in_err-input : goal.returns-in_err-input
returns-in_err-input g c =
    let seen = streams_of g.R.Source.failures g.R.Source.typed g.W.Sink.failures g.W.Sink.contents in
    let before = seen c.args.reader.now c.args.writer.now in
    let now = seen c.read_named-read.new.reader c.args.writer.now in
    let known = g.R.Source.remaining c.args.reader.now in
    let bytes_of = g.R.Source.bytes_of c.args.reader.now in
    let file = c.args.tools.now.means.now.file in
    let fault = c.in_err-input.field-0.0 in
    let is : c.from_residual.result ≡ Err fault = search rules in
    let counts = unread_counts file c.read_named-read.result fault before.read_failures now.read_failures c.read_named-read.ensures.failures c.in_err-input.was in
    let faults =
    of_err (λ fault. (input : List ℕ) × IsInputOf (known_of file known bytes_of) input × IsInputFault file input fault) c.read_named-read.result fault c.in_err-input.was c.read_named-read.ensures.faults in
    subst (λ (ended : SessionEnded). IsTaskOver c.args.task file known bytes_of ended before now) (sym is) (over_unread c.args.task file known bytes_of fault before now faults c.read_named-read.ensures.typed refl refl counts)

pub returns : goal.returns
returns g c =
    let seen = streams_of g.R.Source.failures g.R.Source.typed g.W.Sink.failures g.W.Sink.contents in
    let before = seen c.args.reader.now c.args.writer.now in
    let between = seen c.read_named-read.new.reader c.args.writer.now in
    let after = seen c.answer_task.new.reader c.answer_task.new.writer in
    let known = g.R.Source.remaining c.args.reader.now in
    let bytes_of = g.R.Source.bytes_of c.args.reader.now in
    let task = c.args.task in
    let file = c.args.tools.now.means.now.file in
    let input = c.in_ok-input.input.items in
    let ended = c.answer_task.result in
    let read : c.as_slice.result.now ≡ input = search rules in
    let counts = read_counts file c.read_named-read.result c.in_ok-input.input before.read_failures between.read_failures c.read_named-read.ensures.failures c.in_ok-input.was in
    let same : between ≡ before = ap₂ (λ (n : ℕ) (t : Option Typing). record { read_failures = n; typed = t; write_failures = before.write_failures; written = before.written }) counts c.read_named-read.ensures.typed in
    let given = of_ok _ c.read_named-read.result c.in_ok-input.input c.in_ok-input.was c.read_named-read.ensures.input in
    let done = subst (λ (i : List ℕ). IsTaskWith task file i between ended after) read c.answer_task.ensures in
    over_read task file known bytes_of input ended before after given (subst (λ (s : Streams). IsTaskWith task file input s ended after) same done)
