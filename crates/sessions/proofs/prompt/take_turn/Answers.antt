use Rattle.std.proofs.Common.{◌≡◌, ◌<◌, ◌∙◌, true, false, refl, sym, subst, take, length, arith, Result, Err, rules}
use Rattle.prompt_words.specs.Refusals.{answer_of, by_code}
use Rattle.prompt_words.specs.TypedGrammar.{is_quit}
use Rattle.debug_session.specs.Prompt.{at_prompt}
use Rattle.sessions.specs.declared.fault.SessionFault.{SessionFault}
use Rattle.sessions.specs.declared.fault.SessionFault.TheVariants.{WriteFailed}
use Rattle.sessions.specs.declared.prompt.Turn.{Turn}
use Rattle.sessions.specs.declared.source.SourceFail.{SourceFail}
use Rattle.sessions.specs.Streams.{streams_of}
use Rattle.sessions.specs.Turns.{IsAll, IsCutOff, IsTurn}
use Rattle.sessions.proofs.Prompting.{answered_as, cut_quits, found_line}
use Rattle.sessions.proofs.prompt.take_turn.Goals as goal

pub returns-clause-turn : goal.returns-clause-turn
returns-clause-turn g c =
    let seen = streams_of g.R.Source.failures g.R.Source.typed g.W.Sink.failures g.W.Sink.contents in
    let before = seen c.args.reader.now c.args.writer.now in
    let after = seen c.next_line.new.self c.put_answer.new.writer in
    let prompt = c.args.prompt.now in
    let room = c.next_line.new.room in
    let count = c.in-Some.count in
    let found = found_line SourceFail before.typed after.typed c.in_ok-count.field-0 count room before.written c.in-Some.is c.in_ok-count.ensures.line in
    let wide : 65536 < length room = omega (arith, c.requires.room, c.next_line.auto.room) in
    let goes_on : is_quit (take count room) ≡ false = sym c.is_quit.ensures ∙ c.if-is_quit.false in
    answered_as prompt.naming prompt.dialogue.debugger.start count room (at_prompt prompt.dialogue) (at_prompt c.answer_typed-answered.new.dialogue) (answer_of (by_code c.answer_typed-answered.result) c.answer_typed-answered.new.said) before after (IsAll before after) found wide goes_on (c.answer_typed-answered.ensures.answers goes_on)
    c.in_ok-put_answer.ensures.ok

pub returns-then-is_quit-clause-turn : goal.returns-then-is_quit-clause-turn
returns-then-is_quit-clause-turn g c =
    let room = c.next_line.new.room in
    let count = c.in-Some.count in
    let held = g.W.Sink.contents c.args.writer.now in
    let typed = found_line SourceFail (g.R.Source.typed c.args.reader.now) (g.R.Source.typed c.next_line.new.self) c.in_ok-count.field-0 count room held c.in-Some.is c.in_ok-count.ensures.line in
    let line = typed.line in
    let wide : 65536 < length room = omega (arith, c.requires.room, c.next_line.auto.room) in
    let quits : is_quit (take count room) ≡ true = sym c.is_quit.ensures ∙ c.if-is_quit.true in
    record {
      ask = record { line = line; seen = held };
      asked = record { typed = typed.typed; seen = refl };
      quits = sym (cut_quits room line count typed.cut wide) ∙ quits;
      stays = refl;
      unwritten = refl;
    }

pub returns-in_err-put_answer-clause-turn : goal.returns-in_err-put_answer-clause-turn
returns-in_err-put_answer-clause-turn g c =
    let seen = streams_of g.R.Source.failures g.R.Source.typed g.W.Sink.failures g.W.Sink.contents in
    let before = seen c.args.reader.now c.args.writer.now in
    let after = seen c.next_line.new.self c.put_answer.new.writer in
    let prompt = c.args.prompt.now in
    let room = c.next_line.new.room in
    let count = c.in-Some.count in
    let found = found_line SourceFail before.typed after.typed c.in_ok-count.field-0 count room before.written c.in-Some.is c.in_ok-count.ensures.line in
    let wide : 65536 < length room = omega (arith, c.requires.room, c.next_line.auto.room) in
    let goes_on : is_quit (take count room) ≡ false = sym c.is_quit.ensures ∙ c.if-is_quit.false in
    let is : c.from_residual-in_err-put_answer.result ≡ Err WriteFailed = search rules in
    subst (λ (r : Result Turn SessionFault). IsTurn prompt.naming prompt.dialogue.debugger.start (at_prompt prompt.dialogue) (at_prompt c.answer_typed-answered.new.dialogue) r before after) (sym is)
    (answered_as prompt.naming prompt.dialogue.debugger.start count room (at_prompt prompt.dialogue) (at_prompt c.answer_typed-answered.new.dialogue) (answer_of (by_code c.answer_typed-answered.result) c.answer_typed-answered.new.said) before after (IsCutOff before after) found wide goes_on (c.answer_typed-answered.ensures.answers goes_on)
    c.in_err-put_answer.ensures.err)
