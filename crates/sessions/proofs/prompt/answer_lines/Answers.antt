use Rattle.std.proofs.Common.{◌≡◌, ◌∙◌, arith, Option, Ok, Err, refl, sym, subst, ap, rules}
use Rattle.std.proofs.lemmas.Bool.{false≢true}
use Rattle.std.specs.Option.{IsSome}
use Rattle.table_run.specs.State.{State}
use Rattle.prompt_words.specs.declared.naming.Naming.{Naming}
use Rattle.debug_session.specs.Prompt.{at_prompt}
use Rattle.sessions.specs.declared.prompt.Turn.{Turn}
use Rattle.sessions.specs.Ended.{SessionEnded, reads_after, writes_after}
use Rattle.sessions.specs.Prompt.{IsTypedSession}
use Rattle.sessions.specs.Streams.{streams_of}
use Rattle.sessions.specs.Turns.{IsAll, IsAnswered, IsTurn}
use Rattle.sessions.proofs.Prompting.{none_yet, one_more, has_quit, has_no_line, is_failed, same_reads, same_writes}
use Rattle.sessions.proofs.prompt.answer_lines.Goals as goal

pub loop-init : goal.loop-init
loop-init g c =
    let seen = streams_of g.R.Source.failures g.R.Source.typed g.W.Sink.failures g.W.Sink.contents in
    record {
      can_next = tt;
      is_finite = tt;
      so_far = none_yet c.args.prompt.now.naming c.args.prompt.now.dialogue.debugger.start (at_prompt c.args.prompt.now.dialogue) (seen c.args.reader.now c.args.writer.now);
      start = refl;
      naming = refl;
      room = c.requires.room;
      reads = refl;
      writes = refl;
    }

pub take_turn-requires-clause-ready : goal.take_turn-requires-clause-ready
take_turn-requires-clause-ready g c = c.requires.ready

pub take_turn-requires-clause-room : goal.take_turn-requires-clause-room
take_turn-requires-clause-room g c = c.loop.invariant.room

pub returns-in_err-take_turn-clause-session : goal.returns-in_err-take_turn-clause-session
returns-in_err-take_turn-clause-session g c =
    let seen = streams_of g.R.Source.failures g.R.Source.typed g.W.Sink.failures g.W.Sink.contents in
    let first = seen c.args.reader.now c.args.writer.now in
    let before = seen c.loop.reader c.loop.writer in
    let after = seen c.take_turn.new.reader c.take_turn.new.writer in
    let fault = c.in_err-take_turn.field-0.0 in
    let naming = c.args.prompt.now.naming in
    let old = at_prompt c.args.prompt.now.dialogue in
    let was = at_prompt c.loop.prompt.dialogue in
    let now = at_prompt c.take_turn.new.prompt.dialogue in
    let is : c.from_residual.result ≡ Err fault = search rules in
    let here = subst (λ (n : Naming). IsTurn n c.loop.prompt.dialogue.debugger.start was now (Err fault) before after) c.loop.invariant.naming c.in_err-take_turn.ensures.turn in
    let turn = subst (λ (s : State). IsTurn naming s was now (Err fault) before after) c.loop.invariant.start here in
    subst (λ (e : SessionEnded). IsTypedSession naming c.args.prompt.now.dialogue.debugger.start old e first after) (sym is)
    (is_failed naming c.args.prompt.now.dialogue.debugger.start old was first before c.loop.invariant.so_far fault now after turn)

pub returns-in_err-take_turn-clause-reads : goal.returns-in_err-take_turn-clause-reads
returns-in_err-take_turn-clause-reads g c =
    let fault = c.in_err-take_turn.field-0.0 in
    let is : c.from_residual.result ≡ Err fault = search rules in
    let n = g.R.Source.failures c.args.reader.now in
    c.in_err-take_turn.ensures.reads ∙ ap (reads_after {T = Turn} (Err fault)) c.loop.invariant.reads ∙ same_reads fault n ∙ ap (λ (e : SessionEnded). reads_after e n) (sym is)

pub returns-in_err-take_turn-clause-writes : goal.returns-in_err-take_turn-clause-writes
returns-in_err-take_turn-clause-writes g c =
    let fault = c.in_err-take_turn.field-0.0 in
    let is : c.from_residual.result ≡ Err fault = search rules in
    let n = g.W.Sink.failures c.args.writer.now in
    c.in_err-take_turn.ensures.writes ∙ ap (writes_after {T = Turn} (Err fault)) c.loop.invariant.writes ∙ same_writes fault n ∙ ap (λ (e : SessionEnded). writes_after e n) (sym is)

pub loop-preserved : goal.loop-preserved
loop-preserved g c =
    let seen = streams_of g.R.Source.failures g.R.Source.typed g.W.Sink.failures g.W.Sink.contents in
    let before = seen c.loop.reader c.loop.writer in
    let after = seen c.take_turn.new.reader c.take_turn.new.writer in
    let was = at_prompt c.loop.prompt.dialogue in
    let now = at_prompt c.take_turn.new.prompt.dialogue in
    let here = subst (λ (t : Turn). IsTurn c.loop.prompt.naming c.loop.prompt.dialogue.debugger.start was now (Ok t) before after) c.in-Answered.is c.in_ok-take_turn.ensures.turn in
    let named = subst (λ (n : Naming). IsAnswered (IsAll before after) n c.loop.prompt.dialogue.debugger.start was now before after) c.loop.invariant.naming here in
    let turn = subst (λ (s : State). IsAnswered (IsAll before after) c.args.prompt.now.naming s was now before after) c.loop.invariant.start named in
    record {
      can_next = tt;
      is_finite = tt;
      so_far = one_more c.args.prompt.now.naming c.args.prompt.now.dialogue.debugger.start (at_prompt c.args.prompt.now.dialogue) was (seen c.args.reader.now c.args.writer.now) before c.loop.invariant.so_far now after turn;
      start = c.take_turn.ensures.start ∙ c.loop.invariant.start;
      naming = c.take_turn.ensures.naming ∙ c.loop.invariant.naming;
      room = omega (arith, c.loop.invariant.room, c.take_turn.ensures.room);
      reads = c.in_ok-take_turn.ensures.reads ∙ c.loop.invariant.reads;
      writes = c.in_ok-take_turn.ensures.writes ∙ c.loop.invariant.writes;
    }

pub returns-in-Quit : goal.returns-in-Quit
returns-in-Quit g c =
    let seen = streams_of g.R.Source.failures g.R.Source.typed g.W.Sink.failures g.W.Sink.contents in
    let before = seen c.loop.reader c.loop.writer in
    let after = seen c.take_turn.new.reader c.take_turn.new.writer in
    let was = at_prompt c.loop.prompt.dialogue in
    let now = at_prompt c.take_turn.new.prompt.dialogue in
    let turn = subst (λ (t : Turn). IsTurn c.loop.prompt.naming c.loop.prompt.dialogue.debugger.start was now (Ok t) before after) c.in-Quit.is c.in_ok-take_turn.ensures.turn in
    record {
      session = has_quit c.args.prompt.now.naming c.args.prompt.now.dialogue.debugger.start (at_prompt c.args.prompt.now.dialogue) was (seen c.args.reader.now c.args.writer.now) before c.loop.invariant.so_far now after turn;
      reads = c.in_ok-take_turn.ensures.reads ∙ c.loop.invariant.reads;
      writes = c.in_ok-take_turn.ensures.writes ∙ c.loop.invariant.writes;
    }

pub returns-in-NoLine : goal.returns-in-NoLine
returns-in-NoLine g c =
    let seen = streams_of g.R.Source.failures g.R.Source.typed g.W.Sink.failures g.W.Sink.contents in
    let before = seen c.loop.reader c.loop.writer in
    let after = seen c.take_turn.new.reader c.take_turn.new.writer in
    let was = at_prompt c.loop.prompt.dialogue in
    let now = at_prompt c.take_turn.new.prompt.dialogue in
    let turn = subst (λ (t : Turn). IsTurn c.loop.prompt.naming c.loop.prompt.dialogue.debugger.start was now (Ok t) before after) c.in-NoLine.is c.in_ok-take_turn.ensures.turn in
    record {
      session = has_no_line c.args.prompt.now.naming c.args.prompt.now.dialogue.debugger.start (at_prompt c.args.prompt.now.dialogue) was (seen c.args.reader.now c.args.writer.now) before c.loop.invariant.so_far now after turn.0 turn.1;
      reads = c.in_ok-take_turn.ensures.reads ∙ c.loop.invariant.reads;
      writes = c.in_ok-take_turn.ensures.writes ∙ c.loop.invariant.writes;
    }

pub unreachable-requires : goal.unreachable-requires
unreachable-requires g c = false≢true (subst (λ (o : Option (Unit {0})). IsSome o) c.in-None.is c.next.ensures.steps)

pub unreachable-unreachable : goal.unreachable-unreachable
unreachable-unreachable g c = c.unreachable.result
