-- the lines so far are answered, each before the next was asked for, and nothing has failed
use Rattle.std.proofs.Common.{◌≡◌, ◌<◌, length}
use Rattle.debug_session.specs.Prompt.{at_prompt}
use Rattle.sessions.specs.Streams.{streams_of}
use Rattle.sessions.proofs.Prompting.{SoFar}
use Rattle.sessions.proofs.prompt.answer_lines.Given as goal

abbrev pub invariant-loop : goal.invariant-loop
invariant-loop g l =
    let seen = streams_of g.R.Source.failures g.R.Source.typed g.W.Sink.failures g.W.Sink.contents in
    record {
      can_next : (goal.iterator-loop g).can_next l.iterator';
      is_finite : (goal.iterator-loop g).is_finite l.iterator';
      so_far : SoFar l.fn.prompt.naming l.fn.prompt.dialogue.debugger.start (at_prompt l.fn.prompt.dialogue) (at_prompt l.prompt.dialogue) (seen l.fn.reader l.fn.writer) (seen l.reader l.writer);
      start : l.prompt.dialogue.debugger.start ≡ l.fn.prompt.dialogue.debugger.start;
      naming : l.prompt.naming ≡ l.fn.prompt.naming;
      room : 65536 < length l.room;
      reads : g.R.Source.failures l.reader ≡ g.R.Source.failures l.fn.reader;
      writes : g.W.Sink.failures l.writer ≡ g.W.Sink.failures l.fn.writer;
    }
