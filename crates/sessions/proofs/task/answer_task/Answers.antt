use Rattle.std.proofs.Common.{sym, subst}
use Rattle.command_line.specs.declared.subcommand.Task.{Task}
use Rattle.sessions.specs.Done.{IsTaskWith}
use Rattle.sessions.specs.Streams.{streams_of}
use Rattle.sessions.proofs.task.answer_task.Goals as goal

pub returns-in-Scenario : goal.returns-in-Scenario
returns-in-Scenario g c =
    let seen = streams_of g.R.Source.failures g.R.Source.typed g.W.Sink.failures g.W.Sink.contents c.args.reader.now in
    let before = seen c.args.writer.now in
    subst (λ (task : Task). IsTaskWith task c.args.tools.now.means.now.file c.args.input.now before c.put_shared_session.result (seen c.put_shared_session.new.writer)) (sym c.in-Scenario.is) (c.put_shared_session.ensures before)

pub returns-in-Debug : goal.returns-in-Debug
returns-in-Debug g c =
    let seen = streams_of g.R.Source.failures g.R.Source.typed g.W.Sink.failures g.W.Sink.contents in
    let before = seen c.args.reader.now c.args.writer.now in
    let after = seen c.answer_debug.new.reader c.answer_debug.new.writer in
    subst (λ (task : Task). IsTaskWith task c.args.tools.now.means.now.file c.args.input.now before c.answer_debug.result after) (sym c.in-Debug.is) c.answer_debug.ensures
