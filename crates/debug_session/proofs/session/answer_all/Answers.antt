use Rattle.scenario_asm.specs.Lines.{lines_of_text}
use Rattle.debug_session.proofs.Opened.{all_put, first_put}
use Rattle.debug_session.proofs.session.answer_all.Goals as goal

pub returns-in-Ok-clause-output : goal.returns-in-Ok-clause-output
returns-in-Ok-clause-output g c =
    all_put (lines_of_text c.args.commands.now) c.args.scenario.now c.args.debugger.now c.of-limits.result (g.S.Sink.contents c.args.out.now) (g.S.Sink.contents c.run_commands.new.out)
    c.requires.opened c.of-limits.ensures c.in-Ok.ensures.ok

pub returns-in-Ok-clause-failures : goal.returns-in-Ok-clause-failures
returns-in-Ok-clause-failures g c = c.in-Ok.ensures.failures

pub returns-in-Err-clause-output : goal.returns-in-Err-clause-output
returns-in-Err-clause-output g c =
    first_put (lines_of_text c.args.commands.now) c.args.scenario.now c.args.debugger.now c.of-limits.result (g.S.Sink.contents c.args.out.now) (g.S.Sink.contents c.run_commands.new.out)
    c.requires.opened c.of-limits.ensures c.in-Err.ensures.err

pub returns-in-Err-clause-failures : goal.returns-in-Err-clause-failures
returns-in-Err-clause-failures g c = c.in-Err.ensures.failures
