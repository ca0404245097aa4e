use Rattle.std.proofs.Common.{sym, subst}
use Rattle.command_line.specs.declared.subcommand.Subcommand.{Subcommand}
use Rattle.sessions.specs.Output.{IsOutput}
use Rattle.sessions.specs.Written.{Writes}
use Rattle.sessions.proofs.task.put_output.Goals as goal

pub returns-in-Asm-clause-output : goal.returns-in-Asm-clause-output
returns-in-Asm-clause-output g c =
    subst (λ (s : Subcommand). Writes (IsOutput s c.args.input.now c.args.scenario.now c.put_image.result) (g.W.Sink.contents c.args.writer.now) (g.W.Sink.contents c.put_image.new.writer)) (sym c.in-Asm.is) c.put_image.ensures.output

pub returns-in-Dis-clause-output : goal.returns-in-Dis-clause-output
returns-in-Dis-clause-output g c =
    subst (λ (s : Subcommand). Writes (IsOutput s c.args.input.now c.args.scenario.now c.put_text.result) (g.W.Sink.contents c.args.writer.now) (g.W.Sink.contents c.put_text.new.writer)) (sym c.in-Dis.is) c.put_text.ensures.output

pub returns-in-Run-clause-output : goal.returns-in-Run-clause-output
returns-in-Run-clause-output g c =
    subst (λ (s : Subcommand). Writes (IsOutput s c.args.input.now c.args.scenario.now c.put_trace.result) (g.W.Sink.contents c.args.writer.now) (g.W.Sink.contents c.put_trace.new.writer)) (sym c.in-Run.is) c.put_trace.ensures.output

pub returns-in-Figures-clause-output : goal.returns-in-Figures-clause-output
returns-in-Figures-clause-output g c =
    subst (λ (s : Subcommand). Writes (IsOutput s c.args.input.now c.args.scenario.now c.put_figures.result) (g.W.Sink.contents c.args.writer.now) (g.W.Sink.contents c.put_figures.new.writer)) (sym c.in-Figures.is) c.put_figures.ensures.output
