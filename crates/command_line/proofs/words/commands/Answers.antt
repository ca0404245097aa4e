use Rattle.std.proofs.Common.{codes}
use Rattle.clap.specs.Simple.{App, with_subcommand}
use Rattle.command_line.specs.CommandLine.{top_program, file_shape, run_shape, figures_shape, debug_shape, code_shape, sessions_program}
use Rattle.command_line.proofs.words.commands.Goals as goal

pub returns : goal.returns
returns c =
    let asm : App = with_subcommand top_program (file_shape (codes "asm")) in
    let dis : App = with_subcommand asm (file_shape (codes "dis")) in
    let run : App = with_subcommand dis (run_shape (codes "run")) in
    let figures : App = with_subcommand run (figures_shape (codes "figures")) in
    let with_asm = c.with_below-with_asm.ensures top_program (file_shape (codes "asm")) c.top_command.ensures c.file_subcommand.ensures in
    let with_dis = c.with_below-with_dis.ensures asm (file_shape (codes "dis")) with_asm c.file_subcommand-2.ensures in
    let with_run = c.with_below-with_run.ensures dis (run_shape (codes "run")) with_dis c.run_subcommand.ensures in
    let with_figures = c.with_below-with_figures.ensures run (figures_shape (codes "figures")) with_run c.figures_subcommand.ensures in
    let with_debug = c.with_below-with_debug.ensures figures (debug_shape (codes "debug")) with_figures c.debug_subcommand.ensures in
    c.with_below.ensures sessions_program (code_shape (codes "explain")) with_debug c.code_subcommand.ensures
