use Rattle.clap.specs.Simple.{Shape, new_shape}
use Rattle.command_line.specs.CommandLine.{code_rule}
use Rattle.command_line.proofs.Commands.{plain_below}
use Rattle.command_line.proofs.words.code_subcommand.Goals as goal

pub returns : goal.returns
returns c =
    let first : Shape = new_shape c.args.name.now in
    c.with_arg.ensures first code_rule (plain_below c.plain_subcommand.result first c.plain_subcommand.ensures.shape c.plain_subcommand.ensures.no_globals) c.lone_word.ensures.rule c.lone_word.ensures.local
