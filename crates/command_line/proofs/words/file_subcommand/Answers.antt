use Rattle.std.proofs.Common.{◌++◌, ◌∷◌, []}
use Rattle.clap.specs.Simple.{Shape, new_shape}
use Rattle.command_line.specs.CommandLine.{explain_rule, file_rule}
use Rattle.command_line.proofs.Commands.{plain_below}
use Rattle.command_line.proofs.words.file_subcommand.Goals as goal

pub returns : goal.returns
returns c =
    let first : Shape = new_shape c.args.name.now in
    let with_file = c.with_arg-with_file.ensures first file_rule (plain_below c.plain_subcommand.result first c.plain_subcommand.ensures.shape c.plain_subcommand.ensures.no_globals) c.lone_word.ensures.rule c.lone_word.ensures.local in
    let shape_with_file : Shape = record first { rules = first.rules ++ file_rule ∷ [] } in
    c.with_arg.ensures shape_with_file explain_rule with_file c.flag.ensures.rule c.flag.ensures.local
