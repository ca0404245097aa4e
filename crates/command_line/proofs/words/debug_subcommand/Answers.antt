use Rattle.std.proofs.Common.{◌++◌, ◌∷◌, []}
use Rattle.clap.specs.Simple.{Shape}
use Rattle.command_line.specs.CommandLine.{explain_rule, file_rule, sharing_shape}
use Rattle.command_line.proofs.words.debug_subcommand.Goals as goal

pub returns : goal.returns
returns c =
    let first : Shape = sharing_shape c.args.name.now in
    let with_file = c.with_arg-with_file.ensures first file_rule c.sharing_subcommand-shared.ensures c.lone_word.ensures.rule c.lone_word.ensures.local in
    let shape_with_file : Shape = record first { rules = first.rules ++ file_rule ∷ [] } in
    c.with_arg.ensures shape_with_file explain_rule with_file c.flag.ensures.rule c.flag.ensures.local
