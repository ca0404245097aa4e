use Rattle.std.proofs.Common.{◌++◌, ◌∷◌, []}
use Rattle.clap.specs.Simple.{Shape, new_shape}
use Rattle.command_line.specs.CommandLine.{groups_rule, workers_rule}
use Rattle.command_line.proofs.Commands.{plain_below}
use Rattle.command_line.proofs.words.sharing_subcommand.Goals as goal

pub returns : goal.returns
returns c =
    let first : Shape = new_shape c.args.name.now in
    let with_workers = c.with_arg-with_workers.ensures first workers_rule (plain_below c.plain_subcommand.result first c.plain_subcommand.ensures.shape c.plain_subcommand.ensures.no_globals) c.workers_option.ensures.rule c.workers_option.ensures.local in
    let shape_with_workers : Shape = record first { rules = first.rules ++ workers_rule ∷ [] } in
    c.with_arg.ensures shape_with_workers groups_rule with_workers c.groups_option.ensures.rule c.groups_option.ensures.local
