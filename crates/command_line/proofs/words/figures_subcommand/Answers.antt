use Rattle.std.proofs.Common.{◌++◌, ◌∷◌, []}
use Rattle.clap.specs.Simple.{Shape, new_shape}
use Rattle.command_line.specs.CommandLine.{explain_rule, every_rule, file_rule, from_rule, names_rule, progress_rule, series_rule}
use Rattle.command_line.proofs.Commands.{plain_below}
use Rattle.command_line.proofs.words.figures_subcommand.Goals as goal

pub returns : goal.returns
returns c =
    let first : Shape = new_shape c.args.name.now in
    let with_from = c.with_arg-with_from.ensures first from_rule (plain_below c.plain_subcommand.result first c.plain_subcommand.ensures.shape c.plain_subcommand.ensures.no_globals) c.text_option.ensures.rule c.text_option.ensures.local in
    let shape_with_from : Shape = record first { rules = first.rules ++ from_rule ∷ [] } in
    let with_every = c.with_arg-with_every.ensures shape_with_from every_rule with_from c.text_option-2.ensures.rule c.text_option-2.ensures.local in
    let shape_with_every : Shape = record shape_with_from { rules = shape_with_from.rules ++ every_rule ∷ [] } in
    let with_series = c.with_arg-with_series.ensures shape_with_every series_rule with_every c.flag.ensures.rule c.flag.ensures.local in
    let shape_with_series : Shape = record shape_with_every { rules = shape_with_every.rules ++ series_rule ∷ [] } in
    let with_names = c.with_arg-with_names.ensures shape_with_series names_rule with_series c.flag-2.ensures.rule c.flag-2.ensures.local in
    let shape_with_names : Shape = record shape_with_series { rules = shape_with_series.rules ++ names_rule ∷ [] } in
    let with_file = c.with_arg-with_file.ensures shape_with_names file_rule with_names c.lone_word.ensures.rule c.lone_word.ensures.local in
    let shape_with_file : Shape = record shape_with_names { rules = shape_with_names.rules ++ file_rule ∷ [] } in
    let with_progress = c.with_arg-with_progress.ensures shape_with_file progress_rule with_file c.flag-3.ensures.rule c.flag-3.ensures.local in
    let shape_with_progress : Shape = record shape_with_file { rules = shape_with_file.rules ++ progress_rule ∷ [] } in
    c.with_arg.ensures shape_with_progress explain_rule with_progress c.flag-4.ensures.rule c.flag-4.ensures.local
