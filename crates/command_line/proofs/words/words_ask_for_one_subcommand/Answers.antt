use Rattle.command_line.proofs.Naming.{words_ask_for_one}
use Rattle.command_line.proofs.words.words_ask_for_one_subcommand.Goals as goal

pub returns : goal.returns
returns c = words_ask_for_one
