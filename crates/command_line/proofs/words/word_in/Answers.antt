use Rattle.std.proofs.Common.{◌∙◌, sym}
use Rattle.clap.proofs.WalkLemmas.{first_value-rows}
use Rattle.clap.specs.Matches.{found_of}
use Rattle.command_line.proofs.words.word_in.Goals as goal

pub returns : goal.returns
returns c = sym (c.new.ensures ∙ c.get_str.ensures ∙ first_value-rows (found_of c.args.options.now) c.args.name.now)
