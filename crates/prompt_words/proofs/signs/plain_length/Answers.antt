use Rattle.std.proofs.Common.{sym}
use Rattle.prompt_words.proofs.Parting.{no_sign}
use Rattle.prompt_words.proofs.signs.plain_length.Goals as goal

pub returns-in-None-clause-value : goal.returns-in-None-clause-value
returns-in-None-clause-value c = no_sign c.args.word.now (sym c.in-None.ensures)
