use Rattle.prompt_words.proofs.Times.{first_are_digits}
use Rattle.prompt_words.proofs.moment.split_digits.Goals as goal

pub returns-clause-digits : goal.returns-clause-digits
returns-clause-digits c = first_are_digits c.args.word.now c.cut_digits.result.0.now c.cut_digits.ensures.first
