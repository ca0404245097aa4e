use Rattle.command_line.proofs.Requests.{words_have_one_answer}
use Rattle.command_line.proofs.words.words_have_one_answer.Goals as goal

pub returns : goal.returns
returns c = words_have_one_answer
