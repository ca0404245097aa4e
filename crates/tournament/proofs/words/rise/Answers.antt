use Rattle.tournament.proofs.Climbing.{climbed}
use Rattle.tournament.proofs.words.rise.Goals as goal

pub returns-clause-climbing : goal.returns-clause-climbing
returns-clause-climbing c =
    climbed c.args.tree.now c.args.climb.at c.args.climb.word c.beside.result c.min-word.result c.requires.climbing c.requires.inner
    c.beside.ensures.other c.beside.ensures.below c.min-word.ensures
