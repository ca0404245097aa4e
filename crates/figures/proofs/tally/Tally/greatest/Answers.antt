use Rattle.std.proofs.Common.{sym, ◌∙◌}
use Rattle.figures.proofs.Values.{none_greatest, some_greatest}
use Rattle.figures.proofs.tally.Tally.greatest.Goals as goal

pub returns-then-self-eq0 : goal.returns-then-self-eq0
returns-then-self-eq0 c = λ xs is. none_greatest xs (sym is.count_is ∙ c.if-self-eq0.true)

pub returns-else-self-eq0 : goal.returns-else-self-eq0
returns-else-self-eq0 c = λ xs is. some_greatest xs c.args.self.now.greatest (λ none. c.if-self-eq0.false (is.count_is ∙ none)) is.greatest_is
