use Rattle.std.proofs.Common.{sym, ◌∙◌}
use Rattle.figures.specs.Senders.{trips_of}
use Rattle.figures.proofs.Values.{none_least, some_least}
use Rattle.figures.proofs.sender.SenderFigures.least_trip.Goals as goal

pub returns-then-self-eq0 : goal.returns-then-self-eq0
returns-then-self-eq0 c = λ before ts is. none_least (trips_of ts) (sym is.trips.count_is ∙ c.if-self-eq0.true)

pub returns-else-self-eq0 : goal.returns-else-self-eq0
returns-else-self-eq0 c = λ before ts is. some_least (trips_of ts) c.args.self.now.least (λ none. c.if-self-eq0.false (is.trips.count_is ∙ none)) is.trips.below is.least
