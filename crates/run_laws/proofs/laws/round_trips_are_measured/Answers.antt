use Rattle.run_laws.proofs.Losses.{round_trips_are_measured}
use Rattle.run_laws.proofs.laws.round_trips_are_measured.Goals as goal

pub returns : goal.returns
returns c = round_trips_are_measured
