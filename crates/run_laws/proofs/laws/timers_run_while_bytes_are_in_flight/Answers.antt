use Rattle.run_laws.proofs.States.{timers_run}
use Rattle.run_laws.proofs.laws.timers_run_while_bytes_are_in_flight.Goals as goal

pub returns : goal.returns
returns c = timers_run
