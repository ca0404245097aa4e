use Rattle.scenario_image.specs.Reading.{route_at}
use Rattle.scenario_image.proofs.Loops.{IsReadSoFar}
use Rattle.scenario_image.proofs.reading.routes_of.Given as goal

abbrev pub invariant-loop : goal.invariant-loop
invariant-loop l = IsReadSoFar 6 route_at l.count l.bytes l.counter l.routes.items l.rest
