use Rattle.scenario_image.proofs.Loops.{AreLinksSoFar}
use Rattle.scenario_image.proofs.reading.links_of.Given as goal

abbrev pub invariant-loop : goal.invariant-loop
invariant-loop l = AreLinksSoFar l.count l.bytes l.counter l.links.items l.rest
