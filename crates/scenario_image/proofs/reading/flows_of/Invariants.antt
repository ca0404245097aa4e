use Rattle.scenario_image.proofs.Loops.{AreFlowsSoFar}
use Rattle.scenario_image.proofs.reading.flows_of.Given as goal

abbrev pub invariant-loop : goal.invariant-loop
invariant-loop l = AreFlowsSoFar l.version l.count l.bytes l.counter l.flows.items l.rest
