use Rattle.std.proofs.Common.{drop}
use Rattle.scenario_image.proofs.Loops.{AreNodesSoFar}
use Rattle.scenario_image.proofs.reading.nodes_of.Given as goal

abbrev pub invariant-loop-byte : goal.invariant-loop-byte
invariant-loop-byte l = AreNodesSoFar l.bytes l.nodes.items (drop l.byte-index l.bytes)
