use Rattle.byteorder.specs.Endian.{big_number}
use Rattle.scenario_image.proofs.Loops.{IsReadSoFar}
use Rattle.scenario_image.proofs.reading.lose_of.Given as goal

abbrev pub invariant-loop : goal.invariant-loop
invariant-loop l = IsReadSoFar 4 (big_number 4) l.count l.bytes l.counter l.lose.items l.rest
