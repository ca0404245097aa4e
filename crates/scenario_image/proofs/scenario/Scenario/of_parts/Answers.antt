use Rattle.std.proofs.Common.{◌≡◌}
use Rattle.scenario_image.specs.Fault.{judged_faults}
use Rattle.scenario_image.proofs.FirstFault.{no_fault, one_first}
use Rattle.scenario_image.proofs.scenario.Scenario.of_parts.Goals as goal

pub returns-in-None-clause-only_fault : goal.returns-in-None-clause-only_fault
returns-in-None-clause-only_fault c fault first = absurd (no_fault c.args.parts fault c.in-None.ensures first)

pub returns-in-Some-clause-only_fault : goal.returns-in-Some-clause-only_fault
returns-in-Some-clause-only_fault c fault first = let same : c.in-Some.fault ≡ fault = one_first c.args.parts judged_faults c.in-Some.fault fault c.in-Some.ensures first in cc
