use Rattle.std.proofs.Common.{refl}
use Rattle.scenario_asm.proofs.Places.{place_is, one_place, no_place}
use Rattle.scenario_asm.proofs.Progress.{none_refused, one_refused}
use Rattle.scenario_asm.proofs.place.fault_place.Goals as goal

pub returns-in-Some-clause-place : goal.returns-in-Some-clause-place
returns-in-Some-clause-place c = place_is c.args.text.now c.in-Some.refused _ c.word.result (one_refused c.args.text.now c.in_ok-refused.field-0 c.in-Some.refused c.in-Some.is c.in_ok-refused.ensures.refused) refl c.fault.ensures refl c.word.ensures c.part_of.ensures

pub returns-in-Some-clause-only : goal.returns-in-Some-clause-only
returns-in-Some-clause-only c = λ number fault first. one_place c.args.text.now c.in-Some.refused _ number _ fault (one_refused c.args.text.now c.in_ok-refused.field-0 c.in-Some.refused c.in-Some.is c.in_ok-refused.ensures.refused) refl c.fault.ensures first

pub returns-clause-only : goal.returns-clause-only
returns-clause-only c = λ number fault first. no_place c.args.text.now c.read_lines.new.draft number fault (none_refused c.args.text.now c.read_lines.new.draft c.in_ok-refused.field-0 c.in-None.is c.in_ok-refused.ensures.all) first
