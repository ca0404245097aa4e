use Rattle.std.proofs.Common.{Err, refl}
use Rattle.scenario_asm.specs.declared.fault.AsmFault.TheVariants.{At}
use Rattle.scenario_asm.proofs.OneMeaning.{right_scenario, right_fault}
use Rattle.scenario_asm.proofs.Progress.{none_refused, one_refused, line_right, whole_right}
use Rattle.scenario_asm.proofs.Whole.{kinds_held}
use Rattle.scenario_asm.proofs.assembler.assemble.Goals as goal

pub finish-requires : goal.finish-requires
finish-requires c = kinds_held _ _ (none_refused c.args.text.now c.read_lines.new.draft c.in_ok-refused.field-0 c.in-None.is c.in_ok-refused.ensures.all).holds

pub returns-in-Some-clause-only_scenario : goal.returns-in-Some-clause-only_scenario
returns-in-Some-clause-only_scenario c = right_scenario _ _ (line_right c.args.text.now c.in-Some.refused c.fault.result (Err (At c.in-Some.refused.number c.fault.result)) (one_refused c.args.text.now c.in_ok-refused.field-0 c.in-Some.refused c.in-Some.is c.in_ok-refused.ensures.refused) c.fault.ensures refl)

pub returns-in-Some-clause-fault : goal.returns-in-Some-clause-fault
returns-in-Some-clause-fault c = (line_right c.args.text.now c.in-Some.refused c.fault.result (Err (At c.in-Some.refused.number c.fault.result)) (one_refused c.args.text.now c.in_ok-refused.field-0 c.in-Some.refused c.in-Some.is c.in_ok-refused.ensures.refused) c.fault.ensures refl).fault

pub returns-in-Some-clause-only_fault : goal.returns-in-Some-clause-only_fault
returns-in-Some-clause-only_fault c = right_fault _ _ (line_right c.args.text.now c.in-Some.refused c.fault.result (Err (At c.in-Some.refused.number c.fault.result)) (one_refused c.args.text.now c.in_ok-refused.field-0 c.in-Some.refused c.in-Some.is c.in_ok-refused.ensures.refused) c.fault.ensures refl)

pub returns-in-None-clause-scenario : goal.returns-in-None-clause-scenario
returns-in-None-clause-scenario c = (whole_right c.args.text.now c.read_lines.new.draft c.finish.result (none_refused c.args.text.now c.read_lines.new.draft c.in_ok-refused.field-0 c.in-None.is c.in_ok-refused.ensures.all) c.finish.ensures).scenario

pub returns-in-None-clause-only_scenario : goal.returns-in-None-clause-only_scenario
returns-in-None-clause-only_scenario c = right_scenario _ _ (whole_right c.args.text.now c.read_lines.new.draft c.finish.result (none_refused c.args.text.now c.read_lines.new.draft c.in_ok-refused.field-0 c.in-None.is c.in_ok-refused.ensures.all) c.finish.ensures)

pub returns-in-None-clause-fault : goal.returns-in-None-clause-fault
returns-in-None-clause-fault c = (whole_right c.args.text.now c.read_lines.new.draft c.finish.result (none_refused c.args.text.now c.read_lines.new.draft c.in_ok-refused.field-0 c.in-None.is c.in_ok-refused.ensures.all) c.finish.ensures).fault

pub returns-in-None-clause-only_fault : goal.returns-in-None-clause-only_fault
returns-in-None-clause-only_fault c = right_fault _ _ (whole_right c.args.text.now c.read_lines.new.draft c.finish.result (none_refused c.args.text.now c.read_lines.new.draft c.in_ok-refused.field-0 c.in-None.is c.in_ok-refused.ensures.all) c.finish.ensures)
