use Rattle.scenario_image.proofs.Judged.{loaded_only, refused_only}
use Rattle.scenario_image.proofs.loading.load.Goals as goal

pub returns-clause-only : goal.returns-clause-only
returns-clause-only c = loaded_only c.args.bytes.now c.judged.result c.judged.ensures.ok c.judged.ensures.scenario c.judged.ensures.fault

pub returns-clause-only_fault : goal.returns-clause-only_fault
returns-clause-only_fault c = refused_only c.args.bytes.now c.judged.result c.judged.ensures.ok c.judged.ensures.scenario c.judged.ensures.fault

pub returns-clause-ok : goal.returns-clause-ok
returns-clause-ok c = c.judged.ensures.ok

pub returns-clause-fault : goal.returns-clause-fault
returns-clause-fault c = c.judged.ensures.fault
