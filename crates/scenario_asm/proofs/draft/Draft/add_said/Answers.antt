use Rattle.scenario_asm.proofs.Holds.{statements_blank, statements_more}
use Rattle.scenario_asm.proofs.draft.Draft.add_said.Goals as goal

pub returns-in-Some : goal.returns-in-Some
returns-in-Some c = λ all held. rw (c.in-Some.is, statements_more all c.in-Some.statement) (c.add.ensures _ held)

pub returns-in-None : goal.returns-in-None
returns-in-None c = λ all held. rw (c.in-None.is, statements_blank all) held
