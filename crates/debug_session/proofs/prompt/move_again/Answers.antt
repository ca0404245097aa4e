use Rattle.std.proofs.Common.{Ok, refl, ap}
use Rattle.prompt_words.specs.Refusals.{answer_of}
use Rattle.debug_session.specs.Prompt.{at_prompt}
use Rattle.debug_session.proofs.Followed.{nothing_again, done_again}
use Rattle.debug_session.proofs.prompt.move_again.Goals as goal

pub returns-in-None-clause-moves : goal.returns-in-None-clause-moves
returns-in-None-clause-moves g c = nothing_again c.args.naming.now c.args.dialogue.now.debugger.start (at_prompt c.args.dialogue.now) (Ok c.clear.new.self) c.in-None.is (ap Ok c.clear.ensures)

pub returns-in-None-clause-start : goal.returns-in-None-clause-start
returns-in-None-clause-start g c = refl

pub obey_at_prompt-requires : goal.obey_at_prompt-requires
obey_at_prompt-requires g c = record { ready = c.requires.ready }

pub returns-in-Some-clause-moves : goal.returns-in-Some-clause-moves
returns-in-Some-clause-moves g c =
    let old = c.args.dialogue.now in
    done_again c.args.naming.now old.debugger.start (at_prompt old) (at_prompt c.obey_at_prompt.new.dialogue) (answer_of c.obey_at_prompt.result c.obey_at_prompt.new.said) c.in-Some.asked c.in-Some.is c.obey_at_prompt.ensures.obeys

pub returns-in-Some-clause-start : goal.returns-in-Some-clause-start
returns-in-Some-clause-start g c = c.obey_at_prompt.ensures.start
