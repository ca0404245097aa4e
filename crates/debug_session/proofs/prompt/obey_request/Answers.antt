use Rattle.std.proofs.Common.{sym, subst}
use Rattle.prompt_words.specs.declared.command.Request.{Request}
use Rattle.prompt_words.specs.Refusals.{answer_of}
use Rattle.debug_session.specs.Prompt.{ObeysRequest, at_prompt}
use Rattle.debug_session.proofs.prompt.obey_request.Goals as goal

pub obey_at_prompt-requires : goal.obey_at_prompt-requires
obey_at_prompt-requires g c = record { ready = c.requires.ready }

pub returns-in-Command-clause-obeys : goal.returns-in-Command-clause-obeys
returns-in-Command-clause-obeys g c =
    subst (λ (k : Request). ObeysRequest c.args.naming.now c.args.dialogue.now.debugger.start k (at_prompt c.args.dialogue.now) (at_prompt c.obey_at_prompt.new.dialogue) (answer_of c.obey_at_prompt.result c.obey_at_prompt.new.said)) (sym c.in-Command.is) c.obey_at_prompt.ensures.obeys

pub returns-in-Command-clause-start : goal.returns-in-Command-clause-start
returns-in-Command-clause-start g c = c.obey_at_prompt.ensures.start

pub returns-in-Display-clause-obeys : goal.returns-in-Display-clause-obeys
returns-in-Display-clause-obeys g c =
    subst (λ (k : Request). ObeysRequest c.args.naming.now c.args.dialogue.now.debugger.start k (at_prompt c.args.dialogue.now) (at_prompt c.obey_display.new.dialogue) (answer_of c.obey_display.result c.obey_display.new.said)) (sym c.in-Display.is) c.obey_display.ensures.obeyed

pub returns-in-Display-clause-start : goal.returns-in-Display-clause-start
returns-in-Display-clause-start g c = c.obey_display.ensures.start
