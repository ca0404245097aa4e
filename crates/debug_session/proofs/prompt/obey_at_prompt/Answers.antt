use Rattle.std.proofs.Common.{List, refl, subst}
use Rattle.prompt_words.specs.declared.command.Typed.{Typed}
use Rattle.prompt_words.specs.declared.display.DisplayItem.{DisplayItem}
use Rattle.prompt_words.specs.Memos.{knowing}
use Rattle.prompt_words.specs.Refusals.{answer_of}
use Rattle.debug_session.specs.Answers.{session_state}
use Rattle.debug_session.specs.Prompt.{ObeysShowing}
use Rattle.debug_session.proofs.prompt.obey_at_prompt.Goals as goal

pub obey_typed-requires : goal.obey_typed-requires
obey_typed-requires g c = record { ready = c.requires.ready }

pub returns-clause-obeys : goal.returns-clause-obeys
returns-clause-obeys g c =
    let d = c.args.dialogue.now.debugger in
    let shows = c.obey_typed in
    record {
      obeyed =
          subst (λ (items : List DisplayItem). ObeysShowing c.args.naming.now items d.start (knowing c.memo_after-dialogue.result.known c.args.asked) (session_state d) (session_state shows.new.debugger) (answer_of shows.result shows.new.said)) c.as_slice.ensures.value
          (subst (λ (k : Typed). ObeysShowing c.args.naming.now c.as_slice.result.now d.start k (session_state d) (session_state shows.new.debugger) (answer_of shows.result shows.new.said)) c.knowing.ensures shows.ensures.obeyed);
      memo = c.memo_after-dialogue.ensures;
      displays = refl;
    }

pub returns-clause-start : goal.returns-clause-start
returns-clause-start g c = c.obey_typed.ensures.start
