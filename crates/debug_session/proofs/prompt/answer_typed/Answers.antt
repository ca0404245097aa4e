use Rattle.std.proofs.Common.{◌∙◌, Err, refl, sym, ap}
use Rattle.prompt_words.specs.Refusals.{answer_of, by_code}
use Rattle.debug_session.specs.Prompt.{at_prompt}
use Rattle.debug_session.proofs.Followed.{long_refused, short_followed}
use Rattle.debug_session.proofs.prompt.answer_typed.Goals as goal

pub returns-then-is_long-clause-answers : goal.returns-then-is_long-clause-answers
returns-then-is_long-clause-answers g c goes_on =
    let old = at_prompt c.args.dialogue.now in
    long_refused c.args.naming.now c.args.dialogue.now.debugger.start c.args.line.now old old (Err c.from.result.code) (sym c.is_long.ensures ∙ c.if-is_long.true) (record { same = refl; reported = ap Err c.from.ensures })

pub returns-then-is_long-clause-start : goal.returns-then-is_long-clause-start
returns-then-is_long-clause-start g c = refl

pub follow_typed-requires : goal.follow_typed-requires
follow_typed-requires g c = record { ready = c.requires.ready }

pub returns-else-is_long-clause-answers : goal.returns-else-is_long-clause-answers
returns-else-is_long-clause-answers g c goes_on =
    let old = c.args.dialogue.now in
    short_followed c.args.naming.now old.debugger.start c.args.line.now (at_prompt old) (at_prompt c.follow_typed.new.dialogue) (answer_of (by_code c.follow_typed.result) c.follow_typed.new.said) (sym c.is_long.ensures ∙ c.if-is_long.false) goes_on c.follow_typed.ensures.answers

pub returns-else-is_long-clause-start : goal.returns-else-is_long-clause-start
returns-else-is_long-clause-start g c = c.follow_typed.ensures.start
