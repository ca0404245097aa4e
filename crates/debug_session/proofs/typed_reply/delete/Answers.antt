use Rattle.std.proofs.Common.{◌≡◌, ◌<◌, List, length, get_or, refl, sym, ap, subst}
use Rattle.breakpoints.specs.declared.breaks.Break.{Break}
use Rattle.debugger.specs.Debugging.{Debugging}
use Rattle.prompt_words.specs.Numbered.{HasNumber}
use Rattle.debug_session.proofs.Deleting.{taken_away}
use Rattle.prompt_words.proofs.Listed.{has_one}
use Rattle.debug_session.proofs.typed_reply.delete.Goals as goal

pub returns-in-None-clause-obeyed : goal.returns-in-None-clause-obeyed
returns-in-None-clause-obeyed c = (refl, subst (λ (bs : List Break). ¬ HasNumber bs c.args.number) c.breaks.ensures.value c.in-None.ensures)

pub returns-in-None-clause-start : goal.returns-in-None-clause-start
returns-in-None-clause-start c = refl

pub delete_break-taken-requires : goal.delete_break-taken-requires
delete_break-taken-requires c = subst (λ (bs : List Break). c.in-Some.index < length bs) c.breaks.ensures.value c.in-Some.ensures.1

pub returns-in-Ok-clause-obeyed : goal.returns-in-Ok-clause-obeyed
returns-in-Ok-clause-obeyed c =
    let b = c.in-Some.b in
    let taken = c.delete_break-taken in
    let there : b ≡ get_or c.args.debugger.now.breaks c.in-Some.index b = sym (subst (λ (bs : List Break). get_or bs c.in-Some.index b ≡ b) c.breaks.ensures.value c.in-Some.ensures.2) in
    taken_away c.args.naming.now c.args.number c.in-Some.index b taken.result c.args.debugger.now taken.new.self c.say_deleted.new.self c.in-Some.ensures.0 taken.ensures.same taken.ensures.taken there c.in-Ok.ensures

pub returns-in-Ok-clause-start : goal.returns-in-Ok-clause-start
returns-in-Ok-clause-start c = ap (λ (d : Debugging). d.start) c.delete_break-taken.ensures.same

pub returns-in-Err-clause-obeyed : goal.returns-in-Err-clause-obeyed
returns-in-Err-clause-obeyed c =
    (refl, has_one c.args.debugger.now.breaks c.args.number c.in-Some.index c.in-Some.ensures.0 (subst (λ (bs : List Break). c.in-Some.index < length bs) c.breaks.ensures.value c.in-Some.ensures.1))

pub returns-in-Err-clause-start : goal.returns-in-Err-clause-start
returns-in-Err-clause-start c = refl
