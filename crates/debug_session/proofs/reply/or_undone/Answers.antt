use Rattle.std.proofs.Common.{◌≡◌, Result, MatchResult, refl, sym, subst}
use Rattle.prompt_words.specs.declared.refusal.Refusal.{Refusal}
use Rattle.debug_session.specs.Reported.{GoesBack}
use Rattle.debug_session.proofs.reply.or_undone.Goals as goal

pub returns-in-Ok-clause-same : goal.returns-in-Ok-clause-same
returns-in-Ok-clause-same c = sym c.in-Ok.is

pub returns-in-Ok-clause-undone : goal.returns-in-Ok-clause-undone
returns-in-Ok-clause-undone c =
    let d = c.args.debugger.now in
    subst (λ (r : Result (Unit {0}) Refusal). MatchResult r (λ _. d ≡ d) (λ _. GoesBack d d)) (sym c.in-Ok.is) refl

pub returns-in-Err-clause-same : goal.returns-in-Err-clause-same
returns-in-Err-clause-same c = sym c.in-Err.is

pub returns-in-Err-clause-undone : goal.returns-in-Err-clause-undone
returns-in-Err-clause-undone c =
    let d = c.args.debugger.now in
    let new = c.undo_move-undone.new.self in
    subst (λ (r : Result (Unit {0}) Refusal). MatchResult r (λ _. new ≡ d) (λ _. GoesBack d new)) (sym c.in-Err.is) (λ was e. (c.undo_move-undone.ensures.undone was e).1)
