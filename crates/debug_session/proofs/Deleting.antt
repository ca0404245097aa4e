-- What a session at a prompt answers where a breakpoint is set, or deleted, and where nothing but a text is asked for.
use Rattle.std.proofs.Common.{◌≡◌, ◌+◌, ◌++◌, ◌∷◌, ◌∙◌, ℕ, List, get_or, refl, sym, ap, subst, Result, Ok, Err, MatchResult}
use Rattle.std.proofs.Math.Seq.{get_or-append_seam}
use Rattle.breakpoints.specs.declared.breaks.Break.{Break}
use Rattle.breakpoints.specs.Breaks.{IsTakenOut}
use Rattle.debugger.specs.Debugging.{Debugging}
use Rattle.prompt_words.specs.declared.command.Typed.{Typed}
use Rattle.prompt_words.specs.declared.naming.Naming.{Naming}
use Rattle.prompt_words.specs.declared.refusal.Refusal.{Refusal}
use Rattle.prompt_words.specs.declared.refusal.Refusal.TheVariants.{M}
use Rattle.prompt_words.specs.Refusals.{answer_of}
use Rattle.debug_session.specs.Answers.{session_state}
use Rattle.prompt_words.specs.Numbered.{deleted_line}
use Rattle.debug_session.specs.TypedAnswers.{TypedIsRefused, TakesAway, DoesTyped, ObeysTyped}
use Rattle.debug_session.proofs.Setting.{stands}

-- nothing changes, and a text is told, or memory was refused
pub told : (naming : Naming) (asked : Typed) (old new : Debugging) (result : Result (Unit {0}) Refusal) (out : List ℕ) → new ≡ old
    → MatchResult result (λ _. DoesTyped naming old.start asked (session_state old) (session_state old) out) (λ why. (why ≡ M) × TypedIsRefused M asked (session_state old))
    → ObeysTyped naming old.start asked (session_state old) (session_state new) (answer_of result out)
told naming asked old new (Ok done) out same does = subst (λ (d : Debugging). DoesTyped naming old.start asked (session_state old) (session_state d) out) (sym same) does
told naming asked old new (Err why) out same does = (ap session_state same, subst (λ (w : Refusal). TypedIsRefused w asked (session_state old)) (sym does.0) does.1)

-- the breakpoint that had the place is the one that is taken out
pub taken_away : (naming : Naming) (number index : ℕ) (b taken : Break) (old new : Debugging) (out : List ℕ) → number ≡ index + 1 → new ≡ record old { breaks = new.breaks } → IsTakenOut old.breaks new.breaks index taken
    → b ≡ get_or old.breaks index b → out ≡ deleted_line naming number b → TakesAway naming number (session_state old) (session_state new) out
taken_away naming number index b taken old new out count same is_out there reported =
    let is : b ≡ taken =
    there ∙ ap (λ bs. get_or bs index b) is_out.was ∙ ap (λ i. get_or (is_out.before ++ taken ∷ is_out.after) i b) (sym is_out.at) ∙ get_or-append_seam is_out.before taken is_out.after b in
    record { index = index; b = taken; number = count; taken = is_out; same = stands old new same new.breaks refl; reported = reported ∙ ap (deleted_line naming number) is }
