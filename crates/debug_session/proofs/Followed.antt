-- What follows where a line that is typed was read.
use Rattle.std.proofs.Common.{◌≡◌, [], List, ℕ, Bool, true, false, MatchBool, Option, Some, None, Ok, Err, refl, sym, subst}
use Rattle.table_run.specs.State.{State}
use Rattle.prompt_words.specs.declared.command.Request.{Request}
use Rattle.prompt_words.specs.declared.command.Typed.{Typed}
use Rattle.prompt_words.specs.declared.naming.Naming.{Naming}
use Rattle.prompt_words.specs.declared.refusal.Refusal.{Refusal}
use Rattle.prompt_words.specs.declared.refusal.Refusal.TheVariants.{B2}
use Rattle.prompt_words.specs.Refusals.{Answer}
use Rattle.prompt_words.specs.TypedGrammar.{is_long, is_quit, TypedReading, typed_reading}
use Rattle.debug_session.specs.Prompt.{AtPrompt, Rests, ObeysAtPrompt, ObeysRequest, MovesAgain, FollowsTyped, AnswersTyped, TypedAnswers}

pub nothing_again : (naming : Naming) (start : State) (old : AtPrompt) (answer : Answer) → old.memo.last ≡ None → answer ≡ Ok [] → MovesAgain naming start old.memo.last old old answer
nothing_again naming start old answer none reported = subst (λ (m : Option Typed). MovesAgain naming start m old old answer) (sym none) (record { same = refl; reported = reported })

pub done_again : (naming : Naming) (start : State) (old new : AtPrompt) (answer : Answer) (move : Typed) → old.memo.last ≡ Some move → ObeysAtPrompt naming start move old new answer → MovesAgain naming start old.memo.last old new answer
done_again naming start old new answer move is obeys = subst (λ (m : Option Typed). MovesAgain naming start m old new answer) (sym is) obeys

module _ (naming : Naming) (start : State) (line : List ℕ) (old new : AtPrompt) (answer : Answer) where
  pub is_again : None ≡ typed_reading naming line → MovesAgain naming start old.memo.last old new answer → AnswersTyped naming start line old new answer
  is_again read again = subst (λ (r : Option TypedReading). FollowsTyped naming start r old new answer) read again

  pub is_obeyed : (asked : Request) → Some (Ok asked) ≡ typed_reading naming line → ObeysRequest naming start asked old new answer → AnswersTyped naming start line old new answer
  is_obeyed asked read obeys = subst (λ (r : Option TypedReading). FollowsTyped naming start r old new answer) read obeys

pub is_refused : (naming : Naming) (start : State) (line : List ℕ) (old : AtPrompt) (answer : Answer) (refusal : Refusal) → Some (Err refusal) ≡ typed_reading naming line → answer ≡ Err refusal
    → AnswersTyped naming start line old old answer
is_refused naming start line old answer refusal read reported = subst (λ (r : Option TypedReading). FollowsTyped naming start r old old answer) read (record { same = refl; reported = reported })

module _ (naming : Naming) (start : State) (line : List ℕ) (old new : AtPrompt) (answer : Answer) where
  abbrev Short : Type 0
  Short = MatchBool (is_quit line) (Rests old new answer (Ok [])) (AnswersTyped naming start line old new answer)

  -- a line that is too long is refused
  pub long_refused : is_long line ≡ true → Rests old new answer (Err B2) → TypedAnswers naming start line old new answer
  long_refused long rests = subst (λ (b : Bool). MatchBool b (Rests old new answer (Err B2)) Short) (sym long) rests

  -- any other that doesn't end the session is followed
  pub short_followed : is_long line ≡ false → is_quit line ≡ false → AnswersTyped naming start line old new answer → TypedAnswers naming start line old new answer
  short_followed short goes_on follows =
      let here : Short = subst (λ (b : Bool). MatchBool b (Rests old new answer (Ok [])) (AnswersTyped naming start line old new answer)) (sym goes_on) follows in
      subst (λ (b : Bool). MatchBool b (Rests old new answer (Err B2)) Short) (sym short) here
