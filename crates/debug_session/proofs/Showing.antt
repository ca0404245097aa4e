-- What is displayed behind the answer to a move.
use Rattle.std.proofs.Common.{◌≡◌, ◌∙◌, ℕ, List, [], ◌++◌, Option, Some, Result, Ok, Err, MatchResult, refl, sym, ap, subst, append-nil}
use Rattle.net_machine.specs.Run.{Reached}
use Rattle.debugger.specs.Debugging.{Debugging}
use Rattle.breakpoints.specs.Seen.{read_left_in}
use Rattle.prompt_words.specs.declared.command.Move.{Move}
use Rattle.prompt_words.specs.declared.command.Typed.TheVariants.{Go}
use Rattle.prompt_words.specs.declared.display.DisplayItem.{DisplayItem}
use Rattle.prompt_words.specs.declared.naming.Naming.{Naming}
use Rattle.prompt_words.specs.declared.refusal.Refusal.{Refusal}
use Rattle.prompt_words.specs.declared.refusal.Refusal.TheVariants.{M}
use Rattle.prompt_words.specs.Refusals.{Answer, answer_of}
use Rattle.debug_session.specs.Answers.{session_state}
use Rattle.prompt_words.specs.Displays.{displays_from}
use Rattle.debug_session.specs.Prompt.{read_at, MovesShowing}
use Rattle.debug_session.specs.Readouts.{TellsBehind}
use Rattle.debug_session.specs.Reported.{CanBeUndone, GoesBack}
use Rattle.debug_session.specs.TypedAnswers.{DoesTyped, ObeysTyped, TypedIsRefused}
use Rattle.debug_session.specs.TypedMoves.{present_time}
use Rattle.debug_session.proofs.Moved.{start_again, state_again}

pub record Shown (naming : Naming) (displays : List DisplayItem) (move : Move) (old new : Debugging) (answer : Answer) : Type 0 where
  pub start : new.start ≡ old.start
  pub obeyed : MovesShowing naming displays old.start move (session_state old) (session_state new) answer

-- where nothing is displayed
pub none_shown : (naming : Naming) (displays : List DisplayItem) (move : Move) (old new : Debugging) (result : Result (Unit {0}) Refusal) (out : List ℕ) → displays ≡ []
    → ObeysTyped naming old.start (Go move) (session_state old) (session_state new) (answer_of result out) → MovesShowing naming displays old.start move (session_state old) (session_state new) (answer_of result out)
none_shown naming displays move old new (Ok done) out none does =
    (out, does, sym (append-nil out) ∙ ap (λ (items : List DisplayItem). out ++ displays_from naming.names (read_at old.start old.shown) (read_at old.start new.shown) 1 items) (sym none))
none_shown naming displays move old new (Err why) out none refused = refused

module _ (naming : Naming) (displays : List DisplayItem) (move : Move) (old : Debugging) where
  told : (new : Debugging) (before : ℕ) (said out : List ℕ) → before ≡ present_time old.start old.shown.position → CanBeUndone old new
      → DoesTyped naming old.start (Go move) (session_state old) (session_state new) said → TellsBehind naming.names displays before new said out → Shown naming displays move old new (Ok out)
  told new before said out time made does tells =
      let start : new.start ≡ old.start = ap (λ (d : Debugging). d.start) made in
      record {
        start = start;
        obeyed = (
          said,
          does,
          tells
              ∙ ap (λ (l : Option Reached). said ++ displays_from naming.names (λ what. read_left_in before what l) (read_at new.start new.shown) 1 displays) (ap (λ (d : Debugging). d.left) made)
              ∙ (λ i. said ++ displays_from naming.names (λ what. read_left_in (time i) what (Some old.shown)) (read_at (start i) new.shown) 1 displays),
        );
      }

  -- a move that was made, and the displays behind its answer; or it was undone
  pub move_shown : (between here new : Debugging) (before : ℕ) (said out : List ℕ) (told_as result : Result (Unit {0}) Refusal) → before ≡ present_time old.start old.shown.position → CanBeUndone old between
      → DoesTyped naming old.start (Go move) (session_state old) (session_state between) said → here ≡ between → MatchResult told_as (λ _. TellsBehind naming.names displays before between said out) (λ why. why ≡ M)
      → result ≡ told_as → MatchResult told_as (λ _. new ≡ here) (λ _. GoesBack here new) → Shown naming displays move old new (answer_of result out)
  move_shown between here new before said out (Ok done) result time made does looked tells is same =
      subst (λ (r : Result (Unit {0}) Refusal). Shown naming displays move old new (answer_of r out)) (sym is)
      (subst (λ (d : Debugging). Shown naming displays move old d (Ok out)) (sym (same ∙ looked)) (told between before said out time made does tells))
  move_shown between here new before said out (Err why) result time made does looked tells is back =
      let gone : GoesBack between new = subst (λ (d : Debugging). GoesBack d new) looked back in
      subst (λ (r : Result (Unit {0}) Refusal). Shown naming displays move old new (answer_of r out)) (sym is)
      (record { start = start_again old between new made gone; obeyed = (state_again old between new made gone, subst (λ (w : Refusal). TypedIsRefused w (Go move) (session_state old)) (sym tells) tt) })
