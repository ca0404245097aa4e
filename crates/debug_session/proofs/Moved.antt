-- Where a session stands after a move and what is told of it.
use Rattle.std.proofs.Common.{◌≡◌, ◌∙◌, ℕ, List, refl, sym, ap, subst, Result, Ok, Err, MatchResult, None}
use Rattle.debugger.specs.Moves.{Passes}
use Rattle.debugger.specs.Debugging.{Debugging, HasMoved}
use Rattle.table_run.specs.State.{State}
use Rattle.trace_text.specs.Dump.{dump_bytes}
use Rattle.prompt_words.specs.declared.command.Command.TheVariants as command
use Rattle.prompt_words.specs.declared.command.Move.{Move}
use Rattle.prompt_words.specs.declared.refusal.Refusal.{Refusal}
use Rattle.prompt_words.specs.declared.refusal.Refusal.TheVariants.{M}
use Rattle.prompt_words.specs.Refusals.{Answer, answer_of}
use Rattle.debug_session.specs.Answers.{session_state, SessionState, GoesTo, Shows, Obeys, IsRefused}
use Rattle.debug_session.specs.Reported.{GoesBack, CanBeUndone}

-- the record of a change, field by field
pub start_of : (old new : Debugging) (p : ℕ) → HasMoved old new p → new.start ≡ old.start
start_of old new p moved = ap (λ (d : Debugging). d.start) moved.after

pub breaks_of : (old new : Debugging) (p : ℕ) → HasMoved old new p → new.breaks ≡ old.breaks
breaks_of old new p moved = ap (λ (d : Debugging). d.breaks) moved.after

-- a move that is undone leaves all as it was
module _ (old between new : Debugging) (made : CanBeUndone old between) (back : GoesBack between new) where
  undone : new ≡ record between { shown = old.shown; left = None }
  undone = back old.shown (ap (λ (d : Debugging). d.left) made)

  pub start_again : new.start ≡ old.start
  start_again = ap (λ (d : Debugging). d.start) undone ∙ ap (λ (d : Debugging). d.start) made

  pub state_again : session_state new ≡ session_state old
  state_again =
      let shown : new.shown ≡ old.shown = ap (λ (d : Debugging). d.shown) undone in
      let breaks : new.breaks ≡ old.breaks = ap (λ (d : Debugging). d.breaks) undone ∙ ap (λ (d : Debugging). d.breaks) made in
      λ i. record { shown = shown i; breaks = breaks i }

pub record Gone (move : Move) (old new : Debugging) (answer : Answer) : Type 0 where
  pub start : new.start ≡ old.start
  pub obeyed : Obeys old.start (command.Go move) (session_state old) (session_state new) answer

-- the move is shown, or memory was refused and it is undone
pub moved_shown : (move : Move) (old between new : Debugging) (p : ℕ) (told result : Result (Unit {0}) Refusal) (out : List ℕ) → HasMoved old between p → GoesTo move old.start (session_state old) p
    → MatchResult told (λ _. out ≡ dump_bytes between.shown) (λ why. why ≡ M) → result ≡ told → MatchResult told (λ _. new ≡ between) (λ _. GoesBack between new) → Gone move old new (answer_of result out)
moved_shown move old between new p (Ok done) result out moved there told is same =
    let start : between.start ≡ old.start = start_of old between p moved in
    let shows : Shows old.start (GoesTo move old.start (session_state old)) (session_state old) (session_state between) out = record {
      at = subst (GoesTo move old.start (session_state old)) (sym moved.at) there;
      on_run = subst (λ (s : State). Passes s between.shown) start moved.on_run;
      breaks = breaks_of old between p moved;
      reported = told;
    } in
    subst (λ (r : Result (Unit {0}) Refusal). Gone move old new (answer_of r out)) (sym is) (subst (λ (d : Debugging). Gone move old d (Ok out)) (sym same) (record { start = start; obeyed = shows }))
moved_shown move old between new p (Err why) result out moved there told is back =
    subst (λ (r : Result (Unit {0}) Refusal). Gone move old new (answer_of r out)) (sym is)
    (record { start = start_again old between new moved.after back; obeyed = (state_again old between new moved.after back, subst (λ (w : Refusal). IsRefused w (command.Go move) (session_state old)) (sym told) tt) })

-- the state that is shown is told, or memory was refused
pub state_shown : (d : Debugging) (told : Result (Unit {0}) Refusal) (out : List ℕ) → Passes d.start d.shown → MatchResult told (λ _. out ≡ dump_bytes d.shown) (λ why. why ≡ M)
    → Obeys d.start command.State (session_state d) (session_state d) (answer_of told out)
state_shown d (Ok done) out here told = record { at = refl; on_run = here; breaks = refl; reported = told }
state_shown d (Err why) out here told = (refl, subst (λ (w : Refusal). IsRefused w command.State (session_state d)) (sym told) tt)
