-- What a session answers to a line of commands, and where it stands afterwards.
use Rattle.std.specs.Prelude.{◌≡◌, ◌<◌, ◌+◌, ◌-◌, ◌⊎◌, ℕ, List, [], ◌∷◌, ◌++◌, length, Contains, codes, decimal, Option, None, Some, Ok, Err}
use Rattle.table_run.specs.State.{State as NetState}
use Rattle.net_machine.specs.Run.{Reached}
use Rattle.trace_text.specs.Words.{line_of_words}
use Rattle.trace_text.specs.Dump.{dump_bytes}
use Rattle.breakpoints.specs.declared.breaks.Break.{Break}
use Rattle.debugger.specs.Moves.{Passes, StepGoesTo, RunGoesTo, ReverseGoesTo, UntilGoesTo}
use Rattle.debugger.specs.Debugging.{Debugging}
use Rattle.prompt_words.specs.declared.command.Command.{Command}
use Rattle.prompt_words.specs.declared.command.Command.TheVariants.{Go, State, SetBreak, Clear}
use Rattle.prompt_words.specs.declared.command.Limits.{Limits}
use Rattle.prompt_words.specs.declared.command.Move.{Move}
use Rattle.prompt_words.specs.declared.command.Move.TheVariants.{Step, Back, Run, Reverse, Until, Goto, Moment}
use Rattle.prompt_words.specs.declared.refusal.Refusal.{Refusal}
use Rattle.prompt_words.specs.declared.refusal.Refusal.TheVariants.{B4, M}
use Rattle.prompt_words.specs.Grammar.{Reading, reading}
use Rattle.prompt_words.specs.Refusals.{Answer}

-- the state that is shown with its position, and the breakpoints that are set
pub record SessionState : Type 0 where
  pub shown : Reached
  pub breaks : List Break

abbrev pub session_state : Debugging → SessionState
session_state d = record { shown = d.shown; breaks = d.breaks }

-- no move made yet, and no breakpoint set
abbrev pub opened_at : NetState → SessionState
opened_at start = record { shown = record { state = start; position = 0 }; breaks = [] }

-- so many breakpoints are set
abbrev pub break_line : ℕ → List ℕ
break_line count = line_of_words (codes "break" ∷ decimal count ∷ [])

abbrev pub clear_line : List ℕ
clear_line = line_of_words (codes "clear" ∷ [])

-- nothing changes, and this is answered
pub record Stays (old new : SessionState) (out said : List ℕ) : Type 0 where
  pub same : new ≡ old
  pub reported : out ≡ said

-- where a move goes, from where a session stands: `goto` where `step` goes from the beginning, or `until`
abbrev pub GoesTo : Move → NetState → SessionState → ℕ → Type 0
GoesTo (Step count) start at = StepGoesTo start at.shown.position count
GoesTo (Back count) start at = λ p. p ≡ at.shown.position - count
GoesTo Run start at = RunGoesTo start at.breaks at.shown.position
GoesTo Reverse start at = ReverseGoesTo start at.breaks at.shown.position
GoesTo (Until time) start at = UntilGoesTo start time at.shown.position
GoesTo (Goto target) start at = StepGoesTo start 0 target
GoesTo (Moment time) start at = UntilGoesTo start time 0

-- the state at a position that the move goes to is shown, and its dump is answered
pub record Shows (start : NetState) (goes : ℕ → Type 0) (old new : SessionState) (out : List ℕ) : Type 0 where
  pub at : goes new.shown.position
  pub on_run : Passes start new.shown
  pub breaks : new.breaks ≡ old.breaks
  pub reported : out ≡ dump_bytes new.shown

-- a breakpoint that is not set yet joins the others
pub record Joins (b : Break) (old new : SessionState) (out : List ℕ) : Type 0 where
  pub fresh : ¬ Contains old.breaks b
  pub few : length old.breaks < 64
  pub joined : new ≡ record old { breaks = old.breaks ++ b ∷ [] }
  pub reported : out ≡ break_line (length old.breaks + 1)

-- a breakpoint is set: one that is set already stays
abbrev pub Sets : Break → SessionState → SessionState → List ℕ → Type 0
Sets b old new out = (Contains old.breaks b × Stays old new out (break_line (length old.breaks))) ⊎ Joins b old new out

-- all breakpoints are taken away
pub record Clears (old new : SessionState) (out : List ℕ) : Type 0 where
  pub cleared : new ≡ record old { breaks = [] }
  pub reported : out ≡ clear_line

-- a command is done
abbrev pub Does : NetState → Command → SessionState → SessionState → List ℕ → Type 0
Does start (Go move) old new out = Shows start (GoesTo move start old) old new out
Does start State old new out = Shows start (λ p. p ≡ old.shown.position) old new out
Does start (SetBreak b) old new out = Sets b old new out
Does start Clear old new out = Clears old new out

-- why a command that was read is refused. What takes memory, runs events or has workers can be refused for want of either, or as too many events were run; and there are as many breakpoints as there may be
abbrev pub IsRefused : Refusal → Command → SessionState → Type 0
IsRefused M (SetBreak b) old = ¬ Contains old.breaks b × (length old.breaks < 64)
IsRefused M Clear old = ⊥
IsRefused M command old = Unit {0}
IsRefused B4 (SetBreak b) old = ¬ Contains old.breaks b × (length old.breaks ≡ 64)
IsRefused refusal command old = ⊥

-- a command is done, or refused, and then nothing changes
abbrev pub Obeys : NetState → Command → SessionState → SessionState → Answer → Type 0
Obeys start command old new (Ok said) = Does start command old new said
Obeys start command old new (Err refusal) = (new ≡ old) × IsRefused refusal command old

abbrev pub Follows : NetState → Option Reading → SessionState → SessionState → Answer → Type 0
Follows start None old new answer = (new ≡ old) × (answer ≡ Ok [])
Follows start (Some (Err refusal)) old new answer = (new ≡ old) × (answer ≡ Err refusal)
Follows start (Some (Ok command)) old new answer = Obeys start command old new answer

-- what a line says is followed
abbrev pub Answers : Limits → NetState → List ℕ → SessionState → SessionState → Answer → Type 0
Answers limits start line old new answer = Follows start (reading limits line) old new answer
