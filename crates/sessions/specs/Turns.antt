-- One turn of a session at a prompt: a line is asked for, and answered.
use Rattle.std.specs.Prelude.{◌≡◌, ℕ, true, false, List, [], ◌∷◌, Result, Ok, Err}
use Rattle.std.specs.Io.KnownBytes.{Appends}
use Rattle.table_run.specs.State.{State}
use Rattle.prompt_words.specs.declared.naming.Naming.{Naming}
use Rattle.prompt_words.specs.Refusals.{Answer}
use Rattle.prompt_words.specs.TypedGrammar.{is_quit}
use Rattle.debug_session.specs.Prompt.{Ask, AtPrompt, Typed, TypedAnswers, IsTypedOut, answer_out}
use Rattle.sessions.specs.declared.fault.SessionFault.{SessionFault}
use Rattle.sessions.specs.declared.fault.SessionFault.TheVariants.{ReadFailed, WriteFailed}
use Rattle.sessions.specs.declared.prompt.Turn.{Turn}
use Rattle.sessions.specs.declared.prompt.Turn.TheVariants.{Answered, Quit, NoLine}
use Rattle.sessions.specs.Streams.{Streams}
use Rattle.sessions.specs.Written.{Writes, IsBeginningOf}

-- this line was asked for, while the writer held what it holds before the turn
pub record IsAsked (ask : Ask) (before after : Streams) : Type 0 where
  pub typed : Typed before.typed after.typed (ask ∷ [])
  pub seen : ask.seen ≡ before.written

-- a line was asked for and answered, and this was put out of the answer
pub record IsAnswered (IsPut : List ℕ → Type 0) (naming : Naming) (start : State) (old new : AtPrompt) (before after : Streams) : Type 0 where
  pub ask : Ask
  pub asked : IsAsked ask before after
  pub goes_on : is_quit ask.line ≡ false
  pub said : Answer
  pub answers : TypedAnswers naming start ask.line old new said
  pub put : IsPut (answer_out said)

-- all of it
abbrev pub IsAll : Streams → Streams → List ℕ → Type 0
IsAll before after answer = Appends before.written after.written answer

-- or as much as the writer took before it failed
abbrev pub IsCutOff : Streams → Streams → List ℕ → Type 0
IsCutOff before after answer = Writes (IsBeginningOf (λ all. all ≡ answer)) before.written after.written

-- the line is `quit`
pub record IsQuitting (old new : AtPrompt) (before after : Streams) : Type 0 where
  pub ask : Ask
  pub asked : IsAsked ask before after
  pub quits : is_quit ask.line ≡ true
  pub stays : new ≡ old
  pub unwritten : after.written ≡ before.written

-- there is no line
pub record IsSilent (old new : AtPrompt) (before after : Streams) : Type 0 where
  pub untyped : Typed before.typed after.typed []
  pub stays : new ≡ old
  pub unwritten : after.written ≡ before.written

-- what a turn that ended so did
abbrev pub IsTurn : Naming → State → AtPrompt → AtPrompt → Result Turn SessionFault → Streams → Streams → Type 0
IsTurn naming start old new (Ok Answered) before after = IsAnswered (IsAll before after) naming start old new before after
IsTurn naming start old new (Ok Quit) before after = IsQuitting old new before after
IsTurn naming start old new (Ok NoLine) before after = IsSilent old new before after × IsTypedOut after.typed
IsTurn naming start old new (Err ReadFailed) before after = IsSilent old new before after
IsTurn naming start old new (Err WriteFailed) before after = IsAnswered (IsCutOff before after) naming start old new before after
IsTurn naming start old new _ before after = ⊥
