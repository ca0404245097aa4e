-- What a session at a prompt answers to a command, and where it stands afterwards.
use Rattle.std.specs.Prelude.{◌≡◌, ◌<◌, ◌+◌, ◌-◌, ◌⊎◌, ℕ, List, [], ◌∷◌, ◌++◌, length, Contains, Option, Some, Ok, Err}
use Rattle.table_run.specs.State.{State as NetState}
use Rattle.trace_text.specs.DumpParts.{part_bytes}
use Rattle.debug_session.specs.Missing.{why_text}
use Rattle.breakpoints.specs.declared.breaks.Break.{Break}
use Rattle.breakpoints.specs.Breaks.{IsTakenOut}
use Rattle.prompt_words.specs.declared.command.Command.TheVariants as command
use Rattle.prompt_words.specs.declared.command.Typed.{Typed}
use Rattle.prompt_words.specs.declared.command.Typed.TheVariants.{Go, State, SetBreak, Delete, Clear, Breaks, Show}
use Rattle.prompt_words.specs.declared.command.Shown.{Shown}
use Rattle.prompt_words.specs.declared.command.Shown.TheVariants.{Part, Why, Stalls, Lines, Where, Names, Help, HelpOn}
use Rattle.prompt_words.specs.declared.naming.Naming.{Naming}
use Rattle.prompt_words.specs.declared.refusal.Refusal.{Refusal}
use Rattle.prompt_words.specs.declared.refusal.Refusal.TheVariants.{B4, B5, M}
use Rattle.prompt_words.specs.Refusals.{Answer}
use Rattle.debug_session.specs.Answers.{SessionState, GoesTo, Stays, Does}
use Rattle.prompt_words.specs.Entries.{help_text, help_on}
use Rattle.prompt_words.specs.NamesReported.{names_text}
use Rattle.debug_session.specs.StallLists.{TellsStalls}
use Rattle.prompt_words.specs.Numbered.{IsNumber, HasNumber, set_line, deleted_line, listing}
use Rattle.prompt_words.specs.Reports.{report_of}
use Rattle.debug_session.specs.TypedMoves.{MovesPast, last_lines, where_text}

-- a breakpoint that is not set yet joins the others, as the last of them
pub record JoinsLast (naming : Naming) (b : Break) (old new : SessionState) (out : List ℕ) : Type 0 where
  pub fresh : ¬ Contains old.breaks b
  pub few : length old.breaks < 64
  pub joined : new ≡ record old { breaks = old.breaks ++ b ∷ [] }
  pub reported : out ≡ set_line naming (length old.breaks + 1) b

-- a breakpoint is set: one that is set already keeps its number
abbrev pub SetsNumbered : Naming → Break → SessionState → SessionState → List ℕ → Type 0
SetsNumbered naming b old new out = ((i : ℕ) × IsNumber old.breaks b i × Stays old new out (set_line naming i b)) ⊎ JoinsLast naming b old new out

-- the breakpoint of a number is taken away, and the later ones move up
pub record TakesAway (naming : Naming) (i : ℕ) (old new : SessionState) (out : List ℕ) : Type 0 where
  pub index : ℕ
  pub b : Break
  pub number : i ≡ index + 1
  pub taken : IsTakenOut old.breaks new.breaks index b
  pub same : new ≡ record old { breaks = new.breaks }
  pub reported : out ≡ deleted_line naming i b

-- what is shown where a session stands, where the nodes, links and flows are called so
abbrev pub Tells : Naming → NetState → SessionState → Shown → List ℕ → Type 0
Tells naming start at (Part part) out = out ≡ part_bytes part at.shown
Tells naming start at (Why flow) out = out ≡ why_text naming.names flow start at.shown
Tells naming start at Stalls out = TellsStalls naming.names.flows start out
Tells naming start at (Lines count) out = out ≡ last_lines start at.shown.position count
Tells naming start at (Where known) out = out ≡ where_text start at.shown known
Tells naming start at Names out = out ≡ names_text naming
Tells naming start at Help out = out ≡ help_text
Tells naming start at (HelpOn place) out = out ≡ help_on place

-- a command is done: moves go where they go in a session whose lines are all there, and `state` and `clear` are answered as there
abbrev pub DoesTyped : Naming → NetState → Typed → SessionState → SessionState → List ℕ → Type 0
DoesTyped naming start (Go move) old new out = MovesPast naming start (report_of move old.shown.position) (GoesTo move start old) old new out
DoesTyped naming start State old new out = Does start command.State old new out
DoesTyped naming start (SetBreak b) old new out = SetsNumbered naming b old new out
DoesTyped naming start (Delete i) old new out = TakesAway naming i old new out
DoesTyped naming start Clear old new out = Does start command.Clear old new out
DoesTyped naming start Breaks old new out = Stays old new out (listing naming old.breaks)
DoesTyped naming start (Show what) old new out = (new ≡ old) × Tells naming start old what out

-- why a command that was read is refused: for want of memory or of workers, or as too many events were run; as there are as many breakpoints as there may be; or as none has the number
abbrev pub TypedIsRefused : Refusal → Typed → SessionState → Type 0
TypedIsRefused M (SetBreak b) old = Contains old.breaks b ⊎ (length old.breaks < 64)
TypedIsRefused M (Delete i) old = HasNumber old.breaks i
TypedIsRefused M Clear old = ⊥
TypedIsRefused M Breaks old = 0 < length old.breaks
TypedIsRefused M asked old = Unit {0}
TypedIsRefused B4 (SetBreak b) old = ¬ Contains old.breaks b × (length old.breaks ≡ 64)
TypedIsRefused B5 (Delete i) old = ¬ HasNumber old.breaks i
TypedIsRefused refusal asked old = ⊥

-- a command is done, or refused, and then nothing changes
abbrev pub ObeysTyped : Naming → NetState → Typed → SessionState → SessionState → Answer → Type 0
ObeysTyped naming start asked old new (Ok said) = DoesTyped naming start asked old new said
ObeysTyped naming start asked old new (Err refusal) = (new ≡ old) × TypedIsRefused refusal asked old

-- the last move, which an empty line does again, once a command was read
abbrev pub last_after : Typed → Option Typed → Option Typed
last_after (Go move) last = Some (Go move)
last_after asked last = last
