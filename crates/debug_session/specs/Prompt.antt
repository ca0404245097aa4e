-- A session at a prompt: a line is answered before the next one is asked for.
use Rattle.std.specs.Prelude.{◌≡◌, ◌⊎◌, ℕ, Bool, true, not, MatchBool, List, [], ◌∷◌, ◌++◌, map, Option, None, Some, Ok, Err, max, ◌||◌, is_none}
use Rattle.std.specs.List.{list_all}
use Rattle.table_run.specs.State.{State, due}
use Rattle.net_machine.specs.Run.{Reached}
use Rattle.breakpoints.specs.Seen.{read_in}
use Rattle.prompt_words.specs.declared.command.Request.{Request}
use Rattle.prompt_words.specs.declared.command.Request.TheVariants.{Command, Display}
use Rattle.prompt_words.specs.declared.command.Move.{Move}
use Rattle.prompt_words.specs.declared.command.Typed.{Typed as TypedCommand}
use Rattle.prompt_words.specs.declared.command.Typed.TheVariants.{Go}
use Rattle.debug_session.specs.declared.dialogue.Dialogue.{Dialogue}
use Rattle.prompt_words.specs.declared.display.DisplayCommand.{DisplayCommand}
use Rattle.prompt_words.specs.declared.display.DisplayItem.{DisplayItem}
use Rattle.prompt_words.specs.declared.memo.Memo.{Memo}
use Rattle.prompt_words.specs.declared.naming.Naming.{Naming}
use Rattle.prompt_words.specs.declared.refusal.Refusal.TheVariants.{B2}
use Rattle.prompt_words.specs.Refusals.{Answer}
use Rattle.debug_session.specs.Answers.{SessionState, session_state}
use Rattle.prompt_words.specs.Displays.{Reads, displays_from, ObeysDisplays}
use Rattle.prompt_words.specs.Memos.{knowing, no_memo}
use Rattle.debug_session.specs.Taking.{Takes}
use Rattle.debug_session.specs.TypedAnswers.{DoesTyped, ObeysTyped, last_after}
use Rattle.prompt_words.specs.TypedGrammar.{TypedReading, typed_reading, is_long, is_quit}
use Rattle.debug_session.specs.TypedMoves.{present_time}
use Rattle.prompt_words.specs.declared.memo.Extent.{Extent}

-- where a session at a prompt stands, with what it keeps in mind, and what it displays
pub record AtPrompt : Type 0 where
  pub session_state : SessionState
  pub memo : Memo
  pub displays : List DisplayItem

abbrev pub at_prompt : Dialogue → AtPrompt
at_prompt d = record { session_state = session_state d.debugger; memo = d.memo; displays = d.displays.items }

-- no line was typed yet
abbrev pub unmoved : SessionState → AtPrompt
unmoved s = record { session_state = s; memo = no_memo; displays = [] }

-- nothing changes, and this is answered
pub record Rests (old new : AtPrompt) (answer said : Answer) : Type 0 where
  pub same : new ≡ old
  pub reported : answer ≡ said

-- the run is known to go on to where a session stands
abbrev pub known_after : Extent → SessionState → Extent
known_after known at = record { upto = max known.upto at.shown.position; ends = known.ends || is_none (due at.shown.state) }

-- what is in mind once a command was read: a move is the last of `step`, `back`, `run`, `reverse`, `until` and `goto`; and the run goes on to where the session stood
abbrev pub memo_after : TypedCommand → AtPrompt → Memo
memo_after asked at = record { last = last_after asked at.memo.last; known = known_after at.memo.known at.session_state }

-- what is read where a session stands
abbrev pub read_at : State → Reached → Reads
read_at start at what = read_in (present_time start at.position) what at.state

-- a move that is not refused tells what is displayed behind all else
abbrev pub MovesShowing : Naming → List DisplayItem → State → Move → SessionState → SessionState → Answer → Type 0
MovesShowing naming displays start move old new (Ok out) =
    (said : List ℕ) × DoesTyped naming start (Go move) old new said × (out ≡ said ++ displays_from naming.names (read_at start old.shown) (read_at start new.shown) 1 displays)
MovesShowing naming displays start move old new (Err refusal) = ObeysTyped naming start (Go move) old new (Err refusal)

-- any other command tells no displays
abbrev pub ObeysShowing : Naming → List DisplayItem → State → TypedCommand → SessionState → SessionState → Answer → Type 0
ObeysShowing naming displays start (Go move) old new answer = MovesShowing naming displays start move old new answer
ObeysShowing naming displays start asked old new answer = ObeysTyped naming start asked old new answer

-- a command is done, or refused for want of memory or of workers; a move is the last one either way
pub record ObeysAtPrompt (naming : Naming) (start : State) (asked : TypedCommand) (old new : AtPrompt) (answer : Answer) : Type 0 where
  pub obeyed : ObeysShowing naming old.displays start (knowing new.memo.known asked) old.session_state new.session_state answer
  pub memo : new.memo ≡ memo_after asked old
  pub displays : new.displays ≡ old.displays

-- a command on displays changes nothing but them
pub record ObeysDisplay (naming : Naming) (start : State) (asked : DisplayCommand) (old new : AtPrompt) (answer : Answer) : Type 0 where
  pub obeyed : ObeysDisplays naming.names (read_at start old.session_state.shown) asked old.displays new.displays answer
  pub session_state : new.session_state ≡ old.session_state
  pub memo : new.memo ≡ old.memo

-- what a line asks for is obeyed
abbrev pub ObeysRequest : Naming → State → Request → AtPrompt → AtPrompt → Answer → Type 0
ObeysRequest naming start (Command asked) old new answer = ObeysAtPrompt naming start asked old new answer
ObeysRequest naming start (Display asked) old new answer = ObeysDisplay naming start asked old new answer

-- the last move is done again, where there was one
abbrev pub MovesAgain : Naming → State → Option TypedCommand → AtPrompt → AtPrompt → Answer → Type 0
MovesAgain naming start None old new answer = Rests old new answer (Ok [])
MovesAgain naming start (Some move) old new answer = ObeysAtPrompt naming start move old new answer

abbrev pub FollowsTyped : Naming → State → Option TypedReading → AtPrompt → AtPrompt → Answer → Type 0
FollowsTyped naming start None old new answer = MovesAgain naming start old.memo.last old new answer
FollowsTyped naming start (Some (Err refusal)) old new answer = Rests old new answer (Err refusal)
FollowsTyped naming start (Some (Ok asked)) old new answer = ObeysRequest naming start asked old new answer

-- what a line says that is typed is followed; a line of no words does the last move again
abbrev pub AnswersTyped : Naming → State → List ℕ → AtPrompt → AtPrompt → Answer → Type 0
AnswersTyped naming start line old new answer = FollowsTyped naming start (typed_reading naming line) old new answer

-- how a line is answered: one that is too long has no command, `quit` is answered by nothing, and what any other line says is followed
abbrev pub TypedAnswers : Naming → State → List ℕ → AtPrompt → AtPrompt → Answer → Type 0
TypedAnswers naming start line old new answer =
    MatchBool (is_long line) (Rests old new answer (Err B2)) (MatchBool (is_quit line) (Rests old new answer (Ok [])) (AnswersTyped naming start line old new answer))

-- what the output gets of an answer: all but a refusal, which is told beside it
abbrev pub answer_out : Answer → List ℕ
answer_out (Ok said) = said
answer_out (Err refusal) = []

-- the lines are answered one after another, from where the session stands
abbrev pub TypedRan : Naming → State → List (List ℕ) → AtPrompt → AtPrompt → List ℕ → Type 0
TypedRan naming start [] old new out = (new ≡ old) × (out ≡ [])
TypedRan naming start (line ∷ lines) old new out =
    (between : AtPrompt) × (answer : Answer) × (rest : List ℕ) × TypedAnswers naming start line old between answer × TypedRan naming start lines between new rest × (out ≡ answer_out answer ++ rest)

-- these lines give this output, wherever the session stands in the end
abbrev pub TypedOutput : Naming → State → List (List ℕ) → AtPrompt → List ℕ → Type 0
TypedOutput naming start lines old out = (new : AtPrompt) × TypedRan naming start lines old new out

-- a sink that held the first bytes holds the answers to the lines so far beside them now, and nothing else
abbrev pub IsSoFar : Naming → State → AtPrompt → List (List ℕ) → Option (List ℕ) → Option (List ℕ) → Type 0
IsSoFar naming start old lines first now = Takes (TypedOutput naming start lines old) first now

-- a line that was asked for, and what the sink held at that moment, where that is known
pub record Ask : Type 0 where
  pub line : List ℕ
  pub seen : Option (List ℕ)

abbrev pub lines_in : List Ask → List (List ℕ)
lines_in asks = map (λ (ask : Ask). ask.line) asks

-- whenever a line was asked for, the lines before it were answered: `done`, and those of the asks before it
abbrev pub AreInTime : Naming → State → AtPrompt → Option (List ℕ) → List (List ℕ) → List Ask → Type 0
AreInTime naming start old first done [] = Unit {0}
AreInTime naming start old first done (ask ∷ asks) = IsSoFar naming start old done first ask.seen × AreInTime naming start old first (done ++ ask.line ∷ []) asks

-- what is known of who types: the lines that were asked for, and those that are still to come
pub record Typing : Type 0 where
  pub asks : List Ask
  pub rest : List (List ℕ)

-- where it is known, these lines were asked for and no others
abbrev pub Typed : Option Typing → Option Typing → List Ask → Type 0
Typed None new asks = Unit {0}
Typed (Some old) None asks = ⊥
Typed (Some old) (Some new) asks = (new.asks ≡ old.asks ++ asks) × (old.rest ≡ lines_in asks ++ new.rest)

-- and none is still to come
abbrev pub IsTypedOut : Option Typing → Type 0
IsTypedOut None = Unit {0}
IsTypedOut (Some typing) = typing.rest ≡ []

-- no line is `quit`
abbrev pub none_quits : List (List ℕ) → Bool
none_quits lines = list_all (λ line. not (is_quit line)) lines

-- the lines go as far as the first `quit`, or as far as lines come
abbrev pub IsToEnd : List (List ℕ) → Option Typing → Type 0
IsToEnd lines after =
    ((done : List (List ℕ)) × (last : List ℕ) × (lines ≡ done ++ last ∷ []) × (none_quits done ≡ true) × (is_quit last ≡ true))
    ⊎ ((none_quits lines ≡ true) × IsTypedOut after)
