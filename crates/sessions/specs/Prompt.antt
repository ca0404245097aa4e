-- What a debugging session at a prompt comes to: its scenario is a file's, and its commands are typed, one a line.
use Rattle.std.specs.Prelude.{◌≡◌, ◌<◌, ℕ, true, List, [], length, string_bytes, Option, Result, Ok, Err}
use Rattle.scenario_image.specs.declared.parts.ScenarioParts.{ScenarioParts}
use Rattle.table_run.specs.State.{State, initial}
use Rattle.prompt_words.specs.declared.naming.Naming.{Naming}
use Rattle.debug_session.specs.Answers.{opened_at}
use Rattle.prompt_words.specs.Namings.{limits_of}
use Rattle.debug_session.specs.Prompt.{Ask, AtPrompt, Typed, TypedOutput, AreInTime, IsSoFar, IsToEnd, lines_in, none_quits, unmoved}
use Rattle.sessions.specs.declared.fault.SessionFault.{SessionFault}
use Rattle.sessions.specs.declared.fault.SessionFault.TheVariants.{TooLong, Refused, RefusedImage, Groups, ReadFailed, CannotRead, WriteFailed, NoMemory}
use Rattle.sessions.specs.FileName.{shown_name}
use Rattle.sessions.specs.Ended.{SessionEnded, writes_after}
use Rattle.sessions.specs.Input.{InputHasScenario, InputHasFault}
use Rattle.sessions.specs.Namings.{IsNamingOf}
use Rattle.sessions.specs.Nodes.{HasGroups}
use Rattle.sessions.specs.Session.{IsWithin}
use Rattle.sessions.specs.Streams.{Streams, IsInputOf}
use Rattle.sessions.specs.Written.{Writes, IsBeginningOf}
use Rattle.window_engine.specs.Failures.{counted}

-- how the lines that were typed ended a session, and what it has put out: done, the answers to the lines up to `quit`, or to all; where reading a line failed, the answers to the lines before; where the output failed, a beginning of the answers
abbrev pub IsTypedEnd : Naming → State → AtPrompt → List (List ℕ) → SessionEnded → Streams → Streams → Type 0
IsTypedEnd naming start old lines (Ok done) before after = IsSoFar naming start old lines before.written after.written × IsToEnd lines after.typed
IsTypedEnd naming start old lines (Err ReadFailed) before after = IsSoFar naming start old lines before.written after.written × (none_quits lines ≡ true)
IsTypedEnd naming start old lines (Err WriteFailed) before after = Writes (IsBeginningOf (TypedOutput naming start lines old)) before.written after.written × (none_quits lines ≡ true)
IsTypedEnd naming start old lines _ before after = ⊥

-- a session at a prompt that ended so, from where it stands: whenever it asked for a line, it had answered those before it, whatever came later
pub record IsTypedSession (naming : Naming) (start : State) (old : AtPrompt) (ended : SessionEnded) (before after : Streams) : Type 0 where
  pub asks : List Ask
  pub typed : Typed before.typed after.typed asks
  pub in_time : AreInTime naming start old before.written [] asks
  pub ending : IsTypedEnd naming start old (lines_in asks) ended before after

-- no line was asked for, and nothing was written
pub record IsUnbegun (before after : Streams) : Type 0 where
  pub untyped : Typed before.typed after.typed []
  pub unwritten : after.written ≡ before.written

-- the input has a scenario, for whose nodes the text names groups, and a session at a prompt over it ended so, which knows the names of the input
abbrev pub IsAtPrompt : List ℕ → List ℕ → SessionEnded → Streams → Streams → Type 0
IsAtPrompt groups input ended before after =
    IsWithin input × ((p : ScenarioParts) × InputHasScenario input p × HasGroups groups p × (naming : Naming) × IsNamingOf input (limits_of p) naming × IsTypedSession naming (initial p) (unmoved (opened_at (initial p))) ended before after)

-- the input has a scenario, for whose nodes the text names no groups
abbrev pub IsUngrouped : List ℕ → List ℕ → Type 0
IsUngrouped groups input = IsWithin input × ((p : ScenarioParts) × InputHasScenario input p × ¬ HasGroups groups p)

-- a session at a prompt over a scenario whose parts are called so ended so: memory was refused before the first line, or lines were typed
abbrev pub IsOverScenario : Naming → ScenarioParts → SessionEnded → Streams → Streams → Type 0
IsOverScenario naming p (Err NoMemory) before after = IsUnbegun before after
IsOverScenario naming p ended before after = IsTypedSession naming (initial p) (unmoved (opened_at (initial p))) ended before after

-- why a session at a prompt over this input ends so, and what came of its streams by then: each end has its row
abbrev pub IsPromptOver : List ℕ → List ℕ → SessionEnded → Streams → Streams → Type 0
IsPromptOver groups input (Err (Refused line fault)) before after = IsWithin input × InputHasFault input (Refused line fault) × IsUnbegun before after
IsPromptOver groups input (Err (RefusedImage fault)) before after = IsWithin input × InputHasFault input (RefusedImage fault) × IsUnbegun before after
IsPromptOver groups input (Err Groups) before after = IsUngrouped groups input × IsUnbegun before after
IsPromptOver groups input (Err NoMemory) before after = IsUnbegun before after
IsPromptOver groups input ended before after = IsAtPrompt groups input ended before after

-- and over the file of this name, which has this input
abbrev pub IsPromptEnding : List ℕ → List ℕ → List ℕ → SessionEnded → Streams → Streams → Type 0
IsPromptEnding groups file input (Err TooLong) before after = (16777216 < length input) × IsUnbegun before after
IsPromptEnding groups file input (Err (CannotRead name)) before after = (string_bytes name ≡ shown_name file) × IsUnbegun before after
IsPromptEnding groups file input ended before after = IsPromptOver groups input ended before after

-- reading a file ended so: it has more bytes than an input may have, or could not be read, or memory was refused
abbrev pub IsFileFault : List ℕ → List ℕ → SessionFault → Type 0
IsFileFault file input TooLong = 16777216 < length input
IsFileFault file input (CannotRead name) = string_bytes name ≡ shown_name file
IsFileFault file input NoMemory = Unit {0}
IsFileFault file input _ = ⊥

-- the reader's count of failures after what ended so: the file could not be read, or a line
abbrev pub line_reads_after : {T : Type 0} → Result T SessionFault → ℕ → ℕ
line_reads_after (Err ReadFailed) n = counted n
line_reads_after (Err (CannotRead name)) n = counted n
line_reads_after _ n = n

-- a session at a prompt over the file of this name, which gives these bytes where they are known
pub record IsPromptOn (groups file : List ℕ) (known : Option (List ℕ)) (ended : SessionEnded) (before after : Streams) : Type 0 where
  pub input : List ℕ
  pub given : IsInputOf known input
  pub ending : IsPromptEnding groups file input ended before after
  pub reads : after.read_failures ≡ line_reads_after ended before.read_failures
  pub writes : after.write_failures ≡ writes_after ended before.write_failures
