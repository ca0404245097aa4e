-- What a session on an input that was read comes to.
use Rattle.std.specs.Prelude.{◌≡◌, ◌≢◌, ℕ, List, [], Option, None, Some, Err}
use Rattle.scenario_image.specs.declared.parts.ScenarioParts.{ScenarioParts}
use Rattle.table_run.specs.State.{initial}
use Rattle.debugger.specs.Debugging.{debugging_opened}
use Rattle.prompt_words.specs.Memos.{no_memo}
use Rattle.prompt_words.specs.Namings.{limits_of}
use Rattle.sessions.specs.declared.fault.SessionFault.{SessionFault}
use Rattle.sessions.specs.declared.fault.SessionFault.TheVariants.{ReadFailed}
use Rattle.sessions.specs.declared.prompt.Prompt.{Prompt}
use Rattle.command_line.specs.declared.subcommand.Task.{Task}
use Rattle.command_line.specs.declared.subcommand.Task.TheVariants.{Scenario, Debug}
use Rattle.sessions.specs.Debug.{IsDebugSession}
use Rattle.sessions.specs.Ended.{SessionEnded, reads_after, writes_after}
use Rattle.sessions.specs.Input.{InputHasScenario}
use Rattle.sessions.specs.Namings.{IsNamingOf}
use Rattle.sessions.specs.Nodes.{HasGroups}
use Rattle.sessions.specs.Prompt.{IsPromptOver}
use Rattle.sessions.specs.Session.{IsSession}
use Rattle.sessions.specs.Streams.{Streams}

-- these streams, with a writer as it is then
abbrev pub written_by : {W : Type 0} → (W → ℕ) → (W → Option (List ℕ)) → Streams → W → Streams
written_by failures contents now writer = record { read_failures = now.read_failures; typed = now.typed; write_failures = failures writer; written = contents writer }

-- a session of this kind ended so: it read no more, and the writer failed just where it ended for that
pub record SessionIsDone (IsOn : SessionEnded → Option (List ℕ) → Option (List ℕ) → Type 0) (now : Streams) (ended : SessionEnded) (after : Streams) : Type 0 where
  pub session : IsOn ended now.written after.written
  pub no_read : ended ≢ Err ReadFailed
  pub reads : after.read_failures ≡ now.read_failures
  pub writes : after.write_failures ≡ writes_after ended now.write_failures

-- a prompt was opened over the input's scenario, for whose nodes the text names groups
pub record IsPromptOpened (groups input : List ℕ) (prompt : Prompt) : Type 0 where
  pub p : ScenarioParts
  pub workers : ℕ
  pub has_scenario : InputHasScenario input p
  pub has_groups : HasGroups groups p
  pub naming : IsNamingOf input (limits_of p) prompt.naming
  pub debugger : prompt.dialogue.debugger ≡ debugging_opened (initial p) workers
  pub memo : prompt.dialogue.memo ≡ no_memo
  pub displays : prompt.dialogue.displays.items ≡ []

-- or was not, for this fault, which is none of the reader's or the writer's
pub record IsRefused (groups input : List ℕ) (fault : SessionFault) : Type 0 where
  pub over : (streams : Streams) → IsPromptOver groups input (Err fault) streams streams
  pub reads : (n : ℕ) → n ≡ reads_after {T = Unit {0}} (Err fault) n
  pub writes : (n : ℕ) → n ≡ writes_after {T = Unit {0}} (Err fault) n

-- a session at a prompt ended so
pub record IsPromptDone (groups input : List ℕ) (now : Streams) (ended : SessionEnded) (after : Streams) : Type 0 where
  pub over : IsPromptOver groups input ended now after
  pub reads : after.read_failures ≡ reads_after ended now.read_failures
  pub writes : after.write_failures ≡ writes_after ended now.write_failures

-- a debugging session, over the reader's input or a file's
abbrev pub IsDebugWith : List ℕ → Option (List ℕ) → List ℕ → Streams → SessionEnded → Streams → Type 0
IsDebugWith groups None input now = SessionIsDone (IsDebugSession groups input) now
IsDebugWith groups (Some file) input now = IsPromptDone groups input now

-- a task
abbrev pub IsTaskWith : Task → Option (List ℕ) → List ℕ → Streams → SessionEnded → Streams → Type 0
IsTaskWith (Scenario subcommand) file input now = SessionIsDone (IsSession subcommand input) now
IsTaskWith (Debug sharing) file input now = IsDebugWith sharing.groups file input now
