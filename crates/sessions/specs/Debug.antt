-- What a debugging session comes to, by the bytes of its input: always a text, with commands behind it.
use Rattle.std.specs.Prelude.{◌≡◌, ◌⊎◌, ◌<◌, ℕ, List, [], length, Option, Ok, Err}
use Rattle.scenario_image.specs.declared.parts.ScenarioParts.{ScenarioParts}
use Rattle.prompt_words.specs.Input.{command_lines}
use Rattle.debug_session.specs.Sessions.{Ended as CommandsEnded, HasFault, HasScenario, IsEnding}
use Rattle.debug_session.specs.declared.session.DialogueFault.TheVariants.{OutputFailed}
use Rattle.sessions.specs.declared.fault.SessionFault.TheVariants.{TooLong, Refused, Groups, ReadFailed, WriteFailed, NoMemory}
use Rattle.command_line.specs.declared.subcommand.Task.{Task}
use Rattle.command_line.specs.declared.subcommand.Task.TheVariants.{Scenario, Debug}
use Rattle.sessions.specs.Ended.{SessionEnded, IsHindered, reads_after, writes_after}
use Rattle.sessions.specs.Nodes.{HasGroups}
use Rattle.sessions.specs.Session.{IsWithin, IsSessionOn}
use Rattle.sessions.specs.Streams.{Streams, IsInputOf}
use Rattle.sessions.specs.Written.{Writes}

-- the input has a scenario, for whose nodes the text names groups, and a session over it ended so: its commands were answered, whatever the groups are
abbrev pub IsOfCommands : List ℕ → List ℕ → CommandsEnded → List ℕ → Type 0
IsOfCommands groups input ended out = IsWithin input × ((p : ScenarioParts) × HasScenario input p × HasGroups groups p × IsEnding p (command_lines input) ended out)

-- the input has a scenario, for whose nodes the text names no groups
abbrev pub IsOfNoGroups : List ℕ → List ℕ → Type 0
IsOfNoGroups groups input = IsWithin input × ((p : ScenarioParts) × HasScenario input p × ¬ HasGroups groups p)

-- why a debugging session on this input ends so, and what it has written by then: each end has its row
abbrev pub IsDebugEnding : List ℕ → List ℕ → SessionEnded → List ℕ → Type 0
IsDebugEnding groups input (Ok done) out = IsOfCommands groups input (Ok done) out
IsDebugEnding groups input (Err TooLong) out = (16777216 < length input) × (out ≡ [])
IsDebugEnding groups input (Err (Refused line fault)) out = IsWithin input × HasFault input line fault × (out ≡ [])
IsDebugEnding groups input (Err Groups) out = IsOfNoGroups groups input × (out ≡ [])
IsDebugEnding groups input (Err ReadFailed) out = out ≡ []
IsDebugEnding groups input (Err NoMemory) out = out ≡ []
IsDebugEnding groups input (Err WriteFailed) out = IsOfCommands groups input (Err OutputFailed) out
IsDebugEnding groups input _ out = ⊥

-- the end that a debugging session on the input has where nothing hinders it
abbrev pub IsDebugDue : List ℕ → List ℕ → SessionEnded → Type 0
IsDebugDue groups input ended = ¬ IsHindered ended × ((out : List ℕ) × IsDebugEnding groups input ended out)

-- a debugging session on this input ended so, and its writer held the first bytes before it and holds the second now
pub record IsDebugSession (groups input : List ℕ) (ended : SessionEnded) (old new : Option (List ℕ)) : Type 0 where
  pub ending : Writes (IsDebugEnding groups input ended) old new
  pub only_due : (other : SessionEnded) → IsDebugDue groups input other → (ended ≡ other) ⊎ IsHindered ended

-- a debugging session on the input that the reader gives; reading failed exactly where it ended for that, and writing too
pub record IsDebugSessionOn (groups : List ℕ) (known : Option (List ℕ)) (ended : SessionEnded) (before after : Streams) : Type 0 where
  pub input : List ℕ
  pub given : IsInputOf known input
  pub session : IsDebugSession groups input ended before.written after.written
  pub reads : after.read_failures ≡ reads_after ended before.read_failures
  pub writes : after.write_failures ≡ writes_after ended before.write_failures

-- the session of a task: that of a subcommand, or a debugging session
abbrev pub IsTaskOn : Task → Option (List ℕ) → SessionEnded → Streams → Streams → Type 0
IsTaskOn (Scenario subcommand) = IsSessionOn subcommand
IsTaskOn (Debug sharing) = IsDebugSessionOn sharing.groups
