-- What a session of a subcommand comes to, by the bytes of its input.
use Rattle.std.specs.Prelude.{◌≡◌, ◌⊎◌, ◌<◌, ◌≤◌, ℕ, List, [], length, Option, Err}
use Rattle.sessions.specs.declared.outcome.Outcome.{Outcome}
use Rattle.command_line.specs.declared.subcommand.Subcommand.{Subcommand}
use Rattle.sessions.specs.Outcome.{outcome_of}
use Rattle.scenario_image.specs.declared.parts.ScenarioParts.{ScenarioParts}
use Rattle.sessions.specs.declared.fault.SessionFault.TheVariants.{TooLong, Refused, RefusedImage, ReadFailed, NoMemory}
use Rattle.sessions.specs.Ended.{SessionEnded, IsHindered, reads_after, writes_after}
use Rattle.sessions.specs.Input.{InputHasScenario, InputHasFault}
use Rattle.sessions.specs.Output.{IsOutput}
use Rattle.sessions.specs.Streams.{Streams, IsInputOf}
use Rattle.sessions.specs.Written.{Writes}

-- no more bytes than an input may have
abbrev pub IsWithin : List ℕ → Type 0
IsWithin input = length input ≤ 16777216

-- the input has a scenario, over which the subcommand ended so and wrote this
abbrev pub IsOfScenario : Subcommand → List ℕ → SessionEnded → List ℕ → Type 0
IsOfScenario subcommand input ended out = IsWithin input × ((p : ScenarioParts) × InputHasScenario input p × IsOutput subcommand input p ended out)

-- why a session on this input ends so, and what it has written by then: each end has its row
abbrev pub IsSessionEnding : Subcommand → List ℕ → SessionEnded → List ℕ → Type 0
IsSessionEnding subcommand input (Err TooLong) out = (16777216 < length input) × (out ≡ [])
IsSessionEnding subcommand input (Err (Refused line fault)) out = IsWithin input × InputHasFault input (Refused line fault) × (out ≡ [])
IsSessionEnding subcommand input (Err (RefusedImage fault)) out = IsWithin input × InputHasFault input (RefusedImage fault) × (out ≡ [])
IsSessionEnding subcommand input (Err ReadFailed) out = out ≡ []
IsSessionEnding subcommand input (Err NoMemory) out = (out ≡ []) ⊎ IsOfScenario subcommand input (Err NoMemory) out
IsSessionEnding subcommand input ended out = IsOfScenario subcommand input ended out

-- the end that a session on the input has where nothing hinders it
abbrev pub IsDue : Subcommand → List ℕ → SessionEnded → Type 0
IsDue subcommand input ended = ¬ IsHindered ended × ((out : List ℕ) × IsSessionEnding subcommand input ended out)

-- a session on this input ended so, and its writer held the first bytes before it and holds the second now
pub record IsSession (subcommand : Subcommand) (input : List ℕ) (ended : SessionEnded) (old new : Option (List ℕ)) : Type 0 where
  pub ending : Writes (IsSessionEnding subcommand input ended) old new
  pub only_due : (other : SessionEnded) → IsDue subcommand input other → (ended ≡ other) ⊎ IsHindered ended

-- a session on the input that the reader gives; reading failed exactly where it ended for that, and writing too
pub record IsSessionOn (subcommand : Subcommand) (known : Option (List ℕ)) (ended : SessionEnded) (before after : Streams) : Type 0 where
  pub input : List ℕ
  pub given : IsInputOf known input
  pub session : IsSession subcommand input ended before.written after.written
  pub reads : after.read_failures ≡ reads_after ended before.read_failures
  pub writes : after.write_failures ≡ writes_after ended before.write_failures

-- a session that ended so is told by this outcome
abbrev pub OutcomeTells : Outcome → (SessionEnded → Type 0) → Type 0
OutcomeTells outcome P = (ended : SessionEnded) × (outcome ≡ outcome_of ended) × P ended
