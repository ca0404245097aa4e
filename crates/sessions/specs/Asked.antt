-- What comes of what the words ask for: a session over standard input or over a file, or an explanation.
use Rattle.std.specs.Prelude.{◌≡◌, ℕ, List, MatchBool, codes, bytes_eq, Option, None, Some}
use Rattle.command_line.specs.declared.subcommand.Asked.{Asked}
use Rattle.command_line.specs.declared.subcommand.Asked.TheVariants.{Session, Explanation}
use Rattle.command_line.specs.declared.subcommand.Task.{Task}
use Rattle.command_line.specs.declared.subcommand.Task.TheVariants.{Scenario, Debug}
use Rattle.sessions.specs.Answered.{IsExplained}
use Rattle.sessions.specs.Debug.{IsTaskOn}
use Rattle.sessions.specs.Ended.{SessionEnded, IsReportedOf, writes_after}
use Rattle.sessions.specs.Prompt.{IsPromptOn}
use Rattle.sessions.specs.Streams.{Streams}
use Rattle.sessions.specs.Written.{Writes}

-- the session of a task over the file of this name, which gives these bytes where they are known: it is that of the bytes, and reading them failed as well where the file could not be opened
pub record IsTaskOnFile (task : Task) (file : List ℕ) (known : Option (List ℕ)) (reported : SessionEnded) (before after : Streams) : Type 0 where
  pub ended : SessionEnded
  pub is_reported : IsReportedOf file ended reported
  pub session : IsTaskOn task known ended before after

-- a task over the file of this name: a debugging session takes its scenario from there, and its commands are typed
abbrev pub IsOverFile : Task → List ℕ → Option (List ℕ) → SessionEnded → Streams → Streams → Type 0
IsOverFile (Scenario subcommand) file known reported before after = IsTaskOnFile (Scenario subcommand) file known reported before after
IsOverFile (Debug sharing) file known reported before after = IsPromptOn sharing.groups file known reported before after

-- a code was explained, or all were listed; nothing was read
pub record IsExplanation (code : Option (List ℕ)) (ended : SessionEnded) (before after : Streams) : Type 0 where
  pub output : Writes (IsExplained code ended) before.written after.written
  pub writes : after.write_failures ≡ writes_after ended before.write_failures
  pub unread : after.read_failures ≡ before.read_failures

-- the session of a task over the input that is named: standard input, where none is or `-`, which gives the first bytes where they are known; or a file, of which a name tells them
abbrev pub IsNamedOn : Task → Option (List ℕ) → Option (List ℕ) → (List ℕ → Option (List ℕ)) → SessionEnded → Streams → Streams → Type 0
IsNamedOn task None known bytes_of ended before after = IsTaskOn task known ended before after
IsNamedOn task (Some file) known bytes_of ended before after = MatchBool (bytes_eq file (codes "-")) (IsTaskOn task known ended before after) (IsOverFile task file (bytes_of file) ended before after)

-- what the words ask for was done and ended so
abbrev pub IsAskedOn : Asked → Option (List ℕ) → (List ℕ → Option (List ℕ)) → SessionEnded → Streams → Streams → Type 0
IsAskedOn (Session task file wishes) known bytes_of = IsNamedOn task file known bytes_of
IsAskedOn (Explanation code) known bytes_of = IsExplanation code
