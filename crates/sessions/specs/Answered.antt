-- How words that ask for no session are answered.
use Rattle.std.specs.Prelude.{◌≡◌, ℕ, [], List, Option, Some, Ok, Err}
use Rattle.clap.specs.Kinds.{IsAmong}
use Rattle.clap.specs.Values.{kind_of}
use Rattle.command_line.specs.CommandLine.{word_faults}
use Rattle.sessions.specs.declared.fault.SessionFault.TheVariants.{CommandLine, NoSuchCode, WriteFailed, NoMemory}
use Rattle.sessions.specs.Ended.{SessionEnded}

-- mistaken words are refused for a fault that they have, or memory was refused
abbrev pub IsRefusal : List (List ℕ) → SessionEnded → Type 0
IsRefusal words (Err (CommandLine error)) = IsAmong (kind_of error) (word_faults words)
IsRefusal words (Err NoMemory) = Unit {0}
IsRefusal words _ = ⊥

-- a text was to be shown, and that ended so with these bytes written: it was shown, or the writer failed over it, or memory was refused before its first byte
abbrev pub IsAnswer : SessionEnded → List ℕ → Type 0
IsAnswer (Ok done) out = Unit {0}
IsAnswer (Err WriteFailed) out = Unit {0}
IsAnswer (Err NoMemory) out = out ≡ []
IsAnswer _ out = ⊥

-- an explanation was asked for, and that ended so with these bytes written: as a text that was to be shown, or there is no such code
abbrev pub IsExplained : Option (List ℕ) → SessionEnded → List ℕ → Type 0
IsExplained (Some code) (Err NoSuchCode) out = out ≡ []
IsExplained code ended out = IsAnswer ended out
