-- Which input is named: the reader's, or a file's.
use Rattle.std.specs.Prelude.{ℕ, List, codes, bytes_eq, if◌then◌else◌, Option, None, Some, Result}
use Rattle.sessions.specs.declared.fault.SessionFault.{SessionFault}
use Rattle.command_line.specs.declared.subcommand.Task.{Task}
use Rattle.sessions.specs.Asked.{IsOverFile}
use Rattle.sessions.specs.Debug.{IsTaskOn}
use Rattle.sessions.specs.Ended.{SessionEnded, IsReadFault, reads_after}
use Rattle.sessions.specs.Prompt.{IsFileFault, line_reads_after}
use Rattle.sessions.specs.Streams.{Streams}

-- the file that a word names: none is, and standard input has the bytes, where there is no word, or `-`
abbrev pub named_file : Option (List ℕ) → Option (List ℕ)
named_file None = None
named_file (Some word) = if bytes_eq word (codes "-") then None else Some word

-- the bytes that it has, where they are known
abbrev pub known_of : Option (List ℕ) → Option (List ℕ) → (List ℕ → Option (List ℕ)) → Option (List ℕ)
known_of None known bytes_of = known
known_of (Some file) known bytes_of = bytes_of file

-- reading it ended so
abbrev pub IsInputFault : Option (List ℕ) → List ℕ → SessionFault → Type 0
IsInputFault None input fault = IsReadFault input fault
IsInputFault (Some file) input fault = IsFileFault file input fault

-- the reader's count of failures after that
abbrev pub input_reads_after : {T : Type 0} → Option (List ℕ) → Result T SessionFault → ℕ → ℕ
input_reads_after None read n = reads_after read n
input_reads_after (Some file) read n = line_reads_after read n

-- the session of a task over it
abbrev pub IsTaskOver : Task → Option (List ℕ) → Option (List ℕ) → (List ℕ → Option (List ℕ)) → SessionEnded → Streams → Streams → Type 0
IsTaskOver task None known bytes_of = IsTaskOn task known
IsTaskOver task (Some file) known bytes_of = IsOverFile task file (bytes_of file)
