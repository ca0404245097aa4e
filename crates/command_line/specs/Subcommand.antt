-- The names of the subcommands, and which of them are shared out.
use Rattle.std.specs.Prelude.{ℕ, List, codes, Option, None, Some}
use Rattle.command_line.specs.Sharing.{SharingValue}
use Rattle.command_line.specs.declared.subcommand.Subcommand.TheVariants.{Asm, Dis, Run, Figures}
use Rattle.command_line.specs.declared.subcommand.Counting.{Counting}
use Rattle.command_line.specs.declared.subcommand.Asked.{Asked}
use Rattle.command_line.specs.declared.subcommand.Asked.TheVariants.{Session, Explanation}
use Rattle.command_line.specs.declared.subcommand.Task.{Task}
use Rattle.command_line.specs.declared.subcommand.Task.TheVariants.{Scenario, Debug}

-- the word that asks for a subcommand
abbrev pub word_of : Task → List ℕ
word_of (Scenario Asm) = codes "asm"
word_of (Scenario Dis) = codes "dis"
word_of (Scenario (Run sharing)) = codes "run"
word_of (Scenario (Figures counting)) = codes "figures"
word_of (Debug sharing) = codes "debug"

-- how what it asks for is shared out, where it is
abbrev pub sharing_of : Task → Option SharingValue
sharing_of (Scenario Asm) = None
sharing_of (Scenario Dis) = None
sharing_of (Scenario (Run sharing)) = Some sharing
sharing_of (Scenario (Figures counting)) = None
sharing_of (Debug sharing) = Some sharing

-- which figures are written, as the words say it, where they are asked for
abbrev pub counting_of : Task → Option Counting
counting_of (Scenario Asm) = None
counting_of (Scenario Dis) = None
counting_of (Scenario (Run sharing)) = None
counting_of (Scenario (Figures counting)) = Some counting
counting_of (Debug sharing) = None

-- the word that asks for it
abbrev pub asked_word : Asked → List ℕ
asked_word (Session task file wishes) = word_of task
asked_word (Explanation code) = codes "explain"
