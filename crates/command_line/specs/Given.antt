-- The options of a subcommand, as a parse of the words found them.
use Rattle.std.specs.Prelude.{◌≡◌, ◌⊎◌, List, ℕ, codes, Some, IfSome}
use Rattle.std.specs.Option.{option_map}
use Rattle.clap.specs.Values.{IsUnsignedIn}
use Rattle.clap.specs.Walk.{Row, first_of, one_of}
use Rattle.command_line.specs.declared.subcommand.Counting.{Counting}
use Rattle.command_line.specs.declared.subcommand.Asked.{Asked}
use Rattle.command_line.specs.declared.subcommand.Asked.TheVariants.{Session, Explanation}
use Rattle.command_line.specs.CommandLine.{number_of}
use Rattle.command_line.specs.Sharing.{SharingValue}
use Rattle.command_line.specs.Subcommand.{sharing_of, counting_of}
use Rattle.command_line.specs.Wishes.{is_true, wishes_in}

-- the workers are a number from 1 to 64, and the groups are there
pub record AreOptions (rows : List Row) : Type 0 where
  pub workers : List ℕ
  pub groups : List ℕ
  pub are_workers : first_of (codes "workers") rows ≡ Some workers
  pub are_read : one_of (codes "workers") rows ≡ Some workers
  pub are_groups : first_of (codes "groups") rows ≡ Some groups
  pub few : IsUnsignedIn 1 64 workers

-- the options say so how a run is shared out
pub record IsSharing (rows : List Row) (sharing : SharingValue) : Type 0 where
  pub workers : option_map number_of (first_of (codes "workers") rows) ≡ Some sharing.workers
  pub groups : first_of (codes "groups") rows ≡ Some sharing.groups

-- the options say so which figures are written
pub record IsCounting (rows : List Row) (counting : Counting) : Type 0 where
  pub from : first_of (codes "from") rows ≡ counting.from
  pub every : first_of (codes "every") rows ≡ counting.every
  pub series : is_true (first_of (codes "series") rows) ≡ counting.series
  pub names : is_true (first_of (codes "names") rows) ≡ counting.names

-- the word is `asm`, `dis` or `figures`, or `run` or `debug` with its options
abbrev pub AreOfTask : List ℕ → List Row → Type 0
AreOfTask word rows = (word ≡ codes "asm") ⊎ (word ≡ codes "dis") ⊎ (word ≡ codes "figures") ⊎ ((word ≡ codes "run") × AreOptions rows) ⊎ ((word ≡ codes "debug") × AreOptions rows)

-- the word is `explain`, or that of a task
abbrev pub AreOfSubcommand : List ℕ → List Row → Type 0
AreOfSubcommand word rows = (word ≡ codes "explain") ⊎ AreOfTask word rows

-- the options say so how a session is shared out, where it is, which figures are written, its file, and what is wished beside; or a code
abbrev pub AreOfAsked : List Row → Asked → Type 0
AreOfAsked rows (Session task file wishes) = IfSome (sharing_of task) (IsSharing rows) × IfSome (counting_of task) (IsCounting rows) × (first_of (codes "file") rows ≡ file) × (wishes_in rows ≡ wishes)
AreOfAsked rows (Explanation code) = first_of (codes "code") rows ≡ code
