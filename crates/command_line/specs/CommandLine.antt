-- The command line: what is wrong with its words, by the rules of `clap`, and what they ask for.
use Rattle.std.specs.Prelude.{◌≡◌, ◌≢◌, ◌⊎◌, ℕ, ◌∷◌, [], List, codes, true, false, Option, None, Some, IfSome, option_and_then}
use Rattle.std.specs.Option.{option_map}
use Rattle.std.specs.Str.Parse.{digits_value, without_leading_plus}
use Rattle.clap.specs.Simple.{App, Shape, new_rule, new_shape, shape_of, with_subcommand, subcommand_of}
use Rattle.clap.specs.Faults.{fault_of}
use Rattle.clap.specs.Kinds.{Kinds, IsAmong}
use Rattle.clap.specs.Walk.{Rule, first_of}
use Rattle.clap.specs.declared.builder.value_parser.ValueParser.TheVariants.{Unsigned}
use Rattle.clap.specs.declared.builder.action.ArgAction.TheVariants.{SetTrue}
use Rattle.clap.specs.declared.builder.command.Command.{Command}
use Rattle.clap.specs.declared.builder.command.Command.TheViews.{out-Command as fields_of}
use Rattle.clap.specs.declared.error.kind.ErrorKind.{ErrorKind}
use Rattle.clap.specs.declared.error.kind.ErrorKind.TheVariants.{DisplayHelp, DisplayVersion}
use Rattle.command_line.specs.declared.subcommand.Counting.{Counting}
use Rattle.command_line.specs.declared.subcommand.Asked.{Asked}
use Rattle.command_line.specs.declared.subcommand.Asked.TheVariants.{Session, Explanation}
use Rattle.command_line.specs.declared.subcommand.Subcommand.TheVariants.{Asm, Dis, Run, Figures}
use Rattle.command_line.specs.declared.subcommand.Task.{Task}
use Rattle.command_line.specs.declared.subcommand.Task.TheVariants.{Scenario, Debug}
use Rattle.command_line.specs.Sharing.{SharingValue}
use Rattle.command_line.specs.Subcommand.{asked_word, sharing_of, counting_of}
use Rattle.command_line.specs.Wishes.{is_true, wishes_by}
use Rattle.command_line.specs.declared.subcommand.Wishes.{Wishes}

-- the program without its subcommands: it has a version and wants a subcommand
abbrev pub top_program : App
top_program = record { top = record (new_shape (codes "tcpsim")) { has_version = true; disable_help_subcommand = true; subcommand_required = true }; subs = [] }

-- a word that stands alone, an option with a value, and a flag
abbrev pub word_rule : List ℕ → Rule
word_rule id = record (new_rule id) { value_names = 1 }

abbrev pub text_rule : List ℕ → Rule
text_rule id = record (new_rule id) { long = Some id; value_names = 1 }

abbrev pub flag_rule : List ℕ → Rule
flag_rule id = record (new_rule id) { long = Some id; action = Some SetTrue }

-- `--workers N`: a number from 1 to 64, and 1 where it is left out
abbrev pub workers_rule : Rule
workers_rule = record (new_rule (codes "workers")) { long = Some (codes "workers"); value_names = 1; defaults = codes "1" ∷ []; parser = Some (Unsigned 1 64) }

-- `--groups G`: any text, and `one` where it is left out
abbrev pub groups_rule : Rule
groups_rule = record (new_rule (codes "groups")) { long = Some (codes "groups"); value_names = 1; defaults = codes "one" ∷ [] }

-- FILE: any text
abbrev pub file_rule : Rule
file_rule = word_rule (codes "file")

-- `--progress`: a flag
abbrev pub progress_rule : Rule
progress_rule = flag_rule (codes "progress")

-- `--explain`: a flag
abbrev pub explain_rule : Rule
explain_rule = flag_rule (codes "explain")

-- `--from T`: any text; whether it is a moment is judged later
abbrev pub from_rule : Rule
from_rule = text_rule (codes "from")

-- `--every D`: any text; whether it is a time is judged later
abbrev pub every_rule : Rule
every_rule = text_rule (codes "every")

-- `--series`: a flag
abbrev pub series_rule : Rule
series_rule = flag_rule (codes "series")

-- `--names`: a flag
abbrev pub names_rule : Rule
names_rule = flag_rule (codes "names")

-- CODE: any text; whether it is a code is judged later
abbrev pub code_rule : Rule
code_rule = word_rule (codes "code")

-- a subcommand that takes a file and the flag of why
abbrev pub file_shape : List ℕ → Shape
file_shape name = record (new_shape name) { rules = file_rule ∷ explain_rule ∷ [] }

-- a subcommand that takes a moment, a step, a file and four flags
abbrev pub figures_shape : List ℕ → Shape
figures_shape name = record (new_shape name) { rules = from_rule ∷ every_rule ∷ series_rule ∷ names_rule ∷ file_rule ∷ progress_rule ∷ explain_rule ∷ [] }

-- a subcommand that takes both options
abbrev pub sharing_shape : List ℕ → Shape
sharing_shape name = record (new_shape name) { rules = workers_rule ∷ groups_rule ∷ [] }

-- a subcommand that takes both options, a file and the flag of why
abbrev pub debug_shape : List ℕ → Shape
debug_shape name = record (new_shape name) { rules = workers_rule ∷ groups_rule ∷ file_rule ∷ explain_rule ∷ [] }

-- a subcommand that takes both options, a file and both flags
abbrev pub run_shape : List ℕ → Shape
run_shape name = record (new_shape name) { rules = workers_rule ∷ groups_rule ∷ file_rule ∷ progress_rule ∷ explain_rule ∷ [] }

-- a subcommand that takes a code
abbrev pub code_shape : List ℕ → Shape
code_shape name = record (new_shape name) { rules = code_rule ∷ [] }

-- a command has this shape, and no argument that its subcommands would take over
pub record IsBelow (shape : Shape) (command : Command) : Type 0 where
  pub is_shape : shape_of command ≡ shape
  pub no_globals : (fields_of command).has_globals ≡ false

-- the program without the subcommand that takes a code
abbrev pub sessions_program : App
sessions_program = with_subcommand (with_subcommand (with_subcommand (with_subcommand (with_subcommand top_program (file_shape (codes "asm"))) (file_shape (codes "dis"))) (run_shape (codes "run"))) (figures_shape (codes "figures"))) (debug_shape (codes "debug"))

-- the program with its subcommands: two that take a file, one that is shared out and told of as well, one that is told of and takes a moment, one that is shared out, and one that takes a code
abbrev pub program : App
program = with_subcommand sessions_program (code_shape (codes "explain"))

-- the kinds of fault that the words have, none where they ask for a subcommand
abbrev pub word_faults : List (List ℕ) → Kinds
word_faults words = fault_of program words

-- the word by which the words name a subcommand
abbrev pub named_word : List (List ℕ) → Option (List ℕ)
named_word words = option_map (λ named. named.0) (subcommand_of program words)

-- the text that the words give to an option of the subcommand that they name, or else its default
abbrev pub option_text : List ℕ → List (List ℕ) → Option (List ℕ)
option_text id words = option_and_then (λ named. first_of id named.1) (subcommand_of program words)

-- the number that a text of decimal digits has, with a plus before them or none
abbrev pub number_of : List ℕ → ℕ
number_of text = digits_value 10 (without_leading_plus text)

-- the words give the options of what is shared out
pub record Give (words : List (List ℕ)) (sharing : SharingValue) : Type 0 where
  pub workers : option_map number_of (option_text (codes "workers") words) ≡ Some sharing.workers
  pub groups : option_text (codes "groups") words ≡ Some sharing.groups

-- the words give the options of figures
pub record GiveCounting (words : List (List ℕ)) (counting : Counting) : Type 0 where
  pub from : option_text (codes "from") words ≡ counting.from
  pub every : option_text (codes "every") words ≡ counting.every
  pub series : is_true (option_text (codes "series") words) ≡ counting.series
  pub names : is_true (option_text (codes "names") words) ≡ counting.names

-- the words give the options of a session where it is shared out, which figures are written, its file, and what is wished beside; or a code
abbrev pub GiveAll : List (List ℕ) → Asked → Type 0
GiveAll words (Session task file wishes) = IfSome (sharing_of task) (Give words) × IfSome (counting_of task) (GiveCounting words) × (option_text (codes "file") words ≡ file) × (wishes_by (λ flag. option_text flag words) ≡ wishes)
GiveAll words (Explanation code) = option_text (codes "code") words ≡ code

-- the words have no fault, name this subcommand, and give what belongs to it
pub record AskFor (words : List (List ℕ)) (asked : Asked) : Type 0 where
  pub faultless : word_faults words ≡ []
  pub named : named_word words ≡ Some (asked_word asked)
  pub given : GiveAll words asked

-- words without a fault ask for a subcommand, and for no other
pub record AskForOne (words : List (List ℕ)) : Type 0 where
  pub some : word_faults words ≡ [] → (asked : Asked) × AskFor words asked
  pub only : (one other : Asked) → AskFor words one → AskFor words other → one ≡ other

-- all words without a fault ask for one subcommand
abbrev pub WordsAskForOne : Type 0
WordsAskForOne = (words : List (List ℕ)) → AskForOne words

-- one worker, and all nodes in one group
abbrev pub one_worker_one_group : SharingValue
one_worker_one_group = record { workers = 1; groups = codes "one" }

-- three workers, and the groups of two nodes
abbrev pub shared : SharingValue
shared = record { workers = 3; groups = codes "0,1" }

-- the table from time 0 on, the same from 1.5 s on, and rows by time alone, with names
abbrev pub plain_counting : Counting
plain_counting = record { from = None; every = None; series = false; names = false }

abbrev pub later_counting : Counting
later_counting = record { from = Some (codes "1.5s"); every = None; series = false; names = false }

abbrev pub series_counting : Counting
series_counting = record { from = None; every = Some (codes "10ms"); series = true; names = true }

-- nothing is wished beside the output, and to be told how far a run is
abbrev pub no_wishes : Wishes
no_wishes = record { progress = false; explain = false }

abbrev pub reported : Wishes
reported = record { progress = true; explain = false }

-- to be shown why an input is refused
abbrev pub explain_asked : Wishes
explain_asked = record { progress = false; explain = true }

-- a session of standard input, where no file is named
abbrev pub of_input : Task → Asked
of_input task = Session task None no_wishes

-- the words `tcpsim asm`, `tcpsim dis`, `tcpsim run`, `tcpsim figures`, `tcpsim debug` and `tcpsim explain` ask for their subcommands; options may come in any order, behind `=` or as a word of their own, and before a file or behind it
pub record WordsOfSubcommands : Type 0 where
  pub asm : AskFor (codes "tcpsim" ∷ codes "asm" ∷ []) (of_input (Scenario Asm))
  pub dis : AskFor (codes "tcpsim" ∷ codes "dis" ∷ []) (of_input (Scenario Dis))
  pub run : AskFor (codes "tcpsim" ∷ codes "run" ∷ []) (of_input (Scenario (Run one_worker_one_group)))
  pub run_shared : AskFor (codes "tcpsim" ∷ codes "run" ∷ codes "--workers" ∷ codes "3" ∷ codes "--groups=0,1" ∷ []) (of_input (Scenario (Run shared)))
  pub debug : AskFor (codes "tcpsim" ∷ codes "debug" ∷ []) (of_input (Debug one_worker_one_group))
  pub debug_shared : AskFor (codes "tcpsim" ∷ codes "debug" ∷ codes "--groups" ∷ codes "0,1" ∷ codes "--workers=+3" ∷ []) (of_input (Debug shared))
  pub debug_file : AskFor (codes "tcpsim" ∷ codes "debug" ∷ codes "a.txt" ∷ codes "--workers=3" ∷ codes "--groups=0,1" ∷ []) (Session (Debug shared) (Some (codes "a.txt")) no_wishes)
  pub debug_dash : AskFor (codes "tcpsim" ∷ codes "debug" ∷ codes "-" ∷ []) (Session (Debug one_worker_one_group) (Some (codes "-")) no_wishes)
  pub debug_shown : AskFor (codes "tcpsim" ∷ codes "debug" ∷ codes "--explain" ∷ codes "a.txt" ∷ []) (Session (Debug one_worker_one_group) (Some (codes "a.txt")) explain_asked)
  pub asm_file : AskFor (codes "tcpsim" ∷ codes "asm" ∷ codes "a.txt" ∷ []) (Session (Scenario Asm) (Some (codes "a.txt")) no_wishes)
  pub dis_file : AskFor (codes "tcpsim" ∷ codes "dis" ∷ codes "-" ∷ []) (Session (Scenario Dis) (Some (codes "-")) no_wishes)
  pub run_file : AskFor (codes "tcpsim" ∷ codes "run" ∷ codes "--workers" ∷ codes "3" ∷ codes "a.txt" ∷ codes "--groups=0,1" ∷ []) (Session (Scenario (Run shared)) (Some (codes "a.txt")) no_wishes)
  pub run_dashes : AskFor (codes "tcpsim" ∷ codes "run" ∷ codes "--" ∷ codes "--workers" ∷ []) (Session (Scenario (Run one_worker_one_group)) (Some (codes "--workers")) no_wishes)
  pub run_reported : AskFor (codes "tcpsim" ∷ codes "run" ∷ codes "--progress" ∷ codes "a.txt" ∷ []) (Session (Scenario (Run one_worker_one_group)) (Some (codes "a.txt")) reported)
  pub figures : AskFor (codes "tcpsim" ∷ codes "figures" ∷ []) (of_input (Scenario (Figures plain_counting)))
  pub figures_reported : AskFor (codes "tcpsim" ∷ codes "figures" ∷ codes "--progress" ∷ codes "a.txt" ∷ []) (Session (Scenario (Figures plain_counting)) (Some (codes "a.txt")) reported)
  pub figures_from : AskFor (codes "tcpsim" ∷ codes "figures" ∷ codes "--from" ∷ codes "1.5s" ∷ codes "a.txt" ∷ []) (Session (Scenario (Figures later_counting)) (Some (codes "a.txt")) no_wishes)
  pub figures_by_time : AskFor (codes "tcpsim" ∷ codes "figures" ∷ codes "--series" ∷ codes "--every=10ms" ∷ codes "a.txt" ∷ codes "--names" ∷ []) (Session (Scenario (Figures series_counting)) (Some (codes "a.txt")) no_wishes)
  pub asm_shown : AskFor (codes "tcpsim" ∷ codes "asm" ∷ codes "a.txt" ∷ codes "--explain" ∷ []) (Session (Scenario Asm) (Some (codes "a.txt")) explain_asked)
  pub explain : AskFor (codes "tcpsim" ∷ codes "explain" ∷ []) (Explanation None)
  pub explain_code : AskFor (codes "tcpsim" ∷ codes "explain" ∷ codes "E4" ∷ []) (Explanation (Some (codes "E4")))

-- a text is to be shown, and nothing is wrong
abbrev pub IsRequest : ErrorKind → Type 0
IsRequest kind = (kind ≡ DisplayHelp) ⊎ (kind ≡ DisplayVersion)

-- the words ask for the help or the version
abbrev pub AskForText : List (List ℕ) → Type 0
AskForText words = (kind : ErrorKind) × (word_faults words ≡ kind ∷ []) × IsRequest kind

-- the words have a fault, and ask for nothing to be shown
pub record AreMistaken (words : List (List ℕ)) : Type 0 where
  pub faulty : word_faults words ≢ []
  pub no_request : (kind : ErrorKind) → IsRequest kind → ¬ IsAmong kind (word_faults words)

-- words ask for a subcommand, are mistaken or ask for a text, and are but one of these
pub record HaveOneAnswer (words : List (List ℕ)) : Type 0 where
  pub some : ((asked : Asked) × AskFor words asked) ⊎ (AreMistaken words ⊎ AskForText words)
  pub not_mistaken : (asked : Asked) → AskFor words asked → ¬ AreMistaken words
  pub not_shown : (asked : Asked) → AskFor words asked → ¬ AskForText words
  pub no_request : AreMistaken words → ¬ AskForText words

-- all words have one answer
abbrev pub WordsHaveOneAnswer : Type 0
WordsHaveOneAnswer = (words : List (List ℕ)) → HaveOneAnswer words

-- `--help`, of the program and of each subcommand, and `--version` ask for a text
pub record WordsOfText : Type 0 where
  pub help : AskForText (codes "tcpsim" ∷ codes "--help" ∷ [])
  pub asm_help : AskForText (codes "tcpsim" ∷ codes "asm" ∷ codes "--help" ∷ [])
  pub dis_help : AskForText (codes "tcpsim" ∷ codes "dis" ∷ codes "--help" ∷ [])
  pub run_help : AskForText (codes "tcpsim" ∷ codes "run" ∷ codes "--help" ∷ [])
  pub figures_help : AskForText (codes "tcpsim" ∷ codes "figures" ∷ codes "--help" ∷ [])
  pub debug_help : AskForText (codes "tcpsim" ∷ codes "debug" ∷ codes "--help" ∷ [])
  pub explain_help : AskForText (codes "tcpsim" ∷ codes "explain" ∷ codes "--help" ∷ [])
  pub version : AskForText (codes "tcpsim" ∷ codes "--version" ∷ [])

-- mistaken are the program's name alone, a second file, also one of `debug`, workers below 1 or above 64, an option of `asm` or of `figures` that only a run has, the flag of how far a run is behind `debug`, and a second code
pub record WordsOfMistake : Type 0 where
  pub nothing_else : AreMistaken (codes "tcpsim" ∷ [])
  pub two_files : AreMistaken (codes "tcpsim" ∷ codes "run" ∷ codes "once" ∷ codes "twice" ∷ [])
  pub debug_files : AreMistaken (codes "tcpsim" ∷ codes "debug" ∷ codes "a.txt" ∷ codes "b.txt" ∷ [])
  pub no_worker : AreMistaken (codes "tcpsim" ∷ codes "run" ∷ codes "--workers" ∷ codes "0" ∷ [])
  pub many_workers : AreMistaken (codes "tcpsim" ∷ codes "debug" ∷ codes "--workers" ∷ codes "65" ∷ [])
  pub asm_is_not_shared : AreMistaken (codes "tcpsim" ∷ codes "asm" ∷ codes "--groups" ∷ codes "one" ∷ [])
  pub figures_are_not_shared : AreMistaken (codes "tcpsim" ∷ codes "figures" ∷ codes "--workers" ∷ codes "2" ∷ [])
  pub debug_is_not_reported : AreMistaken (codes "tcpsim" ∷ codes "debug" ∷ codes "--progress" ∷ [])
  pub two_codes : AreMistaken (codes "tcpsim" ∷ codes "explain" ∷ codes "E1" ∷ codes "E2" ∷ [])
