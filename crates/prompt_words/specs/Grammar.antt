-- The commands, and which refusals their words meet.
use Rattle.std.specs.Prelude.{ℕ, ◌&&◌, nat_lt, if◌then◌else◌, List, [], ◌∷◌, codes, Option, None, Some, ok_or, Result, Ok, Err}
use Rattle.std.specs.Str.{bytes_eq}
use Rattle.scenario_asm.specs.Numbers.{is_numeral, number}
use Rattle.breakpoints.specs.declared.breaks.EventKind.{EventKind}
use Rattle.breakpoints.specs.declared.breaks.EventKind.TheVariants.{Start, Rto, DelAck, Free, Data, Ack}
use Rattle.breakpoints.specs.declared.breaks.Condition.{Condition}
use Rattle.breakpoints.specs.declared.breaks.Condition.TheVariants.{Node, Flow, Kind, Drop}
use Rattle.breakpoints.specs.Breaks.{asking, asks_nothing}
use Rattle.prompt_words.specs.declared.command.Command.{Command}
use Rattle.prompt_words.specs.declared.command.Command.TheVariants.{Go, State, SetBreak, Clear}
use Rattle.prompt_words.specs.declared.command.Limits.{Limits}
use Rattle.prompt_words.specs.declared.command.Move.TheVariants.{Step, Back, Run, Until}
use Rattle.prompt_words.specs.declared.refusal.Refusal.{Refusal}
use Rattle.prompt_words.specs.declared.refusal.Refusal.TheVariants.{B1, B2, B3}
use Rattle.prompt_words.specs.Input.{words_in}
use Rattle.prompt_words.specs.Refusals.{read_to}

abbrev pub Word : Type 0
Word = List ℕ

-- a command, or why there is none
abbrev pub Reading : Type 0
Reading = Result Command Refusal

-- the number below a bound that a word is
abbrev pub number_below : ℕ → Word → Option ℕ
number_below bound word = if is_numeral word && nat_lt (number word) bound then Some (number word) else None

-- what the only word means
abbrev pub only : {X : Type 0} → (Word → Result X Refusal) → List Word → Result X Refusal
only means [] = Err B2
only means (word ∷ []) = means word
only means (first ∷ second ∷ more) = Err B2

abbrev pub one_number : ℕ → List Word → Result ℕ Refusal
one_number bound words = only (λ word. ok_or (number_below bound word) B3) words

-- how many events or nanoseconds: at most 10^15
abbrev pub amount : (ℕ → Command) → List Word → Reading
amount make words = read_to make (one_number 1000000000000001 words)

-- no word
abbrev pub no_word_left : Command → List Word → Reading
no_word_left command [] = Ok command
no_word_left command (word ∷ words) = Err B2

-- the kinds of events, by the names that the trace gives them
abbrev pub kind_named : Word → Option EventKind
kind_named word =
    if bytes_eq word (codes "start") then Some Start
    else (if bytes_eq word (codes "rto") then Some Rto
    else (if bytes_eq word (codes "delack") then Some DelAck
    else (if bytes_eq word (codes "free") then Some Free
    else (if bytes_eq word (codes "data") then Some Data
    else (if bytes_eq word (codes "ack") then Some Ack
    else None)))))

-- a breakpoint of one condition
abbrev pub sets : Condition → Command
sets condition = SetBreak (asking asks_nothing condition)

-- one word that is a kind
abbrev pub one_kind : List Word → Reading
one_kind words = read_to (λ kind. sets (Kind kind)) (only (λ word. ok_or (kind_named word) B3) words)

-- the words behind `break`: one sort, and what it takes
abbrev pub breakpoint : Limits → List Word → Reading
breakpoint limits [] = Err B2
breakpoint limits (sort ∷ words) =
    if bytes_eq sort (codes "node") then read_to (λ n. sets (Node n)) (one_number limits.nodes words)
    else (if bytes_eq sort (codes "flow") then read_to (λ n. sets (Flow n)) (one_number limits.flows words)
    else (if bytes_eq sort (codes "kind") then one_kind words
    else (if bytes_eq sort (codes "drop") then no_word_left (sets Drop) words
    else Err B1)))

-- a command by its name and the words behind it
abbrev pub command_named : Limits → Word → List Word → Reading
command_named limits name words =
    if bytes_eq name (codes "step") then amount (λ n. Go (Step n)) words
    else (if bytes_eq name (codes "back") then amount (λ n. Go (Back n)) words
    else (if bytes_eq name (codes "until") then amount (λ n. Go (Until n)) words
    else (if bytes_eq name (codes "run") then no_word_left (Go Run) words
    else (if bytes_eq name (codes "state") then no_word_left State words
    else (if bytes_eq name (codes "break") then breakpoint limits words
    else (if bytes_eq name (codes "clear") then no_word_left Clear words
    else Err B1))))))

-- nothing where there are no words
abbrev pub reading_of : Limits → List Word → Option Reading
reading_of limits [] = None
reading_of limits (name ∷ words) = Some (command_named limits name words)

-- what a line says
abbrev pub reading : Limits → List ℕ → Option Reading
reading limits line = reading_of limits (words_in line)
