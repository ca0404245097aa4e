-- The commands that are typed at a prompt, and which refusals their words meet.
use Rattle.std.specs.Prelude.{ℕ, if◌then◌else◌, List, [], ◌∷◌, codes, Option, None, Some, ok_or, Result, Ok, Err, nat_lt, Bool, false, length}
use Rattle.std.specs.Str.{bytes_eq}
use Rattle.scenario_asm.specs.Numbers.{is_numeral}
use Rattle.trace_text.specs.declared.dump.DumpPart.{DumpPart}
use Rattle.trace_text.specs.declared.dump.DumpPart.TheVariants as part
use Rattle.prompt_words.specs.declared.command.Move.{Move}
use Rattle.prompt_words.specs.declared.command.Move.TheVariants.{Step, Back, Run, Reverse, Until, Goto, Moment}
use Rattle.prompt_words.specs.declared.command.Request.{Request}
use Rattle.prompt_words.specs.declared.command.Request.TheVariants.{Command, Display}
use Rattle.prompt_words.specs.declared.command.Typed.{Typed}
use Rattle.prompt_words.specs.declared.command.Shown.{Shown}
use Rattle.prompt_words.specs.declared.command.Shown.TheVariants.{Part, Why, Stalls, Lines, Where, Names, Help, HelpOn}
use Rattle.prompt_words.specs.declared.command.Typed.TheVariants.{Go, State, SetBreak, Delete, Clear, Breaks, Show}
use Rattle.prompt_words.specs.declared.name.CommandName.{CommandName}
use Rattle.prompt_words.specs.declared.name.CommandName.TheVariants as name
use Rattle.prompt_words.specs.declared.naming.Naming.{Naming}
use Rattle.prompt_words.specs.declared.naming.PartSort.TheVariants.{Node, Link, Flow}
use Rattle.prompt_words.specs.declared.refusal.Refusal.{Refusal}
use Rattle.prompt_words.specs.declared.refusal.Refusal.TheVariants.{B1, B2, B3, B5}
use Rattle.prompt_words.specs.Conditions.{break_asked}
use Rattle.prompt_words.specs.declared.display.DisplayCommand.TheVariants.{TakeAway}
use Rattle.prompt_words.specs.DisplayGrammar.{display_asked}
use Rattle.prompt_words.specs.Entries.{begins, name_of, topic_of}
use Rattle.prompt_words.specs.Grammar.{Word, number_below, only, one_number}
use Rattle.prompt_words.specs.Input.{words_in}
use Rattle.prompt_words.specs.Memos.{nothing_known}
use Rattle.prompt_words.specs.Namings.{one_part}
use Rattle.prompt_words.specs.Refusals.{read_to}
use Rattle.prompt_words.specs.Signs.{parts_in}
use Rattle.prompt_words.specs.Times.{moment_in}

-- the number below a bound that is the only word, or the usual one where there is no word
abbrev pub number_or : ℕ → ℕ → List Word → Result ℕ Refusal
number_or usual bound [] = Ok usual
number_or usual bound (word ∷ words) = one_number bound (word ∷ words)

-- the moment that is the only word
abbrev pub one_moment : List Word → Result ℕ Refusal
one_moment words = only (λ word. ok_or (moment_in word) B3) words

-- the number of a breakpoint or a display: there are at most 64
abbrev pub break_number : Word → Result ℕ Refusal
break_number word = if is_numeral word then ok_or (number_below 65 word) B5 else Err B3

abbrev pub one_break_number : List Word → Result ℕ Refusal
one_break_number words = only break_number words

-- what is asked for, or why there is nothing
abbrev pub TypedReading : Type 0
TypedReading = Result Request Refusal

abbrev pub goes : Move → Request
goes move = Command (Go move)

abbrev pub shows : Shown → Request
shows what = Command (Show what)

-- a sort of part, and the one that the only word behind it means
abbrev pub part_asked : Naming → Word → List Word → Result DumpPart Refusal
part_asked naming sort words =
    if bytes_eq sort (codes "node") then read_to part.Node (one_part naming Node words)
    else (if bytes_eq sort (codes "link") then read_to part.Link (one_part naming Link words)
    else (if bytes_eq sort (codes "flow") then read_to part.Flow (one_part naming Flow words)
    else Err B1))

-- the words behind `state`: none, or a part of it
abbrev pub state_asked : Naming → List Word → TypedReading
state_asked naming [] = Ok (Command State)
state_asked naming (sort ∷ words) = read_to (λ part. shows (Part part)) (part_asked naming sort words)

-- of `goto`: a numeral is a position, at most 10^15, and any other word a moment with a unit
abbrev pub target : Word → Result Move Refusal
target word = if is_numeral word then read_to Goto (ok_or (number_below 1000000000000001 word) B3) else read_to Moment (ok_or (moment_in word) B3)

abbrev pub one_target : List Word → Result Move Refusal
one_target words = only target words

-- no word
abbrev pub typed_alone : Typed → List Word → TypedReading
typed_alone asked [] = Ok (Command asked)
typed_alone asked (word ∷ words) = Err B2

-- the words behind `help`: none, or one that begins a name or a topic
abbrev pub help_named : Option ℕ → List Word → TypedReading
help_named None words = Err B1
help_named (Some place) words = typed_alone (Show (HelpOn place)) words

abbrev pub help_asked : List Word → TypedReading
help_asked [] = Ok (shows Help)
help_asked (word ∷ words) = help_named (topic_of word) words

-- a command by its name and the words behind it, where those name no node, link or flow: `quit` has none where it ends the session
abbrev pub plain_typed : CommandName → List Word → TypedReading
plain_typed name.Step words = read_to (λ count. goes (Step count)) (number_or 1 1000000000000001 words)
plain_typed name.Back words = read_to (λ count. goes (Back count)) (number_or 1 1000000000000001 words)
plain_typed name.Breaks words = typed_alone Breaks words
plain_typed name.Run words = typed_alone (Go Run) words
plain_typed name.Reverse words = typed_alone (Go Reverse) words
plain_typed name.Until words = read_to (λ time. goes (Until time)) (one_moment words)
plain_typed name.Lines words = read_to (λ count. shows (Lines count)) (number_or 10 1001 words)
plain_typed name.Delete words = read_to (λ i. Command (Delete i)) (one_break_number words)
plain_typed name.Clear words = typed_alone Clear words
plain_typed name.Help words = help_asked words
plain_typed name.Quit words = Err B2
plain_typed name.Goto words = read_to goes (one_target words)
plain_typed name.Where words = typed_alone (Show (Where nothing_known)) words
plain_typed name.Names words = typed_alone (Show Names) words
plain_typed name.Undisplay words = read_to (λ i. Display (TakeAway i)) (one_break_number words)
plain_typed name.Stalls words = typed_alone (Show Stalls) words
plain_typed other words = Err B1

abbrev pub command_typed : Naming → Option CommandName → List Word → TypedReading
command_typed naming None words = Err B1
command_typed naming (Some name.Break) words = read_to (λ b. Command (SetBreak b)) (break_asked naming (parts_in words))
command_typed naming (Some name.State) words = state_asked naming words
command_typed naming (Some name.Why) words = read_to (λ flow. shows (Why flow)) (one_part naming Flow words)
command_typed naming (Some name.Display) words = read_to Display (display_asked naming words)
command_typed naming (Some other) words = plain_typed other words

-- nothing where there are no words
abbrev pub typed_of : Naming → List Word → Option TypedReading
typed_of naming [] = None
typed_of naming (word ∷ words) = Some (command_typed naming (name_of word) words)

-- what a line says that is typed and doesn't end the session
abbrev pub typed_reading : Naming → List ℕ → Option TypedReading
typed_reading naming line = typed_of naming (words_in line)

-- more bytes than a line may have
abbrev pub is_long : List ℕ → Bool
is_long line = nat_lt 65536 (length line)

-- the one word is `quit`, or begins it, as no other name begins with q
abbrev pub quits : List (List ℕ) → Bool
quits [] = false
quits (word ∷ []) = begins word (codes "quit")
quits (first ∷ second ∷ more) = false

-- the line that ends a session
abbrev pub is_quit : List ℕ → Bool
is_quit line = if is_long line then false else quits (words_in line)
