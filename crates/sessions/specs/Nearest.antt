-- The nearest name of a command to a word.
use Rattle.std.specs.Prelude.{◌≡◌, ◌<◌, ◌≤◌, ℕ, nat_eq, nat_lt, List, ◌∷◌, ◌++◌, if◌then◌else◌, codes, length, Option, None, Some}
use Rattle.std.specs.List.{All}
use Rattle.strsim.specs.Edits.{levenshtein_row}
use Rattle.prompt_words.specs.declared.name.CommandName.{CommandName}
use Rattle.prompt_words.specs.declared.name.CommandName.TheVariants.{Step, Back, Break, Breaks, Run, Reverse, Until, State, Lines, Delete, Clear, Help, Quit, Why, Goto, Where, Names, Display, Undisplay, Stalls}
use Rattle.sessions.specs.declared.nearest.Near.{Near}

-- how a name is spelled
abbrev pub spelling : CommandName → List ℕ
spelling Step = codes "step"
spelling Back = codes "back"
spelling Break = codes "break"
spelling Breaks = codes "breaks"
spelling Run = codes "run"
spelling Reverse = codes "reverse"
spelling Until = codes "until"
spelling State = codes "state"
spelling Lines = codes "lines"
spelling Delete = codes "delete"
spelling Clear = codes "clear"
spelling Help = codes "help"
spelling Quit = codes "quit"
spelling Why = codes "why"
spelling Goto = codes "goto"
spelling Where = codes "where"
spelling Names = codes "names"
spelling Display = codes "display"
spelling Undisplay = codes "undisplay"
spelling Stalls = codes "stalls"

-- how many bytes have to be put in, taken out or replaced until a word is a name
abbrev pub edits_to : List ℕ → CommandName → ℕ
edits_to word name = levenshtein_row nat_eq word (spelling name) (length (spelling name))

abbrev pub with_edits : List ℕ → CommandName → Near
with_edits word name = record { name = name; edits = edits_to word name }

abbrev pub nearer : Option Near → Near → Near
nearer None next = next
nearer (Some found) next = if nat_lt next.edits found.edits then next else found

-- none of the names is nearer to a word, and none before it is as near
pub record IsNearest (word : List ℕ) (names : List CommandName) (found : Near) : Type 0 where
  pub before : List CommandName
  pub behind : List CommandName
  pub among : names ≡ before ++ found.name ∷ behind
  pub edits : found.edits ≡ edits_to word found.name
  pub first : All (λ other. found.edits < edits_to word other) before
  pub least : All (λ other. found.edits ≤ edits_to word other) behind
