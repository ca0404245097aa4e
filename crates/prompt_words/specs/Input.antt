-- A session's input: a scenario text, and the commands behind it.
use Rattle.std.specs.Prelude.{ℕ, ◌+◌, Bool, not, List, length, drop, filter, take_while, codes}
use Rattle.std.specs.Str.{bytes_eq}
use Rattle.scenario_asm.specs.Lines.{pieces, lines_of_text, is_word}

-- the line that ends the scenario text
abbrev pub is_marker : List ℕ → Bool
is_marker line = bytes_eq line (codes "---")

-- the lines before the first such line
abbrev pub text_lines : List ℕ → List (List ℕ)
text_lines input = take_while (λ line. not (is_marker line)) (lines_of_text input)

-- the lines behind it
abbrev pub command_lines : List ℕ → List (List ℕ)
command_lines input = drop (length (text_lines input) + 1) (lines_of_text input)

-- what stands between spaces
abbrev pub words_in : List ℕ → List (List ℕ)
words_in line = filter is_word (pieces 32 line)
