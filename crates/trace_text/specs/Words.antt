-- A line of text made of words.
use Rattle.std.specs.Prelude.{ℕ, List, ◌++◌, codes}
use Rattle.std.specs.List.{flat_map, join_by}

-- one space between two words, and LF after the last
abbrev pub line_of_words : List (List ℕ) → List ℕ
line_of_words words = join_by (λ word. word) (codes " ") words ++ codes "\n"

-- words that go on a line: each after a space
abbrev pub spaced_words : List (List ℕ) → List ℕ
spaced_words words = flat_map (λ word. codes " " ++ word) words

-- the same as `++`, grouped to the right, as the pieces of a format are
infixr 65 ◌+++◌
abbrev pub ◌+++◌ : List ℕ → List ℕ → List ℕ
a +++ b = a ++ b
