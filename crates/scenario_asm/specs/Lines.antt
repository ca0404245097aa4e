-- The lines of a text, and the words of a line.
use Rattle.std.specs.Prelude.{ℕ, Bool, ◌&&◌, not, ◌==◌, nat_le, List, [], ◌∷◌, length, filter, if◌then◌else◌}
use Rattle.std.specs.List.{before_first, onto_first}

-- a word is its bytes
abbrev pub Word : Type 0
Word = List ℕ

-- the pieces that a byte ends; the last piece may lack it
abbrev pub pieces : ℕ → List ℕ → List (List ℕ)
pieces end [] = []
pieces end (b ∷ bs) = if b == end then [] ∷ pieces end bs else onto_first b (pieces end bs)

-- the lines, each ended by a line feed, which the last may lack
abbrev pub lines_of_text : List ℕ → List (List ℕ)
lines_of_text text = pieces 10 text

-- from a space to a tilde
abbrev pub is_printable : ℕ → Bool
is_printable b = nat_le 32 b && nat_le b 126

-- what stands before the first number sign
abbrev pub without_comment : List ℕ → List ℕ
without_comment line = before_first (λ b. b == 35) line

-- not nothing
abbrev pub is_word : List ℕ → Bool
is_word bytes = not (length bytes == 0)

-- what stands between spaces, the comment left out
abbrev pub words_of : List ℕ → List Word
words_of line = filter is_word (pieces 32 (without_comment line))
