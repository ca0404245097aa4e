-- Signs of conditions on values, at which the words behind `break` are parted.
use Rattle.std.specs.Prelude.{ℕ, ◌+◌, ◌==◌, ◌&&◌, ◌||◌, Bool, false, not, if◌then◌else◌, List, [], ◌∷◌, ◌++◌, codes, Option, None, Some}
use Rattle.std.specs.List.{flat_map, position_or_len}
use Rattle.std.specs.Str.{bytes_eq}
use Rattle.breakpoints.specs.declared.values.Sign.{Sign}
use Rattle.breakpoints.specs.declared.values.Sign.TheVariants.{Less, AtMost, Greater, AtLeast, Equal}
use Rattle.prompt_words.specs.Grammar.{Word}

-- `<`, `=` or `>`
abbrev pub is_sign : ℕ → Bool
is_sign b = b == 60 || (b == 61 || b == 62)

-- a byte belongs to the part behind it: where neither is of a sign, and where they are `<=` or `>=`
abbrev pub belongs : ℕ → Word → Bool
belongs b [] = false
belongs b (c ∷ cs) = if is_sign b then not (b == 61) && c == 61 else not (is_sign c)

abbrev pub with_byte : ℕ → List Word → List Word
with_byte b [] = (b ∷ []) ∷ []
with_byte b (part ∷ parts) = if belongs b part then (b ∷ part) ∷ parts else (b ∷ []) ∷ part ∷ parts

-- the parts of a word: `cwnd<=3000` has three
abbrev pub parts_of_word : Word → List Word
parts_of_word [] = []
parts_of_word (b ∷ bs) = with_byte b (parts_of_word bs)

-- those of all words
abbrev pub parts_in : List Word → List Word
parts_in words = flat_map parts_of_word words

-- those of a word, and of the words behind it
abbrev pub parts_from : Word → List Word → List Word
parts_from word words = parts_of_word word ++ parts_in words

-- how many bytes a sign has that begins with a byte
abbrev pub sign_length : ℕ → Word → ℕ
sign_length b [] = 1
sign_length b (c ∷ cs) = if not (b == 61) && c == 61 then 2 else 1

-- how many bytes the first part of a word has
abbrev pub first_length : Word → ℕ
first_length [] = 0
first_length (b ∷ bs) = if is_sign b then sign_length b bs else 1 + position_or_len is_sign bs

abbrev pub sign_named : Word → Option Sign
sign_named word =
    if bytes_eq word (codes "<") then Some Less
    else (if bytes_eq word (codes "<=") then Some AtMost
    else (if bytes_eq word (codes ">") then Some Greater
    else (if bytes_eq word (codes ">=") then Some AtLeast
    else (if bytes_eq word (codes "=") then Some Equal
    else None))))

abbrev pub sign_text : Sign → List ℕ
sign_text Less = codes "<"
sign_text AtMost = codes "<="
sign_text Greater = codes ">"
sign_text AtLeast = codes ">="
sign_text Equal = codes "="
