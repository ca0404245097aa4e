-- A text of spelt statements is read line by line and word by word as it was spelt.
use Rattle.std.proofs.Common.{◌≡◌, ◌<◌, ℕ, ◌==◌, ◌||◌, not, Bool, true, false, List, [], ◌∷◌, ◌++◌, length, filter, ap, ◌∙◌, refl, arith}
use Rattle.std.specs.Prelude.{codes, flat_map}
use Rattle.std.specs.List.{list_all, onto_first}
use Rattle.std.proofs.lemmas.Bool.{and_parts, and_from, eq-eqb, not-true}
use Rattle.std.proofs.lemmas.Bool.Decides.{nat_tests}
use Rattle.std.proofs.lemmas.List.{append-nil}
use Rattle.std.proofs.lemmas.List.Folds.{list_all-append}
use Rattle.scenario_asm.specs.Lines.{Word, pieces, is_printable, without_comment, is_word, words_of}
use Rattle.scenario_asm.specs.Numbers.{is_letter_or_digit}
use Rattle.scenario_asm.specs.Names.{Known}
use Rattle.scenario_asm.specs.Statements.{statement_at, as_said, line_at}
use Rattle.scenario_asm.proofs.Pieces.{one_plus}
use Rattle.scenario_asm.proofs.Words.{suc_not}
use Rattle.scenario_asm.proofs.Decimals.{list_all_weaker}

-- no byte of these is that one
abbrev pub is_free : ℕ → List ℕ → Bool
is_free end bs = list_all (λ b. not (b == end)) bs

onto_piece : (end b : ℕ) (bs piece : List ℕ) (rest : List (List ℕ)) → not (b == end) ≡ true → pieces end bs ≡ piece ∷ rest → pieces end (b ∷ bs) ≡ (b ∷ piece) ∷ rest
onto_piece end b bs piece rest other is = let isn't : (b == end) ≡ false = not-true (b == end) other in simp isn't (ap (onto_first b) is)

same_byte : (b : ℕ) → (b == b) ≡ true
same_byte b = eq-eqb b b refl

-- a piece that a byte ends
pub pieces_word : (end : ℕ) (piece rest : List ℕ) → is_free end piece ≡ true → pieces end (piece ++ end ∷ rest) ≡ piece ∷ pieces end rest
pieces_word end [] rest free = let same = same_byte end in simp same
pieces_word end (b ∷ piece) rest free =
    let parts = and_parts (not (b == end)) (is_free end piece) free in
    onto_piece end b (piece ++ end ∷ rest) piece (pieces end rest) parts.0 (pieces_word end piece rest parts.1)

-- the last piece, which lacks it
pieces_last : (end : ℕ) (piece : List ℕ) → is_free end piece ≡ true → 0 < length piece → pieces end piece ≡ piece ∷ []
pieces_last end [] free some = absurd (omega arith)
pieces_last end (b ∷ []) free some = let isn't : (b == end) ≡ false = not-true (b == end) (and_parts (not (b == end)) true free).0 in simp isn't
pieces_last end (b ∷ c ∷ piece) free some =
    let parts = and_parts (not (b == end)) (is_free end (c ∷ piece)) free in
    onto_piece end b (c ∷ piece) (c ∷ piece) [] parts.0 (pieces_last end (c ∷ piece) parts.1 (omega arith))

-- words of small letters and digits
pub record IsPlain (word : Word) : Type 0 where
  pub some : 0 < length word
  pub fits : list_all is_letter_or_digit word ≡ true

abbrev pub ArePlain : List Word → Type 0
ArePlain [] = Unit {0}
ArePlain (word ∷ words) = IsPlain word × ArePlain words

-- words with a space between two of them
abbrev pub joined : Word → List Word → List ℕ
joined word words = word ++ flat_map (λ next. codes " " ++ next) words

-- a small letter, a digit or a space
abbrev is_line_byte : ℕ → Bool
is_line_byte b = is_letter_or_digit b || (b == 32)

fits_free : (b : ℕ) → is_letter_or_digit b ≡ true → not (b == 32) ≡ true
fits_free b is = grind (arith, nat_tests)

fits_line : (b : ℕ) → is_letter_or_digit b ≡ true → is_line_byte b ≡ true
fits_line b is = grind (arith, nat_tests)

line_printable : (b : ℕ) → is_line_byte b ≡ true → is_printable b ≡ true
line_printable b is = grind (arith, nat_tests)

line_no_comment : (b : ℕ) → is_line_byte b ≡ true → not (b == 35) ≡ true
line_no_comment b is = grind (arith, nat_tests)

line_no_end : (b : ℕ) → is_line_byte b ≡ true → not (b == 10) ≡ true
line_no_end b is = grind (arith, nat_tests)

plain_free : (word : Word) → IsPlain word → is_free 32 word ≡ true
plain_free word plain = list_all_weaker is_letter_or_digit (λ b. not (b == 32)) fits_free word plain.fits

plain_line : (word : Word) → IsPlain word → list_all is_line_byte word ≡ true
plain_line word plain = list_all_weaker is_letter_or_digit is_line_byte fits_line word plain.fits

joined_line : (word : Word) (words : List Word) → IsPlain word → ArePlain words → list_all is_line_byte (joined word words) ≡ true
joined_line word [] plain rest = list_all-append is_line_byte word [] ∙ and_from _ true (plain_line word plain) refl
joined_line word (next ∷ words) plain rest =
    list_all-append is_line_byte word (32 ∷ joined next words)
    ∙ and_from (list_all is_line_byte word) _ (plain_line word plain) (joined_line next words rest.0 rest.1)

joined_pieces : (word : Word) (words : List Word) → IsPlain word → ArePlain words → pieces 32 (joined word words) ≡ word ∷ words
joined_pieces word [] plain rest = ap (pieces 32) (append-nil word) ∙ pieces_last 32 word (plain_free word plain) plain.some
joined_pieces word (next ∷ words) plain rest = pieces_word 32 word (joined next words) (plain_free word plain) ∙ ap (λ l. word ∷ l) (joined_pieces next words rest.0 rest.1)

plain_word : (word : Word) → IsPlain word → is_word word ≡ true
plain_word word plain = let some = plain.some in grind (arith, nat_tests)

words_kept : (words : List Word) → ArePlain words → filter is_word words ≡ words
words_kept [] plain = refl
words_kept (word ∷ words) plain = let is = plain_word word plain.0 in simp is (ap (λ l. word ∷ l) (words_kept words plain.1))

no_comment : (bs : List ℕ) → list_all (λ b. not (b == 35)) bs ≡ true → without_comment bs ≡ bs
no_comment [] free = refl
no_comment (b ∷ bs) free =
    let parts = and_parts (not (b == 35)) (is_free 35 bs) free in
    let more : without_comment (b ∷ bs) ≡ b ∷ without_comment bs = let other = parts.0 in simp (other, one_plus) in
    more ∙ ap (λ l. b ∷ l) (no_comment bs parts.1)

-- a line of plain words has these words
joined_words : (word : Word) (words : List Word) → IsPlain word → ArePlain words → words_of (joined word words) ≡ word ∷ words
joined_words word words plain rest =
    let clean = no_comment (joined word words) (list_all_weaker is_line_byte (λ b. not (b == 35)) line_no_comment (joined word words) (joined_line word words plain rest)) in
    ap (λ line. filter is_word (pieces 32 line)) clean ∙ (ap (filter is_word) (joined_pieces word words plain rest) ∙ words_kept (word ∷ words) (plain, rest))

-- no line feed stands in it
pub joined_free : (word : Word) (words : List Word) → IsPlain word → ArePlain words → is_free 10 (joined word words) ≡ true
joined_free word words plain rest = list_all_weaker is_line_byte (λ b. not (b == 10)) line_no_end (joined word words) (joined_line word words plain rest)

words_say : (known : Known) (line : List ℕ) (words : List Word) → words_of line ≡ words → list_all is_printable line ≡ true → (length words == 0) ≡ false → line_at known line ≡ as_said (statement_at known words)
unfolding line_at
words_say known line words is clean some =
    let none : (length (words_of line) == 0) ≡ false = ap (λ l. length l == 0) is ∙ some in
    simp (clean, none) (ap (λ l. as_said (statement_at known l)) is)

-- and says what these words say
pub joined_says : (known : Known) (word : Word) (words : List Word) → IsPlain word → ArePlain words → line_at known (joined word words) ≡ as_said (statement_at known (word ∷ words))
joined_says known word words plain rest =
    words_say known (joined word words) (word ∷ words) (joined_words word words plain rest)
    (list_all_weaker is_line_byte is_printable line_printable (joined word words) (joined_line word words plain rest)) (suc_not (length words))
