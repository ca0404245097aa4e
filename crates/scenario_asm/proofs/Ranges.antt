-- Where in a line its words are.
use Rattle.std.proofs.Common.{◌≡◌, ◌<◌, ◌≤◌, ◌^◌, ◌-◌, ℕ, zero, suc, ◌+◌, ◌==◌, Bool, true, false, min, List, [], ◌∷◌, ◌++◌, length, take, drop, filter, get_or, inl, inr, refl, ap, sym, ◌∙◌, arith, append_assoc, length-append, length-drop}
use Rattle.std.specs.List.{before_first, after_first, onto_first, position_or_len}
use Rattle.std.proofs.lemmas.Bool.{cases_Bool}
use Rattle.std.proofs.lemmas.Bool.Decides.{nat_tests}
use Rattle.std.proofs.lemmas.List.{take_all, take_at, drop_at, length-take, append-nil, take-append-drop, get_or_at, get_or_past}
use Rattle.std.proofs.lemmas.List.Elements.{filter-append}
use Rattle.std.proofs.lemmas.List.Sums.{split_at_first, passes_at_first}
use Rattle.scenario_asm.specs.Lines.{pieces, words_of, without_comment, is_word}
use Rattle.scenario_asm.specs.Places.{IsWord}
use Rattle.scenario_asm.proofs.Pieces.{before_more, pieces_no, pieces_first}

-- what a byte ends
abbrev is_space : ℕ → Bool
is_space b = b == 32

-- how many bytes these pieces take, each with the space after it
abbrev pub spread : List (List ℕ) → ℕ
spread [] = 0
spread (piece ∷ pieces) = length piece + 1 + spread pieces

-- these pieces are passed, of which so many are words; the rest is to come
pub record Passed (line : List ℕ) (number start before : ℕ) (rest : List (List ℕ)) : Type 0 where
  pub passed : List (List ℕ)
  pub all : passed ++ rest ≡ pieces 32 (without_comment line)
  pub begins : start ≡ min (spread passed) (2 ^ 64 - 1)
  pub words : before ≡ length (filter is_word passed)
  pub few : before ≤ number

-- a first piece, the space after it and any bytes
pieces_again : (bs zs : List ℕ) → pieces 32 (before_first is_space bs ++ 32 ∷ zs) ≡ before_first is_space bs ∷ pieces 32 zs
pieces_again [] zs = refl
pieces_again (b ∷ bs) zs =
    elim (cases_Bool (b == 32)) [
      | inl is ↦ simp is
      | inr isn't ↦
          let more : before_first is_space (b ∷ bs) ≡ b ∷ before_first is_space bs = before_more is_space b bs isn't in
          let whole : pieces 32 (b ∷ (before_first is_space bs ++ 32 ∷ zs)) ≡ onto_first b (pieces 32 (before_first is_space bs ++ 32 ∷ zs)) = pieces_no 32 b (before_first is_space bs ++ 32 ∷ zs) isn't in
          ap (λ front. pieces 32 (front ++ 32 ∷ zs)) more ∙ (whole ∙ (ap (onto_first b) (pieces_again bs zs) ∙ ap (λ front. front ∷ pieces 32 zs) (sym more)))
    ]

-- bytes that go on after their first piece
split_again : (bs : List ℕ) → 0 < length (after_first is_space bs) → bs ≡ before_first is_space bs ++ 32 ∷ after_first is_space bs
split_again bs some =
    let within : position_or_len is_space bs < length bs = omega (arith, length-drop (position_or_len is_space bs + 1) bs) in
    let is : get_or bs (position_or_len is_space bs) 0 ≡ 32 = let passes = passes_at_first is_space bs 0 within in grind (arith, nat_tests) in
    split_at_first is_space bs 0 within ∙ ap (λ b. before_first is_space bs ++ b ∷ after_first is_space bs) is

-- bytes in front of a piece, the piece, and the bytes behind it
record Cut (bs : List ℕ) (passed : List (List ℕ)) (piece : List ℕ) : Type 0 where
  front : List ℕ
  behind : List ℕ
  parts : bs ≡ front ++ (piece ++ behind)
  wide : length front ≡ spread passed
  same : pieces 32 front ≡ passed

some_pieces : (bs piece : List ℕ) (passed rest : List (List ℕ)) → passed ++ piece ∷ rest ≡ pieces 32 bs → 0 < length bs
some_pieces [] piece [] rest is = absurd (let never : piece ∷ rest ≡ [] = is in cc)
some_pieces [] piece (other ∷ passed) rest is = absurd (let never : other ∷ (passed ++ piece ∷ rest) ≡ [] = is in cc)
some_pieces (b ∷ bs) piece passed rest is = omega arith

first_same : (x y : List ℕ) (xs ys : List (List ℕ)) → x ∷ xs ≡ y ∷ ys → x ≡ y
first_same x y xs ys is = cc

rest_same : (x y : List ℕ) (xs ys : List (List ℕ)) → x ∷ xs ≡ y ∷ ys → xs ≡ ys
rest_same x y xs ys is = cc

cut_at : (bs : List ℕ) (passed : List (List ℕ)) (piece : List ℕ) (rest : List (List ℕ)) → passed ++ piece ∷ rest ≡ pieces 32 bs → Cut bs passed piece
cut_at bs [] piece rest is =
    let first = is ∙ pieces_first 32 bs (some_pieces bs piece [] rest is) in
    let here : piece ≡ before_first is_space bs = first_same _ _ _ _ first in
    record {
      front = [];
      behind = drop (position_or_len is_space bs) bs;
      parts = sym (take-append-drop (position_or_len is_space bs) bs) ∙ ap (λ front. front ++ drop (position_or_len is_space bs) bs) (sym here);
      wide = refl;
      same = refl;
    }
cut_at bs (other ∷ passed) piece rest is =
    let first = is ∙ pieces_first 32 bs (some_pieces bs piece (other ∷ passed) rest is) in
    let here : other ≡ before_first is_space bs = first_same _ _ _ _ first in
    let later : passed ++ piece ∷ rest ≡ pieces 32 (after_first is_space bs) = rest_same _ _ _ _ first in
    let next = cut_at (after_first is_space bs) passed piece rest later in
    let all = split_again bs (some_pieces (after_first is_space bs) piece passed rest later) in
    record {
      front = before_first is_space bs ++ 32 ∷ next.front;
      behind = next.behind;
      parts = all ∙ (ap (λ bytes. before_first is_space bs ++ 32 ∷ bytes) next.parts ∙ sym (append_assoc (before_first is_space bs) (32 ∷ next.front) (piece ++ next.behind)));
      wide = omega (arith, length-append (before_first is_space bs) (32 ∷ next.front), ap length here, next.wide);
      same = pieces_again bs next.front ∙ (ap (λ ps. before_first is_space bs ∷ ps) next.same ∙ ap (λ front. front ∷ passed) (sym here));
    }

-- what stands before a byte, in the front of a list
before_take : (p : ℕ → Bool) (n : ℕ) (bs : List ℕ) → before_first p (take n bs) ≡ take n (before_first p bs)
before_take p zero bs = refl
before_take p (suc n) [] = refl
before_take p (suc n) (b ∷ bs) =
    elim (cases_Bool (p b)) [
      | inl is ↦ simp is
      | inr isn't ↦ before_more p b (take n bs) isn't ∙ (ap (λ front. b ∷ front) (before_take p n bs) ∙ ap (take (suc n)) (sym (before_more p b bs isn't)))
    ]

content_short : (line : List ℕ) → length (without_comment line) ≤ length line
content_short line = omega (arith, length-take (position_or_len (λ b. b == 35) line) line)

next_cut : (line : List ℕ) (passed all : List (List ℕ)) (piece : List ℕ) (rest : List (List ℕ)) → passed ++ all ≡ pieces 32 (without_comment line) → all ≡ piece ∷ rest → Cut (without_comment line) passed piece
next_cut line passed all piece rest so is = cut_at (without_comment line) passed piece rest (ap (λ ps. passed ++ ps) (sym is) ∙ so)

cut_within : (bs : List ℕ) (passed : List (List ℕ)) (piece : List ℕ) → Cut bs passed piece → spread passed + length piece ≤ length bs
cut_within bs passed piece cut = omega (arith, ap length cut.parts, length-append cut.front (piece ++ cut.behind), length-append piece cut.behind, cut.wide)

-- the next piece begins here
piece_start : (line : List ℕ) (number start before : ℕ) (all : List (List ℕ)) (piece : List ℕ) (rest : List (List ℕ)) → (so : Passed line number start before all) → all ≡ piece ∷ rest → length line < 2 ^ 64 → (start ≡ spread so.passed) × (start + length piece ≤ length line)
piece_start line number start before all piece rest so is short =
    let within = cut_within (without_comment line) so.passed piece (next_cut line so.passed all piece rest so.all is) in
    let begins : start ≡ spread so.passed = omega (arith, so.begins, content_short line) in
    (begins, omega (arith, content_short line))

pub piece_within : (line : List ℕ) (number start before : ℕ) (all : List (List ℕ)) (piece : List ℕ) (rest : List (List ℕ)) → Passed line number start before all → all ≡ piece ∷ rest → length line < 2 ^ 64 → start + length piece ≤ length line
piece_within line number start before all piece rest so is short = (piece_start line number start before all piece rest so is short).1

word_first : (piece : List ℕ) (rest : List (List ℕ)) → (length piece == 0) ≡ false → filter is_word (piece ∷ rest) ≡ piece ∷ filter is_word rest
word_first piece rest some = simp some

blank_first : (piece : List ℕ) (rest : List (List ℕ)) → (length piece == 0) ≡ true → filter is_word (piece ∷ rest) ≡ filter is_word rest
blank_first piece rest none = simp none

-- all words, where the next piece is one
words_are : (bs : List ℕ) (passed : List (List ℕ)) (piece : List ℕ) (rest : List (List ℕ)) → passed ++ piece ∷ rest ≡ pieces 32 bs → (length piece == 0) ≡ false → filter is_word (pieces 32 bs) ≡ filter is_word passed ++ piece ∷ filter is_word rest
words_are bs passed piece rest is some =
    ap (filter is_word) (sym is) ∙ (filter-append is_word passed (piece ∷ rest) ∙ ap (λ ws. filter is_word passed ++ ws) (word_first piece rest some))

words_before : (bs : List ℕ) (passed : List (List ℕ)) (piece : List ℕ) (rest : List (List ℕ)) (number : ℕ) → Cut bs passed piece → passed ++ piece ∷ rest ≡ pieces 32 bs → (length piece == 0) ≡ false → length (filter is_word passed) ≡ number → filter is_word (pieces 32 (take (spread passed) bs)) ≡ take number (filter is_word (pieces 32 bs))
words_before bs passed piece rest number cut is some count =
    let front : take (spread passed) bs ≡ cut.front = ap (take (spread passed)) cut.parts ∙ take_at cut.front (piece ++ cut.behind) (spread passed) cut.wide in
    ap (λ b. filter is_word (pieces 32 b)) front
    ∙ (ap (filter is_word) cut.same ∙ sym (ap (take number) (words_are bs passed piece rest is some) ∙ take_at (filter is_word passed) (piece ∷ filter is_word rest) number count))

-- the bytes of a piece, in the line
piece_bytes : (line : List ℕ) (passed : List (List ℕ)) (piece : List ℕ) → Cut (without_comment line) passed piece → take (length piece) (drop (spread passed) line) ≡ piece
piece_bytes line passed piece cut =
    let comment : List ℕ = drop (position_or_len (λ b. b == 35) line) line in
    let parts : line ≡ cut.front ++ (piece ++ (cut.behind ++ comment)) = sym (take-append-drop (position_or_len (λ b. b == 35) line) line)
    ∙ (ap (λ bs. bs ++ comment) cut.parts ∙ (append_assoc cut.front (piece ++ cut.behind) comment ∙ ap (λ bs. cut.front ++ bs) (append_assoc piece cut.behind comment)))
    in
    ap (λ l. take (length piece) (drop (spread passed) l)) parts
    ∙ (ap (take (length piece)) (drop_at cut.front (piece ++ (cut.behind ++ comment)) (spread passed) cut.wide) ∙ take_at piece (cut.behind ++ comment) (length piece) refl)

front_words : (line : List ℕ) (start : ℕ) → words_of (take start line) ≡ filter is_word (pieces 32 (take start (without_comment line)))
front_words line start = ap (λ b. filter is_word (pieces 32 b)) (before_take (λ b. b == 35) start line)

gone : (start long : ℕ) → start + long - start ≡ long
gone start long = omega arith

-- the word that is sought
pub word_here : (line : List ℕ) (number start before end : ℕ) (all : List (List ℕ)) (piece : List ℕ) (rest : List (List ℕ)) → Passed line number start before all → all ≡ piece ∷ rest → length line < 2 ^ 64 → (length piece == 0) ≡ false → before ≡ number → end ≡ start + length piece → IsWord line number start end
word_here line number start before end all piece rest so is short some here ends =
    let begins = (piece_start line number start before all piece rest so is short).0 in
    let cut = next_cut line so.passed all piece rest so.all is in
    let whole : so.passed ++ piece ∷ rest ≡ pieces 32 (without_comment line) = ap (λ ps. so.passed ++ ps) (sym is) ∙ so.all in
    let count : length (filter is_word so.passed) ≡ number = sym so.words ∙ here in
    record {
      before = front_words line start
          ∙ (ap (λ s. filter is_word (pieces 32 (take s (without_comment line)))) begins ∙ words_before (without_comment line) so.passed piece rest number cut whole some count);
      bytes = ap (λ e. take (e - start) (drop start line)) ends
          ∙ (ap (λ n. take n (drop start line)) (gone start (length piece))
          ∙ (ap (λ s. take (length piece) (drop s line)) begins
          ∙ (piece_bytes line so.passed piece cut
          ∙ sym (ap (λ ws. get_or ws number []) (words_are (without_comment line) so.passed piece rest whole some) ∙ get_or_at (filter is_word so.passed) piece (filter is_word rest) [] number count))));
    }

spread_push : (passed : List (List ℕ)) (piece : List ℕ) → spread (passed ++ piece ∷ []) ≡ spread passed + length piece + 1
spread_push [] piece = omega arith
spread_push (other ∷ passed) piece = omega (arith, spread_push passed piece)

-- after one more piece
passed_next : (line : List ℕ) (number start before next after : ℕ) (all : List (List ℕ)) (piece : List ℕ) (rest : List (List ℕ)) → (so : Passed line number start before all) → all ≡ piece ∷ rest → length line < 2 ^ 64 → next ≡ min (start + length piece + 1) (2 ^ 64 - 1) → after ≡ before + length (filter is_word (piece ∷ [])) → after ≤ number → Passed line number next after rest
passed_next line number start before next after all piece rest so is short more count few =
    let begins = (piece_start line number start before all piece rest so is short).0 in
    record {
      passed = so.passed ++ piece ∷ [];
      all = append_assoc so.passed (piece ∷ []) rest ∙ (ap (λ ps. so.passed ++ ps) (sym is) ∙ so.all);
      begins = omega (arith, more, begins, spread_push so.passed piece);
      words = omega (arith, count, so.words, ap length (filter-append is_word so.passed (piece ∷ [])), length-append (filter is_word so.passed) (filter is_word (piece ∷ [])));
      few = few;
    }

pub passed_word : (line : List ℕ) (number start before next after : ℕ) (all : List (List ℕ)) (piece : List ℕ) (rest : List (List ℕ)) → Passed line number start before all → all ≡ piece ∷ rest → length line < 2 ^ 64 → next ≡ min (start + length piece + 1) (2 ^ 64 - 1) → (length piece == 0) ≡ false → (before ≡ number → ⊥) → after ≡ before + 1 → Passed line number next after rest
passed_word line number start before next after all piece rest so is short more some other then =
    passed_next line number start before next after all piece rest so is short more (omega (arith, ap length (word_first piece [] some))) (omega (arith, so.few, other))

pub passed_blank : (line : List ℕ) (number start before next after : ℕ) (all : List (List ℕ)) (piece : List ℕ) (rest : List (List ℕ)) → Passed line number start before all → all ≡ piece ∷ rest → length line < 2 ^ 64 → next ≡ min (start + length piece + 1) (2 ^ 64 - 1) → (length piece == 0) ≡ true → after ≡ before → Passed line number next after rest
passed_blank line number start before next after all piece rest so is short more none same =
    passed_next line number start before next after all piece rest so is short more (omega (arith, ap length (blank_first piece [] none))) (omega (arith, so.few))

-- there are no so many words
pub no_word : (line : List ℕ) (number start before end : ℕ) (rest : List (List ℕ)) → Passed line number start before rest → rest ≡ [] → end ≡ length (without_comment line) → IsWord line number end end
no_word line number start before end rest so none ends =
    let all : so.passed ≡ pieces 32 (without_comment line) = sym (append-nil so.passed) ∙ (ap (λ ps. so.passed ++ ps) (sym none) ∙ so.all) in
    let few : length (words_of line) ≤ number = omega (arith, so.words, so.few, ap (λ ps. length (filter is_word ps)) all) in
    record {
      before = front_words line end ∙ (ap (λ b. filter is_word (pieces 32 b)) (take_all end (without_comment line) (omega arith)) ∙ sym (take_all number (words_of line) few));
      bytes = ap (λ n. take n (drop end line)) (let never : end - end ≡ 0 = omega arith in never) ∙ sym (get_or_past (words_of line) number [] few);
    }
