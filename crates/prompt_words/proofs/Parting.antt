-- The first part of a word that is parted at signs.
use Rattle.std.proofs.Common.{◌≡◌, ◌<◌, ◌+◌, ◌==◌, ◌&&◌, ◌∙◌, ℕ, Bool, true, false, not, List, [], ◌∷◌, length, take, drop, suc, refl, sym, ap, arith, cond, if◌then◌else◌, ⊎_elim, Some, None, ◌≤◌}
use Rattle.std.proofs.lemmas.Bool.{cases_lt}
use Rattle.std.proofs.lemmas.Bool.Decides.{nat_tests}
use Rattle.std.proofs.lemmas.List.Sums.{prefix_len-le-length}
use Rattle.std.proofs.lemmas.Option.{none-some}
use Rattle.std.specs.List.{position, position_or_len}
use borrow.Author.Tests.{lt-ltb}
use Rattle.prompt_words.specs.Grammar.{Word}
use Rattle.prompt_words.specs.Signs.{is_sign, belongs, with_byte, parts_of_word, sign_length, first_length}

-- the first part of a word begins with the word's first byte
record Begun (c : ℕ) (parts : List Word) : Type 0 where
  more : Word
  others : List Word
  is : parts ≡ (c ∷ more) ∷ others

with_first : (c : ℕ) (parts : List Word) → Begun c (with_byte c parts)
with_first c [] = record { more = []; others = []; is = refl }
with_first c (part ∷ parts) = elim (belongs c part) as (λ t. Begun c (if t then (c ∷ part) ∷ parts else (c ∷ []) ∷ part ∷ parts)) [
  | true ↦ record { more = part; others = parts; is = refl }
  | false ↦ record { more = []; others = part ∷ parts; is = refl }
]

-- a byte that does not belong to the one behind it stands alone
stands_alone : (b c : ℕ) (cs : Word) → belongs b (c ∷ []) ≡ false → parts_of_word (b ∷ c ∷ cs) ≡ (b ∷ []) ∷ parts_of_word (c ∷ cs)
stands_alone b c cs apart =
    let begun = with_first c (parts_of_word cs) in
    ap (with_byte b) begun.is ∙ ap (λ t. if t then (b ∷ c ∷ begun.more) ∷ begun.others else (b ∷ []) ∷ (c ∷ begun.more) ∷ begun.others) apart ∙ ap (λ ps. (b ∷ []) ∷ ps) (sym begun.is)

equals_alone : (bs : Word) → parts_of_word (61 ∷ bs) ≡ (61 ∷ []) ∷ parts_of_word bs
equals_alone [] = refl
equals_alone (c ∷ cs) = stands_alone 61 c cs refl

-- `<=` and `>=`
two_bytes : (b : ℕ) (bs : Word) → is_sign b ≡ true → (b == 61) ≡ false → parts_of_word (b ∷ 61 ∷ bs) ≡ (b ∷ 61 ∷ []) ∷ parts_of_word bs
two_bytes b bs is other =
    ap (with_byte b) (equals_alone bs)
    ∙ ap (λ t. if (if t then not (b == 61) && true else false) then (b ∷ 61 ∷ []) ∷ parts_of_word bs else (b ∷ []) ∷ (61 ∷ []) ∷ parts_of_word bs) is
    ∙ ap (λ t. if not t && true then (b ∷ 61 ∷ []) ∷ parts_of_word bs else (b ∷ []) ∷ (61 ∷ []) ∷ parts_of_word bs) other

-- bytes up to a sign
plain_bytes : (b : ℕ) (bs : Word) → is_sign b ≡ false → parts_of_word (b ∷ bs) ≡ (b ∷ take (position_or_len is_sign bs) bs) ∷ parts_of_word (drop (position_or_len is_sign bs) bs)
plain_bytes b [] isn't = refl
plain_bytes b (c ∷ cs) isn't =
    let count = position_or_len is_sign cs in
    let part : Bool → ℕ = λ t. cond (not t) (1 + count) 0 in
    let whole : ℕ → List Word = λ n. (b ∷ take n (c ∷ cs)) ∷ parts_of_word (drop n (c ∷ cs)) in
    let goes : belongs b (c ∷ []) ≡ not (is_sign c) = ap (λ t. if t then not (b == 61) && c == 61 else not (is_sign c)) isn't in
    elim (is_sign c) as (λ t. is_sign c ≡ t → parts_of_word (b ∷ c ∷ cs) ≡ whole (part (is_sign c))) [
      | true ↦ λ sign. stands_alone b c cs (goes ∙ ap not sign) ∙ ap (λ t. whole (part t)) (sym sign)
      | false ↦ λ plain.
          let one : 1 + count ≡ suc count = omega arith in
          let first = c ∷ take count cs in
          let rest = parts_of_word (drop count cs) in
          ap (with_byte b) (plain_bytes c cs plain)
          ∙ ap (λ t. if t then (b ∷ first) ∷ rest else (b ∷ []) ∷ first ∷ rest) (goes ∙ ap not plain)
          ∙ ap whole (sym one) ∙ ap (λ t. whole (part t)) (sym plain)
    ] refl

-- what a sign is followed by
of_sign : (b : ℕ) (bs : Word) → is_sign b ≡ true → parts_of_word (b ∷ bs) ≡ take (sign_length b bs) (b ∷ bs) ∷ parts_of_word (drop (sign_length b bs) (b ∷ bs))
of_sign b [] is = refl
of_sign b (c ∷ cs) is =
    let two = not (b == 61) && c == 61 in
    let whole : Bool → List Word = λ t. take (if t then 2 else 1) (b ∷ c ∷ cs) ∷ parts_of_word (drop (if t then 2 else 1) (b ∷ c ∷ cs)) in
    let goes : belongs b (c ∷ []) ≡ two = ap (λ t. if t then not (b == 61) && c == 61 else not (is_sign c)) is in
    elim two as (λ t. two ≡ t → parts_of_word (b ∷ c ∷ cs) ≡ whole two) [
      | true ↦ λ yes.
          let same : c ≡ 61 = grind (arith, nat_tests) in
          let other : (b == 61) ≡ false = grind (arith, nat_tests) in
          ap (λ n. parts_of_word (b ∷ n ∷ cs)) same ∙ two_bytes b cs is other ∙ ap (λ n. (b ∷ n ∷ []) ∷ parts_of_word cs) (sym same) ∙ ap whole (sym yes)
      | false ↦ λ no. stands_alone b c cs (goes ∙ no) ∙ ap whole (sym no)
    ] refl

pub parts_first : (word : Word) → 0 < length word → parts_of_word word ≡ take (first_length word) word ∷ parts_of_word (drop (first_length word) word)
parts_first [] some = absurd (omega (arith, some))
parts_first (b ∷ bs) some =
    let count = position_or_len is_sign bs in
    let part : Bool → ℕ = λ t. if t then sign_length b bs else 1 + count in
    let whole : ℕ → List Word = λ n. take n (b ∷ bs) ∷ parts_of_word (drop n (b ∷ bs)) in
    elim (is_sign b) as (λ t. is_sign b ≡ t → parts_of_word (b ∷ bs) ≡ whole (part (is_sign b))) [
      | true ↦ λ is. of_sign b bs is ∙ ap (λ t. whole (part t)) (sym is)
      | false ↦ λ isn't.
          let one : 1 + count ≡ suc count = omega arith in
          plain_bytes b bs isn't ∙ ap whole (sym one) ∙ ap (λ t. whole (part t)) (sym isn't)
    ] refl

-- a word with no sign
pub no_sign : (word : Word) → position is_sign word ≡ None → length word ≡ position_or_len is_sign word
no_sign word none =
    let place = position_or_len is_sign word in
    ⊎_elim
    (λ (under : place < length word). absurd (none-some place (sym none ∙ ap (λ t. cond t (Some place) None) (lt-ltb place (length word) under))))
    (λ (past : length word ≤ place). omega (arith, past, prefix_len-le-length (λ b. not (is_sign b)) word))
    (cases_lt place (length word))
