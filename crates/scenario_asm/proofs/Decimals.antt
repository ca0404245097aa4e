-- Decimal numbers as words, and names that end in one.
use Rattle.std.proofs.Common.{◌≡◌, ◌<◌, ◌≤◌, ◌^◌, ℕ, ◌+◌, ◌==◌, ◌&&◌, not, nat_le, Bool, true, false, List, [], ◌∷◌, ◌++◌, length, get_or, None, inl, inr, ap, ◌∙◌, refl, arith}
use Rattle.std.specs.Prelude.{decimal}
use Rattle.std.specs.List.{list_all}
use Rattle.std.specs.Str.{bytes_eq}
use Rattle.std.proofs.lemmas.Bool.{cases_lt, and_parts, and_from, le-leb, false_from_ne_true}
use Rattle.std.proofs.lemmas.Bool.Decides.{nat_tests}
use Rattle.std.proofs.lemmas.Fmt.{decimal_is_IsNumeral, decimal_by_steps, decimal_digit, decimal_nonempty, first_decimal, length-decimal-le, decimal_injective}
use Rattle.std.proofs.lemmas.List.Folds.{list_all-append}
use Rattle.std.proofs.lemmas.Slice.Eq.{bytes_eq-Decides}
use Rattle.scenario_asm.specs.declared.fault.Fault.{Fault}
use Rattle.scenario_asm.specs.declared.fault.Fault.TheVariants.{E4, E5}
use Rattle.scenario_asm.specs.Numbers.{is_digit, is_small_letter, is_letter_or_digit, is_numeral, is_name, number, number_verdict}
use Rattle.scenario_asm.specs.Verdicts.{first_fault, faulty_unless}

-- a test that is weaker than another passes as well
pub list_all_weaker : (p q : ℕ → Bool) → ((b : ℕ) → p b ≡ true → q b ≡ true) → (bs : List ℕ) → list_all p bs ≡ true → list_all q bs ≡ true
list_all_weaker p q weaker [] all = refl
list_all_weaker p q weaker (b ∷ bs) all =
    let parts = and_parts (p b) (list_all p bs) all in
    and_from (q b) (list_all q bs) (weaker b parts.0) (list_all_weaker p q weaker bs parts.1)

digit_at : (d : ℕ) → d < 10 → is_digit (48 + d) ≡ true
digit_at d small = grind (arith, nat_tests)

one_digit : (n : ℕ) → n < 10 → list_all is_digit ((48 + n) ∷ []) ≡ true
one_digit n small = and_from (is_digit (48 + n)) true (digit_at n small) refl

more_digits : (n : ℕ) (ds : List ℕ) → n < 10 → list_all is_digit ds ≡ true → list_all is_digit (ds ++ ((48 + n) ∷ [])) ≡ true
more_digits n ds small all = list_all-append is_digit ds ((48 + n) ∷ []) ∙ and_from (list_all is_digit ds) _ all (one_digit n small)

pub decimal_digits : (n : ℕ) → n < 2 ^ 64 → list_all is_digit (decimal n) ≡ true
decimal_digits = decimal_by_steps (λ n ds. list_all is_digit ds ≡ true) one_digit (λ n ds big all. more_digits _ ds (omega arith) all)

digit_fits : (b : ℕ) → is_digit b ≡ true → is_letter_or_digit b ≡ true
digit_fits b is = grind (arith, nat_tests)

pub decimal_fits : (n : ℕ) → n < 2 ^ 64 → list_all is_letter_or_digit (decimal n) ≡ true
decimal_fits n small = list_all_weaker is_digit is_letter_or_digit digit_fits (decimal n) (decimal_digits n small)

no_zero : (d : ℕ) → 48 < d → not (d == 48) ≡ true
no_zero d above = grind (arith, nat_tests)

numeral_from : (ds : List ℕ) → list_all is_digit ds ≡ true → 0 < length ds → (1 < length ds → 48 < get_or ds 0 0) → is_numeral ds ≡ true
numeral_from [] all some first = absurd (omega arith)
numeral_from (d ∷ []) all some first = (and_parts (is_digit d) true all).0
numeral_from (d ∷ e ∷ ds) all some first =
    let parts = and_parts (is_digit d) (list_all is_digit (e ∷ ds)) all in
    and_from (is_digit d) _ parts.0 (and_from (not (d == 48)) _ (no_zero d (first (omega arith))) parts.1)

first_digit : (n : ℕ) → n < 2 ^ 64 → 1 < length (decimal n) → 48 < get_or (decimal n) 0 0
first_digit n small many =
    elim (cases_lt 0 n) [
      | inl above ↦ first_decimal n above small
      | inr none ↦ let one = ap length (decimal_digit n (omega arith)) in absurd (omega arith)
    ]

pub decimal_numeral : (n : ℕ) → n < 2 ^ 64 → is_numeral (decimal n) ≡ true
decimal_numeral n small = numeral_from (decimal n) (decimal_digits n small) (decimal_nonempty n small) (first_digit n small)

-- a decimal number is the number
pub number_decimal : (n : ℕ) → n < 2 ^ 64 → number (decimal n) ≡ n
number_decimal n small = (decimal_is_IsNumeral n small).1

two_none : (a b : Bool) (e f : Fault) → a ≡ true → b ≡ true → first_fault (faulty_unless a e ∷ faulty_unless b f ∷ []) ≡ None
two_none a b e f first second = rw (first, second) refl

-- a decimal number within its range has no fault
pub decimal_right : (least greatest n : ℕ) → n < 2 ^ 64 → least ≤ n → n ≤ greatest → number_verdict least greatest (decimal n) ≡ None
decimal_right least greatest n small low high =
    let is = number_decimal n small in
    let within : (nat_le least (number (decimal n)) && nat_le (number (decimal n)) greatest) ≡ true = and_from _ _ (le-leb least (number (decimal n)) (omega arith)) (le-leb (number (decimal n)) greatest (omega arith)) in
    two_none (is_numeral (decimal n)) _ E4 E5 (decimal_numeral n small) within

-- a small letter and a number are a name
pub label_name : (letter n : ℕ) → is_small_letter letter ≡ true → n < 10000 → is_name (letter ∷ decimal n) ≡ true
label_name letter n small few =
    let short : length (decimal n) ≤ 4 = length-decimal-le 4 n (omega arith) (omega arith) (omega arith) in
    and_from (is_small_letter letter) _ small (and_from (nat_le (length (decimal n)) 14) _ (le-leb _ 14 (omega arith)) (decimal_fits n (omega arith)))

-- names of one letter are the same where their numbers are
tails_same : (letter : ℕ) (xs ys : List ℕ) → letter ∷ xs ≡ letter ∷ ys → xs ≡ ys
tails_same letter xs ys is = cc

pub label_same : (letter n : ℕ) → bytes_eq (letter ∷ decimal n) (letter ∷ decimal n) ≡ true
label_same letter n = (bytes_eq-Decides (letter ∷ decimal n) (letter ∷ decimal n)).1 refl

pub label_differs : (letter m n : ℕ) → m < 10000 → n < 10000 → (m ≡ n → ⊥) → bytes_eq (letter ∷ decimal m) (letter ∷ decimal n) ≡ false
label_differs letter m n few less apart =
    false_from_ne_true (bytes_eq (letter ∷ decimal m) (letter ∷ decimal n))
    (λ same. apart (decimal_injective m n (omega arith) (omega arith) (tails_same letter (decimal m) (decimal n) ((bytes_eq-Decides (letter ∷ decimal m) (letter ∷ decimal n)).0 same))))
