-- A number's decimal digits, three at a time.
use Rattle.std.proofs.Common.{◌≡◌, ◌-◌, cond, inl, inr, refl, subst, take, ltb, ℕ, zero, suc, ◌+◌, ◌/◌, ◌%◌, ◌^◌, ◌<◌, ◌≤◌, List, [], ◌∷◌, ◌++◌, length, get_or, sym, ap, ◌∙◌, arith, append_assoc, length-append}
use Rattle.std.proofs.lemmas.Bool.{cases_lt, cond_below, cond_above}
use Rattle.std.proofs.lemmas.Fmt.{decimal_digit, decimal_step}
use Rattle.std.specs.Fmt.{decimal}
use Rattle.trace_text.specs.Digits.{three_digits}
use Rattle.trace_text.specs.declared.groups.TheConstants.{FIRSTS, GROUPS}

-- so many rows of a table, the first of them that of a number
abbrev rows : (ℕ → List ℕ) → ℕ → ℕ → List (List ℕ)
rows row n zero = []
rows row n (suc count) = row n ∷ rows row (suc n) count

rows_at : (row : ℕ → List ℕ) (count n p : ℕ) → p < count → get_or (rows row n count) p [] ≡ row (n + p)
rows_at row zero n p h = absurd (omega (arith, h))
rows_at row (suc count) n zero h = let e : n + 0 ≡ n = omega arith in ap row (sym e)
rows_at row (suc count) n (suc p) h =
    let e : suc n + p ≡ n + suc p = omega arith in
    rows_at row count (suc n) p (omega (arith, h)) ∙ ap row e

abbrev group : ℕ → List ℕ
group n = three_digits n ++ 32 ∷ []

pub GROUPS_at : (p : ℕ) → p < 1000 → get_or GROUPS p [] ≡ group p
GROUPS_at p h = rows_at group 1000 0 p h ∙ ap group (omega arith)

abbrev one_digit : ℕ → List ℕ
one_digit n = (48 + n) ∷ 32 ∷ 32 ∷ 49 ∷ []

abbrev two_digits : ℕ → List ℕ
two_digits n = (48 + n / 10 % 10) ∷ (48 + n % 10) ∷ 32 ∷ 50 ∷ []

-- its digits, and the digit that says how many they are
abbrev first : ℕ → List ℕ
first n = cond (ltb n 10) (one_digit n) (cond (ltb n 100) (two_digits n) (three_digits n ++ 51 ∷ []))

FIRSTS_row : (p : ℕ) → p < 1000 → get_or FIRSTS p [] ≡ first p
FIRSTS_row p h = let e : 0 + p ≡ p = omega arith in rows_at first 1000 0 p h ∙ ap first e

pub decimal_group : (n : ℕ) → 1000 ≤ n → n < 2 ^ 64 → decimal n ≡ decimal (n / 1000) ++ three_digits (n % 1000)
decimal_group n lo hi =
    let a : n / 10 / 10 / 10 ≡ n / 1000 = omega arith in
    let b : n / 10 / 10 % 10 ≡ n % 1000 / 100 = omega arith in
    let c : n / 10 % 10 ≡ n % 1000 / 10 % 10 = omega arith in
    let d : n % 10 ≡ n % 1000 % 10 = omega arith in
    rw (decimal_step n (omega arith) hi, decimal_step (n / 10) (omega arith) (omega arith), decimal_step (n / 10 / 10) (omega arith) (omega arith), append_assoc, append_assoc, a, b, c, ← d)

pub length_group : (n : ℕ) → 1000 ≤ n → n < 2 ^ 64 → length (decimal n) ≡ length (decimal (n / 1000)) + 3
length_group n lo hi = ap length (decimal_group n lo hi) ∙ length-append _ _

pub decimal_two : (n : ℕ) → 10 ≤ n → n < 100 → decimal n ≡ (48 + n / 10 % 10) ∷ (48 + n % 10) ∷ []
decimal_two n lo hi =
    let a : n / 10 ≡ n / 10 % 10 = omega arith in
    rw (decimal_step n lo (omega arith), decimal_digit (n / 10) (omega arith), ← a)

pub decimal_three : (n : ℕ) → 100 ≤ n → n < 1000 → decimal n ≡ three_digits n
decimal_three n lo hi =
    let a : n / 10 / 10 ≡ n / 100 = omega arith in
    rw (decimal_step n (omega arith) (omega arith), decimal_step (n / 10) (omega arith) (omega arith), decimal_digit (n / 10 / 10) (omega arith), a)

pub decimal_six : (n : ℕ) → 1000000 ≤ n → n < 2 ^ 64 → decimal n ≡ decimal (n / 1000 / 1000) ++ (three_digits (n / 1000 % 1000) ++ three_digits (n % 1000))
decimal_six n lo hi = rw (decimal_group n (omega arith) hi, decimal_group (n / 1000) (omega arith) (omega arith), append_assoc)

pub length_six : (n : ℕ) → 1000000 ≤ n → n < 2 ^ 64 → length (decimal n) ≡ length (decimal (n / 1000 / 1000)) + 6
length_six n lo hi = ap length (decimal_six n lo hi) ∙ length-append _ _

pub decimal_nine : (n : ℕ) → 1000000000 ≤ n → n < 2 ^ 64 → decimal n
    ≡ decimal (n / 1000000000) ++ (three_digits (n % 1000000000 / 1000 / 1000) ++ (three_digits (n % 1000000000 / 1000 % 1000) ++ three_digits (n % 1000000000 % 1000)))
decimal_nine n lo hi =
    let a : n / 1000 / 1000 / 1000 ≡ n / 1000000000 = omega arith in
    let b : n / 1000 / 1000 % 1000 ≡ n % 1000000000 / 1000 / 1000 = omega arith in
    let c : n / 1000 % 1000 ≡ n % 1000000000 / 1000 % 1000 = omega arith in
    let d : n % 1000 ≡ n % 1000000000 % 1000 = omega arith in
    rw (decimal_six n (omega arith) hi, decimal_group (n / 1000 / 1000) (omega arith) (omega arith), append_assoc, a, b, c, d)

pub length_nine : (n : ℕ) → 1000000000 ≤ n → n < 2 ^ 64 → length (decimal n) ≡ length (decimal (n / 1000000000)) + 9
length_nine n lo hi = ap length (decimal_nine n lo hi) ∙ length-append _ _

-- a row that begins with a number's digits, and tells how many they are
pub record IsFirst (n : ℕ) (row : List ℕ) : Type 0 where
  pub digits : take (length (decimal n)) row ≡ decimal n
  pub count : get_or row 3 0 ≡ 48 + length (decimal n)

first_is : (n : ℕ) → n < 1000 → IsFirst n (first n)
first_is n h = elim (cases_lt n 10) [
  | inl one ↦ subst (IsFirst n) (cond_below n 10 (one_digit n) _ one) (reported n _ (one_digit n) (decimal_digit n one) refl refl)
  | inr more ↦ subst (IsFirst n) (cond_above n 10 (one_digit n) _ _ more refl) (elim (cases_lt n 100) [
    | inl two ↦ subst (IsFirst n) (cond_below n 100 (two_digits n) _ two) (reported n _ (two_digits n) (decimal_two n more two) refl refl)
    | inr three ↦ subst (IsFirst n) (cond_above n 100 (two_digits n) _ _ three refl) (reported n _ (three_digits n ++ 51 ∷ []) (decimal_three n three h) refl refl)
  ])
]
  where
    reported : (n : ℕ) (ds row : List ℕ) → decimal n ≡ ds → take (length ds) row ≡ ds → get_or row 3 0 ≡ 48 + length ds → IsFirst n row
    reported n ds row e f g = record { digits = ap (λ l. take (length l) row) e ∙ f ∙ sym e; count = g ∙ ap (λ l. 48 + length l) (sym e) }

pub FIRSTS_at : (p : ℕ) → p < 1000 → IsFirst p (get_or FIRSTS p [])
FIRSTS_at p h = subst (IsFirst p) (sym (FIRSTS_row p h)) (first_is p h)

-- a number is so much more than the least one of the same digits before the last three
pub decimal_near : (n least low : ℕ) → n < 2 ^ 64 → least % 1000 ≡ 0 → 1000 ≤ least → n ≡ least + low → low < 1000 → decimal (least / 1000) ++ three_digits low ≡ decimal n
decimal_near n least low hi whole lo is few =
    let a : n / 1000 ≡ least / 1000 = omega (arith, whole, is, few) in
    let b : n % 1000 ≡ low = omega (arith, whole, is, few) in
    rw (decimal_group n (omega (arith, lo, is)) hi, a, b) refl

-- the same before the last six
pub decimal_nearer : (n least low : ℕ) → n < 2 ^ 64 → least % 1000000 ≡ 0 → 1000000 ≤ least → n ≡ least + low → low < 1000000
    → decimal (least / 1000000) ++ (three_digits (low / 1000) ++ three_digits (low % 1000)) ≡ decimal n
decimal_nearer n least low hi whole lo is few =
    let a : n / 1000 / 1000 ≡ least / 1000000 = omega (arith, whole, is, few) in
    let b : n / 1000 % 1000 ≡ low / 1000 = omega (arith, whole, is, few) in
    let c : n % 1000 ≡ low % 1000 = omega (arith, whole, is, few) in
    rw (decimal_six n (omega (arith, lo, is)) hi, a, b, c) refl

-- what is left of a difference that wraps, where it is small
pub near : (n least bound : ℕ) → n < 2 ^ 64 → least < 10 ^ 18 → bound ≤ 1000000 → (n + (2 ^ 64 - least)) % 2 ^ 64 < bound → n ≡ least + (n + (2 ^ 64 - least)) % 2 ^ 64
near n least bound fits few small h = omega (arith, fits, few, small, h)
