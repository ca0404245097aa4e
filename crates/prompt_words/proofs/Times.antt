-- Digits at the start of a word, and saturating numbers of whole units and of a fraction of one.
use Rattle.std.proofs.Common.{◌≡◌, ◌<◌, ◌≤◌, ◌+◌, ◌*◌, ◌∙◌, ℕ, true, false, not, cond, ◌&&◌, List, [], ◌∷◌, take, min, suc, ⊎_elim, refl, ap, arith}
use Rattle.std.proofs.Math.Nat.{le-mul_of_pos_right}
use Rattle.std.proofs.lemmas.Bool.{cases_lt}
use Rattle.std.specs.List.{list_all, position_or_len}
use Rattle.scenario_asm.specs.Numbers.{is_digit}
use Rattle.prompt_words.specs.Times.{first_digits}

digits_first : (word : List ℕ) → list_all is_digit (first_digits word) ≡ true
digits_first [] = refl
digits_first (b ∷ bs) = elim (is_digit b) as (λ t. is_digit b ≡ t → list_all is_digit (take (cond (not (not t)) (1 + position_or_len (λ d. not (is_digit d)) bs) 0) (b ∷ bs)) ≡ true) [
  | true ↦ λ is.
      let count = position_or_len (λ d. not (is_digit d)) bs in
      let one : 1 + count ≡ suc count = omega arith in
      ap (λ n. list_all is_digit (take n (b ∷ bs))) one ∙ ap (λ t. t && list_all is_digit (first_digits bs)) is ∙ digits_first bs
  | false ↦ λ isn't. refl
] refl

pub first_are_digits : (word first : List ℕ) → first ≡ first_digits word → list_all is_digit first ≡ true
first_are_digits word first is = ap (list_all is_digit) is ∙ digits_first word

-- a product of a saturating number
pub saturated_product : (x u a : ℕ) → 0 < u → a ≡ min (min x 18446744073709551615 * u) 18446744073709551615 → a ≡ min (x * u) 18446744073709551615
saturated_product x u a some is =
    ⊎_elim
    (λ (under : x < 18446744073709551615).
    let same : min x 18446744073709551615 ≡ x = omega (arith, under) in
    is ∙ ap (λ n. min (n * u) 18446744073709551615) same)
    (λ (past : 18446744073709551615 ≤ x).
    let most : min x 18446744073709551615 ≡ 18446744073709551615 = omega (arith, past) in
    let at_most : a ≡ min (18446744073709551615 * u) 18446744073709551615 = is ∙ ap (λ n. min (n * u) 18446744073709551615) most in
    let grown : x ≤ x * u = le-mul_of_pos_right x some in
    omega (arith, at_most, grown, past, some))
    (cases_lt x 18446744073709551615)

pub saturated_sum : (x y a b n : ℕ) → a ≡ min x 18446744073709551615 → b ≡ min y 18446744073709551615 → n ≡ min (a + b) 18446744073709551615 → n ≡ min (x + y) 18446744073709551615
saturated_sum x y a b n first second sum = omega (arith, first, second, sum)
