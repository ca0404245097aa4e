-- One more digit of a number.
use Rattle.std.proofs.Common.{inl, inr, ◌≡◌, ◌<◌, ℕ, ◌+◌, ◌-◌, ◌*◌, min, true, false, List, get_or, take, arith}
use Rattle.std.proofs.lemmas.Bool.{cases_Bool}
use Rattle.std.proofs.lemmas.List.Folds.{list_all_at}
use Rattle.std.proofs.lemmas.Int.Digits.{digits_value_more}
use Rattle.std.proofs.lemmas.Bool.Decides.{nat_tests}
use Rattle.std.specs.Char.{digit_value}
use Rattle.std.specs.List.{list_all}
use Rattle.std.specs.Str.Parse.{digits_value}
use Rattle.scenario_asm.specs.Numbers.{is_digit}
use Rattle.std.proofs.Common.{length}

digit_is : (d : ℕ) → is_digit d ≡ true → digit_value d ≡ d - 48
digit_is d is = grind (arith, nat_tests)

each_is : (ds : List ℕ) (i : ℕ) → list_all is_digit ds ≡ true → i < length ds → is_digit (get_or ds i 0) ≡ true
each_is ds i all lt =
    elim (cases_Bool (is_digit (get_or ds i 0))) [
      | inl is ↦ is
      | inr isn't ↦ let none : list_all is_digit ds ≡ false = list_all_at is_digit ds i 0 lt isn't in absurd (cc)
    ]

saturated : (x d m a : ℕ) → m ≡ min (min x 18446744073709551615 * 10) 18446744073709551615 → a ≡ min (m + d) 18446744073709551615 → a ≡ min (x * 10 + d) 18446744073709551615
saturated x d m a mul add = omega arith

-- a saturating number, and one more digit
pub digits_more : (ds : List ℕ) (i v m d a : ℕ) → list_all is_digit ds ≡ true → i < length ds → v ≡ min (digits_value 10 (take i ds)) 18446744073709551615 → m ≡ min (v * 10) 18446744073709551615 → d ≡ get_or ds i 0 - 48 → a ≡ min (m + d) 18446744073709551615 → a ≡ min (digits_value 10 (take (i + 1) ds)) 18446744073709551615
digits_more ds i v m d a all lt was mul digit add =
    let is : digit_value (get_or ds i 0) ≡ get_or ds i 0 - 48 = digit_is (get_or ds i 0) (each_is ds i all lt) in
    let more : digits_value 10 (take (i + 1) ds) ≡ digits_value 10 (take i ds) * 10 + digit_value (get_or ds i 0) = digits_value_more 10 ds i lt in
    rw more (saturated (digits_value 10 (take i ds)) (digit_value (get_or ds i 0)) m a (rw was at mul) (rw (digit, ← is) at add))
