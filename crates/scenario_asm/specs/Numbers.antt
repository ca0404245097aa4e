-- Numbers and names.
use Rattle.std.specs.Prelude.{ℕ, Bool, false, ◌&&◌, ◌||◌, not, ◌==◌, nat_le, [], ◌∷◌, length}
use Rattle.std.specs.List.{list_all}
use Rattle.std.specs.Str.Parse.{digits_value}
use Rattle.scenario_asm.specs.declared.fault.Fault.TheVariants.{E4, E5}
use Rattle.scenario_asm.specs.Lines.{Word}
use Rattle.scenario_asm.specs.Verdicts.{Verdict, first_fault, faulty_unless}

-- 0 to 9
abbrev pub is_digit : ℕ → Bool
is_digit b = nat_le 48 b && nat_le b 57

-- a to z
abbrev pub is_small_letter : ℕ → Bool
is_small_letter b = nat_le 97 b && nat_le b 122

-- decimal digits, with no 0 before others
abbrev pub is_numeral : Word → Bool
is_numeral [] = false
is_numeral (d ∷ []) = is_digit d
is_numeral (d ∷ e ∷ ds) = is_digit d && (not (d == 48) && list_all is_digit (e ∷ ds))

-- the number that a word is
abbrev pub number : Word → ℕ
number word = digits_value 10 word

-- where a number from the least to the greatest is asked
abbrev pub number_verdict : ℕ → ℕ → Word → Verdict
number_verdict least greatest word = first_fault (faulty_unless (is_numeral word) E4 ∷ faulty_unless (nat_le least (number word) && nat_le (number word) greatest) E5 ∷ [])

-- a to z, or 0 to 9
abbrev pub is_letter_or_digit : ℕ → Bool
is_letter_or_digit b = is_small_letter b || is_digit b

-- a small letter, then up to 14 small letters or digits
abbrev pub is_name : Word → Bool
is_name [] = false
is_name (c ∷ cs) = is_small_letter c && (nat_le (length cs) 14 && list_all is_letter_or_digit cs)
