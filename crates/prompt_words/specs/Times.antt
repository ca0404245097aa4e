-- Moments as they are typed at a prompt: nanoseconds, or a number with a unit.
use Rattle.std.specs.Prelude.{ℕ, ◌+◌, ◌-◌, ◌*◌, ◌^◌, ◌==◌, nat_le, nat_lt, not, if◌then◌else◌, List, [], ◌∷◌, length, drop, codes, Option, None, Some}
use Rattle.std.specs.List.{before_first, position_or_len}
use Rattle.std.specs.Str.{bytes_eq}
use Rattle.scenario_asm.specs.Numbers.{is_digit, is_numeral, number}

abbrev pub Word : Type 0
Word = List ℕ

-- the digits at the start of a word
abbrev pub first_digits : Word → Word
first_digits word = before_first (λ b. not (is_digit b)) word

-- what stands behind them
abbrev pub behind_digits : Word → Word
behind_digits word = drop (position_or_len (λ b. not (is_digit b)) word) word

-- how many digits may stand behind the point where a unit follows: it is 10 to the power of so many nanoseconds
abbrev pub places_of : Word → Option ℕ
places_of unit =
    if bytes_eq unit (codes "ns") then Some 0
    else (if bytes_eq unit (codes "us") then Some 3
    else (if bytes_eq unit (codes "ms") then Some 6
    else (if bytes_eq unit (codes "s") then Some 9
    else None)))

-- the nanoseconds of whole units and of a fraction of one
abbrev pub nanoseconds : ℕ → Word → Word → ℕ
nanoseconds places whole part = number whole * 10 ^ places + number part * 10 ^ (places - length part)

-- a moment is at most 10^15 nanoseconds
abbrev pub moment : ℕ → Option ℕ
moment time = if nat_lt time 1000000000000001 then Some time else None

abbrev pub in_unit : Word → Word → Option ℕ → Option ℕ
in_unit whole part None = None
in_unit whole part (Some places) = if nat_le (length part) places then moment (nanoseconds places whole part) else None

-- a fraction has a digit at least
abbrev pub with_part : Word → Word → Word → Option ℕ
with_part whole [] unit = None
with_part whole (digit ∷ digits) unit = in_unit whole (digit ∷ digits) (places_of unit)

-- behind the whole number stands nothing, or a point and a fraction and a unit, or a unit
abbrev pub moment_of_words : Word → Word → Option ℕ
moment_of_words whole [] = moment (number whole)
moment_of_words whole (b ∷ bs) =
    if b == 46 then with_part whole (first_digits bs) (behind_digits bs)
    else in_unit whole [] (places_of (b ∷ bs))

-- the moment that a word is
abbrev pub moment_in : Word → Option ℕ
moment_in word = if is_numeral (first_digits word) then moment_of_words (first_digits word) (behind_digits word) else None
