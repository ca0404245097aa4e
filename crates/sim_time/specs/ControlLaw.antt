-- How far apart CoDel's drops are: interval / sqrt(count), rounded down (RFC 8289 section 5).
use Rattle.std.specs.Prelude.{◌≤◌, ℕ, Bool, zero, suc, ◌*◌, nat_le, if◌then◌else◌}

-- the greatest number from 1 to n that passes the test, or 0
unfoldable pub greatest_upto : (ℕ → Bool) → ℕ → ℕ
greatest_upto passes zero = zero
greatest_upto passes (suc n) = if passes (suc n) then suc n else greatest_upto passes n

-- the greatest d with d · d · count ≤ interval · interval
unfoldable pub gap_of : ℕ → ℕ → ℕ
gap_of interval count = greatest_upto (λ d. nat_le (d * d * count) (interval * interval)) interval

-- d, and no greater number, is at most interval / sqrt(count)
pub record IsGap (interval count d : ℕ) : Type 0 where
  pub fits : d * d * count ≤ interval * interval
  pub greatest : (e : ℕ) → e * e * count ≤ interval * interval → e ≤ d

-- a greater count never makes the gap longer
abbrev pub GapsShrink : Type 0
GapsShrink = (interval count more : ℕ) → 1 ≤ count → count ≤ more → gap_of interval more ≤ gap_of interval count
