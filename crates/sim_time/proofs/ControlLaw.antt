-- The gap is the greatest that is at most interval / sqrt(count), and it alone is.
use Rattle.std.proofs.Common.{◌≡◌, ℕ, ◌+◌, ◌*◌, ◌<◌, ◌≤◌, zero, suc, Bool, true, inl, inr, arith}
use Rattle.std.specs.Prelude.{nat_le}
use Rattle.std.proofs.lemmas.Bool.{cases_Bool, cases_lt, le-leb, leb-true}
use Rattle.std.proofs.lemmas.Nat.{mul-le, mul-lt}
use Rattle.std.proofs.Math.Nat.{le_antisymm, mul-le-mul_left, mul-le-mul_right}
use Rattle.sim_time.specs.ControlLaw.{greatest_upto, gap_of, IsGap, GapsShrink}

upto_passes : (passes : ℕ → Bool) (n : ℕ) → passes zero ≡ true → passes (greatest_upto passes n) ≡ true
unfolding greatest_upto
upto_passes passes zero at_zero = at_zero
upto_passes passes (suc n) at_zero = elim (cases_Bool (passes (suc n))) [
  | inl taken ↦ rw taken taken
  | inr passed_over ↦ rw passed_over (upto_passes passes n at_zero)
]

upto_greatest : (passes : ℕ → Bool) (n e : ℕ) → e ≤ n → passes e ≡ true → e ≤ greatest_upto passes n
unfolding greatest_upto
upto_greatest passes zero e within passed = within
upto_greatest passes (suc n) e within passed = elim (cases_Bool (passes (suc n))) [
  | inl taken ↦ rw taken within
  | inr passed_over ↦ rw passed_over (elim (cases_lt n e) [
    | inl above ↦ let same : e ≡ suc n = omega arith in let passed_at = rw same at passed in cc
    | inr below ↦ upto_greatest passes n e below passed
  ])
]

-- what fits between is below, so no number above the interval fits
pub fits_below : (i c e : ℕ) → 1 ≤ c → e * e * c ≤ i * i → e ≤ i
fits_below i c e counted fits = elim (cases_lt i e) [
  | inl above ↦ let squares = mul-lt i i e e above above in let once = mul-le-mul_left (e * e) counted in absurd (omega (arith, squares, once))
  | inr below ↦ below
]

pub gap_is_greatest : (i c : ℕ) → 1 ≤ c → IsGap i c (gap_of i c)
unfolding gap_of
gap_is_greatest i c counted = record {
  fits = leb-true _ _ (upto_passes (λ d. nat_le (d * d * c) (i * i)) i (le-leb (zero * zero * c) (i * i) (omega arith)));
  greatest = λ e fits. upto_greatest (λ d. nat_le (d * d * c) (i * i)) i e (fits_below i c e counted fits) (le-leb (e * e * c) (i * i) fits);
}

pub only_gap : (i c d : ℕ) → IsGap i c d → 1 ≤ c → d ≡ gap_of i c
only_gap i c d is_gap counted =
    let gap = gap_is_greatest i c counted in
    le_antisymm (gap.greatest d is_gap.fits) (is_gap.greatest (gap_of i c) gap.fits)

-- a number that fits is the gap if the next does not
pub gap_from_next : (i c d : ℕ) → d * d * c ≤ i * i → i * i < (d + 1) * (d + 1) * c → IsGap i c d
gap_from_next i c d fits next = record {
  fits = fits;
  greatest = λ e also. elim (cases_lt d e) [
    | inl above ↦ let step : d + 1 ≤ e = omega arith in let more = mul-le-mul_right c (mul-le (d + 1) (d + 1) e e step step) in absurd (omega (arith, more))
    | inr below ↦ below
  ];
}

pub gaps_shrink : GapsShrink
gaps_shrink i c more counted rises =
    let few = gap_is_greatest i c counted in
    let many = gap_is_greatest i more (omega arith) in
    let d = gap_of i more in
    let less = mul-le-mul_left (d * d) rises in
    few.greatest d (omega (arith, less, many.fits))
