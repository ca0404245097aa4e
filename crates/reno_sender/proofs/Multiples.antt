-- Multiples of the segment size.
use Rattle.std.proofs.Common.{◌≡◌, ℕ, ◌+◌, ◌-◌, ◌*◌, ◌/◌, ◌%◌, ◌<◌, ◌≤◌, zero, suc, max, inl, inr, ap, ◌∙◌, arith}
use Rattle.std.proofs.Math.Nat.{add-mod_right, add-mul-mod_self_right, div-add-mod, div-mul-le_self, add-mul, suc-mul, zero-mul, le-mul_of_pos_right, mul-le-mul_right}
use Rattle.std.proofs.lemmas.Nat.{le-div}
use Rattle.std.proofs.lemmas.Bool.{cases_lt}
use Rattle.reno_sender.specs.Fields.{IsMultiple}

pub multiple_zero : (m : ℕ) → 1 ≤ m → IsMultiple m 0
multiple_zero m p = omega arith

pub multiple_next : (m x : ℕ) → IsMultiple m x → IsMultiple m (x + m)
multiple_next m x h = add-mod_right x m ∙ h

pub multiple_after : (m x k : ℕ) → IsMultiple m x → IsMultiple m (x + k * m)
multiple_after m x k h = add-mul-mod_self_right x k m ∙ h

-- a multiple is its quotient times the size
pub quotient : (m x : ℕ) → IsMultiple m x → x ≡ x / m * m
quotient m x h = omega (arith, div-add-mod x m)

-- a smaller multiple is smaller by whole segments
pub multiples_apart : (m x y : ℕ) → 1 ≤ m → IsMultiple m x → IsMultiple m y → x ≤ y → (k : ℕ) × (y ≡ x + k * m)
multiples_apart m x y p h i l =
    let ex : x ≡ x / m * m = quotient m x h in
    let ey : y ≡ y / m * m = quotient m y i in
    let ordered : x / m ≤ y / m = le-div (x / m) y m (omega arith) (omega arith) in
    let split : y / m ≡ x / m + (y / m - x / m) = omega arith in
    let whole : y / m * m ≡ x / m * m + (y / m - x / m) * m = ap (λ k. k * m) split ∙ add-mul (x / m) (y / m - x / m) m in
    (y / m - x / m, omega arith)

one_segment : (m x y k : ℕ) → x < y → y ≡ x + k * m → x + m ≤ y
one_segment m x y zero l e = absurd (omega (arith, zero-mul m))
one_segment m x y (suc k) l e = omega (arith, suc-mul k m)

-- the next multiple is a whole segment further
pub multiple_below : (m x y : ℕ) → 1 ≤ m → IsMultiple m x → IsMultiple m y → x < y → x + m ≤ y
multiple_below m x y p h i l =
    let d : (k : ℕ) × (y ≡ x + k * m) = multiples_apart m x y p h i (omega arith) in
    one_segment m x y d.0 l d.1

-- so many whole segments that they end within a bound
pub fits_count : (m x end n : ℕ) → 1 ≤ m → n ≡ (end - x) / m → 0 < n → x + n * m ≤ end
fits_count m x end n p e q =
    let below : n * m ≤ end - x = rw e (div-mul-le_self (end - x) m) in
    omega (arith, le-mul_of_pos_right {m = m} n (omega arith))

-- fewer places in a run are fewer bytes
pub places_below : (m k n : ℕ) → k < n → k * m + m ≤ n * m
places_below m k n l =
    let step : suc k ≤ n = omega arith in
    omega (arith, suc-mul k m, mul-le-mul_right {m = suc k} {n = n} m step)

pub places_up_to : (m k n : ℕ) → n ≤ k → n * m ≤ k * m
places_up_to m k n l = mul-le-mul_right m l

pub multiple_max : (m x y : ℕ) → IsMultiple m x → IsMultiple m y → IsMultiple m (max x y)
multiple_max m x y h i =
    elim (cases_lt x y) [
      | inl l ↦ (let e : max x y ≡ y = omega arith in ap (λ k. k % m) e ∙ i)
      | inr l ↦ (let e : max x y ≡ x = omega arith in ap (λ k. k % m) e ∙ h)
    ]
