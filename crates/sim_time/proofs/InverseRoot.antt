-- Newton's numbers for an inverse root stay below it, and times an interval they stay below the gap.
use Rattle.std.proofs.Common.{◌≡◌, ℕ, ◌+◌, ◌-◌, ◌*◌, ◌/◌, ◌^◌, ◌<◌, ◌≤◌, subst, arith}
use Rattle.std.proofs.lemmas.Nat.{mul-le, mul-lt, pow-add}
use Rattle.std.proofs.Math.Nat.{add-mul, div-mul-le_self, le_of_mul-le-mul_right, mul-add, mul-le-mul_left, mul-le-mul_right, mul-mul-mul_comm, mul_assoc, mul_comm, mul_right_comm, pow-le-pow_right}

-- a product of squares is the square of the product
scaled : (a b c : ℕ) → a * b * (a * b) * c ≡ a * a * c * (b * b)
scaled a b c = rw (mul-mul-mul_comm a b a b, mul_right_comm (a * a) (b * b) c)

first_product : (s r : ℕ) → s * (2 * s + 3 * r) ≤ (s + r) * (2 * s + r)
first_product s r = simp (mul-add, add-mul, ← mul_assoc) (omega (arith, mul_comm r s, mul_comm s 2, mul_comm s 3, mul_comm r 2))

second_product : (s r : ℕ) → (2 * s + r) * (2 * s + 3 * r) ≤ 2 * (s + r) * (2 * (s + r))
second_product s r = grind arith

-- Newton's step for a root whose square is s of s + r
cubes : (s r : ℕ) → s * ((2 * s + 3 * r) * (2 * s + 3 * r)) ≤ (s + r) * (2 * (s + r) * (2 * (s + r)))
cubes s r =
    let first : s * (2 * s + 3 * r) * (2 * s + 3 * r) ≤ (s + r) * (2 * s + r) * (2 * s + 3 * r) = mul-le-mul_right (2 * s + 3 * r) (first_product s r) in
    let second : (s + r) * ((2 * s + r) * (2 * s + 3 * r)) ≤ (s + r) * (2 * (s + r) * (2 * (s + r))) = mul-le-mul_left (s + r) (second_product s r) in
    omega (arith, first, second, mul_assoc s (2 * s + 3 * r) (2 * s + 3 * r), mul_assoc (s + r) (2 * s + r) (2 * s + 3 * r))

cubes_of : (s m : ℕ) → s ≤ m → s * ((3 * m - s) * (3 * m - s)) ≤ m * (2 * m * (2 * m))
cubes_of s m below =
    let r = m - s in
    let sum : s + r ≡ m = omega arith in
    let rest : 2 * s + 3 * r ≡ 3 * m - s = omega arith in
    subst (λ x. s * (x * x) ≤ m * (2 * m * (2 * m))) rest (subst (λ x. s * ((2 * s + 3 * r) * (2 * s + 3 * r)) ≤ x * (2 * x * (2 * x))) sum (cubes s r))

pub step_below : (y c m : ℕ) → 0 < m → y * y * c ≤ m → y * (3 * m - y * y * c) / (2 * m) * (y * (3 * m - y * y * c) / (2 * m)) * c ≤ m
step_below y c m positive below =
    let t = 3 * m - y * y * c in
    let next = y * t / (2 * m) in
    let quotient : next * (2 * m) ≤ y * t = div-mul-le_self (y * t) (2 * m) in
    let squares : next * (2 * m) * (next * (2 * m)) * c ≤ y * t * (y * t) * c = mul-le-mul_right c (mul-le _ _ _ _ quotient quotient) in
    let turned : y * y * c * (t * t) ≤ m * (2 * m * (2 * m)) = cubes_of (y * y * c) m below in
    let bound : next * next * c * (2 * m * (2 * m)) ≤ m * (2 * m * (2 * m)) = omega (arith, squares, turned, scaled next (2 * m) c, scaled y t c) in
    le_of_mul-le-mul_right bound (mul-lt 0 0 (2 * m) (2 * m) (omega arith) (omega arith))

pub guess_below : (c bits half one : ℕ) → c < 2 * 2 ^ bits → bits + 1 ≤ half + half → one / 2 ^ half * (one / 2 ^ half) * c ≤ one * one
guess_below c bits half one bound enough =
    let p = 2 ^ half in
    let y = one / p in
    let power : 2 ^ (bits + 1) ≤ 2 ^ (half + half) = pow-le-pow_right (omega arith) enough in
    let one_more : 2 ^ (bits + 1) ≡ 2 ^ bits * 2 = pow-add 2 bits 1 in
    let count : c ≤ p * p = omega (arith, power, one_more, pow-add 2 half half) in
    let quotient : y * p ≤ one = div-mul-le_self one p in
    let squares : y * p * (y * p) ≤ one * one = mul-le _ _ _ _ quotient quotient in
    let scaled_up : y * y * c ≤ y * y * (p * p) = mul-le-mul_left (y * y) count in
    omega (arith, squares, scaled_up, mul-mul-mul_comm y p y p)

pub scaled_fits : (d i y c one : ℕ) → 0 < one → d * one ≤ i * y → y * y * c ≤ one * one → d * d * c ≤ i * i
scaled_fits d i y c one positive product below =
    let squares : d * one * (d * one) * c ≤ i * y * (i * y) * c = mul-le-mul_right c (mul-le _ _ _ _ product product) in
    let within : i * i * (y * y * c) ≤ i * i * (one * one) = mul-le-mul_left (i * i) below in
    let same : i * y * (i * y) * c ≡ i * i * (y * y * c) = rw (mul-mul-mul_comm i y i y, mul_assoc (i * i) (y * y) c) in
    let bound : d * d * c * (one * one) ≤ i * i * (one * one) = omega (arith, squares, within, same, scaled d one c) in
    le_of_mul-le-mul_right bound (mul-lt 0 0 one one positive positive)
