-- How many of a run of segments are sent again.
use Rattle.std.proofs.Common.{◌≡◌, ℕ, zero, suc, ◌+◌, ◌-◌, ◌*◌, ◌/◌, ◌<◌, ◌≤◌, ⊎_elim, cond, min, sym, ap, ◌∙◌, arith}
use Rattle.std.specs.Prelude.{count_by, nat_lt}
use Rattle.std.proofs.lemmas.Bool.{lt-ltb, le-ltb, cases_lt}
use Rattle.std.proofs.lemmas.List.Sums.{sum_by-cons}
use Rattle.std.proofs.Math.Nat.{suc-mul, add-mul, mul-le-mul_right, div-eq_of_eq-mul_left}
use Rattle.reno_sender.specs.Fields.{IsMultiple}
use Rattle.reno_sender.specs.Sending.{spaced}
use Rattle.reno_sender.proofs.Multiples.{quotient}

-- fewer segments are fewer bytes
places : (m a b : ℕ) → a < b → 1 ≤ m → a * m < b * m
places m a b less least = let step = mul-le-mul_right {m = suc a} {n = b} m (omega (arith, less)) in let next = suc-mul a m in omega (arith, step, next, least)

-- of a run from the a-th segment on those before the b-th are below it
pub count_run : (first m n high a b : ℕ) → first ≡ a * m → high ≡ b * m → 1 ≤ m → count_by (λ x. nat_lt x high) (spaced first m n) ≡ min n (b - a)
count_run first m zero high a b at to least = omega arith
count_run first m (suc n) high a b at to least =
    let rest = count_run (first + m) m n high (suc a) b (ap (λ x. x + m) at ∙ sym (suc-mul a m)) to least in
    let parts = sum_by-cons (λ (x : ℕ). cond (nat_lt x high) 1 0) first (spaced (first + m) m n) in
    ⊎_elim
    (λ (less : a < b).
    let below = places m a b less least in
    let one : cond {A = ℕ} (nat_lt first high) 1 0 ≡ 1 = ap (λ c. cond {A = ℕ} c 1 0) (lt-ltb first high (omega (arith, at, to, below))) in
    omega (arith, rest, parts, one, less))
    (λ (past : b ≤ a).
    let above = mul-le-mul_right {m = b} {n = a} m past in
    let none : cond {A = ℕ} (nat_lt first high) 1 0 ≡ 0 = ap (λ c. cond {A = ℕ} c 1 0) (le-ltb first high (omega (arith, at, to, above))) in
    omega (arith, rest, parts, none, past))
    (cases_lt a b)

-- whole segments from one place to another
segments : (x y m a b : ℕ) → x ≡ a * m → y ≡ b * m → 1 ≤ m → (y - x) / m ≡ b - a
segments x y m a b x_is y_is least =
    ⊎_elim
    (λ (less : a < b).
    let split = add-mul a (b - a) m in
    let whole : b * m ≡ (a + (b - a)) * m = ap (λ k. k * m) (omega (arith, less)) in
    div-eq_of_eq-mul_left {n = m} {m = y - x} {k = b - a} least (omega (arith, split, whole, x_is, y_is)))
    (λ (past : b ≤ a).
    let above = mul-le-mul_right {m = b} {n = a} m past in
    let none : b - a ≡ 0 = omega (arith, past) in
    let zero_is : (b - a) * m ≡ 0 * m = ap (λ k. k * m) none in
    div-eq_of_eq-mul_left {n = m} {m = y - x} {k = b - a} least (omega (arith, above, zero_is, x_is, y_is)))
    (cases_lt a b)

least_place : (m a b : ℕ) → min (a * m) (b * m) ≡ min a b * m
least_place m a b =
    ⊎_elim
    (λ (less : a < b). let up = mul-le-mul_right {m = a} {n = b} m (omega (arith, less)) in let is : min a b * m ≡ a * m = ap (λ k. k * m) (omega (arith, less)) in omega (arith, up, is))
    (λ (past : b ≤ a). let up = mul-le-mul_right {m = b} {n = a} m past in let is : min a b * m ≡ b * m = ap (λ k. k * m) (omega (arith, past)) in omega (arith, up, is))
    (cases_lt a b)

-- the segments of a run that end by high
pub again_in_run : (first end high m least_end : ℕ) → 1 ≤ m → IsMultiple m first → IsMultiple m end → IsMultiple m high → least_end ≡ min end high → (least_end - first) / m ≡ count_by (λ x. nat_lt x high) (spaced first m ((end - first) / m))
again_in_run first end high m least_end least of_first of_end of_high is =
    let a = quotient m first of_first in
    let e = quotient m end of_end in
    let b = quotient m high of_high in
    let all : (end - first) / m ≡ end / m - first / m = segments first end m (first / m) (end / m) a e least in
    let part : (least_end - first) / m ≡ min (end / m) (high / m) - first / m = segments first least_end m (first / m) (min (end / m) (high / m)) a (is ∙ ap (λ x. min x high) e ∙ ap (min (end / m * m)) b ∙ least_place m (end / m) (high / m)) least in
    let count = count_run first m ((end - first) / m) high (first / m) (high / m) a b least in
    omega (arith, all, part, count)
