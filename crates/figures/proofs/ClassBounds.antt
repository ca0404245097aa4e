-- The classes of values: their bounds, and that they rise with the values.
use Rattle.std.proofs.Common.{◌≡◌, ◌<◌, ◌≤◌, ◌+◌, ◌-◌, ◌*◌, ◌/◌, ◌%◌, ◌^◌, ℕ, suc, refl, sym, ap, ◌∙◌, arith, inl, inr, ◌⊎◌, ⊎_elim}
use Rattle.std.proofs.lemmas.Bool.{cases_lt, cases_eq}
use Rattle.std.proofs.lemmas.Nat.{leading_length, mul-le, div-add-mod', pow-add}
use Rattle.std.proofs.Math.Nat.{one-le-pow, two-pow-succ, mod-lt, div-eq_of_lt-le}
use Rattle.std.proofs.Math.Pow.{pow_mono}
use Rattle.std.specs.Int.Count.{count_leading_zeros}
use Rattle.figures.specs.Classes.{halvings, class_of, top_of}

-- a value, halved h times, p = 2 ^ h: what is left of it is m
pub record IsHalved (v h m p : ℕ) : Type 0 where
  pub p_least : 1 ≤ p
  pub rest : ℕ
  pub parts : v ≡ m * p + rest
  pub small : rest < p
  pub most : m < 64
  pub least : (h ≡ 0) ⊎ (32 ≤ m)

few : (v m p : ℕ) → m * p ≤ v → v < 64 * p → m < 64
few v m p below most = ⊎_elim (λ (a : m < 64). a) (λ (b : 64 ≤ m). let big = mul-le 64 p m p b (omega arith) in absurd (omega (arith, big, below, most))) (cases_lt m 64)

many : (v m p r : ℕ) → 32 * p ≤ v → v ≡ m * p + r → r < p → 32 ≤ m
many v m p r least is small = ⊎_elim (λ (a : m < 32). let big = mul-le m p 31 p (omega (arith, a)) (omega arith) in absurd (omega (arith, big, least, is, small))) (λ (b : 32 ≤ m). b) (cases_lt m 32)

upper : (v k h : ℕ) → k ≤ 6 + h → v < 2 ^ k → v < 64 * 2 ^ h
upper v k h within below = let up = pow_mono within in let is : 2 ^ (6 + h) ≡ 64 * 2 ^ h = pow-add 2 6 h in omega (arith, up, is, below)

lower : (v k h : ℕ) → k ≡ 6 + h → 2 ^ k ≤ 2 * v + 1 → 32 * 2 ^ h ≤ v
lower v k h same above = let is : 2 ^ (6 + h) ≡ 64 * 2 ^ h = pow-add 2 6 h in let k_is : 2 ^ k ≡ 2 ^ (6 + h) = ap (λ i. 2 ^ i) same in omega (arith, is, k_is, above)

by_length : (v h k lz : ℕ) → h ≡ 58 - lz → lz + k ≡ 64 → v < 2 ^ k → 2 ^ k ≤ 2 * v + 1 → IsHalved v h (v / 2 ^ h) (2 ^ h)
by_length v h k lz h_is length_is below above =
    let p_least : 1 ≤ 2 ^ h = one-le-pow h 2 (omega arith) in
    let parts : v ≡ v / 2 ^ h * 2 ^ h + v % 2 ^ h = sym (div-add-mod' v (2 ^ h)) in
    let small : v % 2 ^ h < 2 ^ h = mod-lt v p_least in
    record {
      p_least = p_least;
      rest = v % 2 ^ h;
      parts = parts;
      small = small;
      most = few v (v / 2 ^ h) (2 ^ h) (omega (arith, parts)) (upper v k h (omega (arith, h_is, length_is)) below);
      least = ⊎_elim (λ (none : h ≡ 0). inl none) (λ some. inr (many v (v / 2 ^ h) (2 ^ h) (v % 2 ^ h) (lower v k h (omega (arith, h_is, length_is, some)) above) parts small)) (cases_eq h 0);
    }

pub halved : (v : ℕ) → v < 2 ^ 64 → IsHalved v (halvings v) (v / 2 ^ halvings v) (2 ^ halvings v)
unfolding halvings
halved v fits = let l = leading_length 64 v fits in by_length v (58 - count_leading_zeros 64 v) l.0 (count_leading_zeros 64 v) refl l.1 l.2 l.3

-- a class tells how often its values are halved
class_halvings : (h m : ℕ) → m < 64 → (h ≡ 0) ⊎ (32 ≤ m) → (32 * h + m) / 32 - 1 ≡ h
class_halvings h m most (inl none) = let a : (32 * h + m) / 32 ≤ 1 = omega (arith, none, most) in omega (arith, a, none)
class_halvings h m most (inr some) = let a : (32 * h + m) / 32 ≡ h + 1 = div-eq_of_lt-le 32 (omega (arith, some)) (omega (arith, most)) in omega (arith, a)

top_is : (v h m p : ℕ) → p ≡ 2 ^ h → IsHalved v h m p → top_of (32 * h + m) ≡ (m + 1) * p - 1
unfolding top_of
top_is v h m p p_is is =
    let k : (32 * h + m) / 32 - 1 ≡ h = class_halvings h m is.most is.least in
    rw k (let i : 32 * h + m - 32 * h + 1 ≡ m + 1 = omega arith in rw (i, ← p_is) refl)

within_top : (v h m p : ℕ) → p ≡ 2 ^ h → IsHalved v h m p → (v ≤ (m + 1) * p - 1) × (32 * ((m + 1) * p - 1) ≤ 33 * v)
within_top v h m p p_is is =
    let parts = is.parts in let small = is.small in
    (omega (arith, parts, small), near is.least)
  where
    near : (h ≡ 0) ⊎ (32 ≤ m) → 32 * ((m + 1) * p - 1) ≤ 33 * v
    near (inl none) =
        let one : p ≡ 1 = p_is ∙ ap (λ i. 2 ^ i) none in
        let product : m * p ≡ m * 1 = ap (λ q. m * q) one in
        let parts = is.parts in let small = is.small in
        omega (arith, one, product, parts, small)
    near (inr some) = let big = mul-le 32 p m p some (omega arith) in let parts = is.parts in let small = is.small in omega (arith, big, parts, small)

-- a value is at most its class's greatest, which is at most a 32nd above it
pub near_top : (v : ℕ) → v < 2 ^ 64 → (v ≤ top_of (class_of v)) × (32 * top_of (class_of v) ≤ 33 * v)
unfolding class_of
near_top v fits =
    let h = halved v fits in
    rw (top_is v (halvings v) (v / 2 ^ halvings v) (2 ^ halvings v) refl h) (within_top v (halvings v) (v / 2 ^ halvings v) (2 ^ halvings v) refl h)

later : (x y h k m n p q : ℕ) → p ≡ 2 ^ h → q ≡ 2 ^ k → IsHalved x h m p → IsHalved y k n q → x ≤ y → 32 * h + m ≤ 32 * k + n
later x y h k m n p q p_is q_is a b upto = ⊎_elim before (λ (back : k ≤ h). ⊎_elim same (λ apart. crossed (omega (arith, back, apart))) (cases_eq k h)) (cases_lt h k)
  where
    before : h < k → 32 * h + m ≤ 32 * k + n
    before less = let most = a.most in ⊎_elim (λ (none : k ≡ 0). absurd (omega (arith, none, less))) (λ (some : 32 ≤ n). omega (arith, most, some, less)) b.least

    same : k ≡ h → 32 * h + m ≤ 32 * k + n
    same is =
        let one : q ≡ p = q_is ∙ ap (λ i. 2 ^ i) is ∙ sym p_is in
        let product : n * q ≡ n * p = ap (λ i. n * i) one in
        let xs = a.parts in let ys = b.parts in let small = b.small in
        ⊎_elim (λ (less : n < m). let big = mul-le (n + 1) p m p (omega (arith, less)) (omega arith) in absurd (omega (arith, big, product, one, xs, ys, small, upto)))
        (λ (fine : m ≤ n). omega (arith, fine, is)) (cases_lt n m)

    crossed : k < h → 32 * h + m ≤ 32 * k + n
    crossed less =
        let up : 2 ^ (suc k) ≤ 2 ^ h = pow_mono (omega (arith, less)) in
        let two : 2 ^ suc k ≡ 2 ^ k + 2 ^ k = two-pow-succ k in
        let xs = a.parts in let ys = b.parts in let small = b.small in
        let few = mul-le n q 63 q (let most = b.most in omega (arith, most)) (omega arith) in
        ⊎_elim (λ (none : h ≡ 0). absurd (omega (arith, none, less)))
        (λ (some : 32 ≤ m). let big = mul-le 32 p m p some (omega arith) in absurd (omega (arith, big, few, xs, ys, small, upto, up, two, p_is, q_is))) a.least

-- classes rise with values
pub class_rises : (x y : ℕ) → x ≤ y → y < 2 ^ 64 → class_of x ≤ class_of y
unfolding class_of
class_rises x y upto fits = later x y (halvings x) (halvings y) (x / 2 ^ halvings x) (y / 2 ^ halvings y) (2 ^ halvings x) (2 ^ halvings y) refl refl (halved x (omega (arith, upto, fits))) (halved y fits) upto

small_class : (v h m p : ℕ) → p ≡ 2 ^ h → IsHalved v h m p → v < 2 ^ 50 → 32 * h + m < 1472
small_class v h m p p_is is below = ⊎_elim (λ (low : h < 45). let most = is.most in omega (arith, low, most)) (λ (high : 45 ≤ h). absurd (too_great high is.least)) (cases_lt h 45)
  where
    too_great : 45 ≤ h → (h ≡ 0) ⊎ (32 ≤ m) → ⊥
    too_great high (inl none) = omega (arith, high, none)
    too_great high (inr some) = let up : 2 ^ 45 ≤ 2 ^ h = pow_mono high in let big = mul-le 32 p m p some (omega arith) in let parts = is.parts in omega (arith, up, big, parts, p_is, below)

-- values below 2^50 have 1,472 classes
pub class_within : (v : ℕ) → v < 2 ^ 50 → class_of v < 1472
unfolding class_of
class_within v below = small_class v (halvings v) (v / 2 ^ halvings v) (2 ^ halvings v) refl (halved v (omega (arith, below))) below
