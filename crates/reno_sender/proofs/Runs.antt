-- Runs of consecutive segments.
use Rattle.std.proofs.Common.{◌≡◌, ℕ, zero, suc, ◌+◌, ◌*◌, ◌<◌, ◌≤◌, false, ltb, leb, Some, None, length, refl, ap, sym, arith}
use Rattle.std.specs.Prelude.{find}
use Rattle.std.specs.List.{list_any, AllByRecursion}
use Rattle.std.proofs.lemmas.Bool.{lt-leb, le-leb, le-ltb}
use Rattle.std.proofs.Math.Nat.{suc-mul, zero-mul}
use Rattle.reno_sender.specs.Fields.{IsMultiple}
use Rattle.reno_sender.specs.Sending.{spaced}
use Rattle.reno_sender.proofs.Multiples.{multiple_next}

pub length-spaced : (first step n : ℕ) → length (spaced first step n) ≡ n
length-spaced first step zero = refl
length-spaced first step (suc n) = ap suc (length-spaced (first + step) step n)

-- the first number of a run that reaches high, counted in places from its first, is high
pub find-spaced : (high first m n k : ℕ) → 1 ≤ m → high ≡ first + k * m → k < n → find (λ x. leb high x) (spaced first m n) ≡ Some high
find-spaced high first m zero k p e l = absurd (omega arith)
find-spaced high first m (suc n) zero p e l =
    let same : high ≡ first = omega (arith, zero-mul m) in
    rw (le-leb high first (omega arith)) (ap Some (sym same))
find-spaced high first m (suc n) (suc k) p e l =
    let further : high ≡ first + m + k * m = omega (arith, suc-mul k m) in
    let passed : first < high = omega arith in
    rw (lt-leb high first passed) (find-spaced high (first + m) m n k p further (omega arith))

-- a run that ends before has none
pub find_none-spaced : (high first m n k : ℕ) → 1 ≤ m → high ≡ first + k * m → n ≤ k → find (λ x. leb high x) (spaced first m n) ≡ None
find_none-spaced high first m zero k p e l = refl
find_none-spaced high first m (suc n) zero p e l = absurd (omega arith)
find_none-spaced high first m (suc n) (suc k) p e l =
    let further : high ≡ first + m + k * m = omega (arith, suc-mul k m) in
    let passed : first < high = omega arith in
    rw (lt-leb high first passed) (find_none-spaced high (first + m) m n k p further (omega arith))

-- a run from high on has no number below it
pub none_below-spaced : (high first m n : ℕ) → high ≤ first → list_any (λ x. ltb x high) (spaced first m n) ≡ false
none_below-spaced high first m zero l = refl
none_below-spaced high first m (suc n) l = rw (le-ltb first high l) (none_below-spaced high (first + m) m n (omega arith))

-- what holds of each whole segment up to a bound holds of a run that ends there
pub all-spaced : (P : ℕ → Type 0) (m end : ℕ) → ((x : ℕ) → IsMultiple m x → x + m ≤ end → P x) → (first n : ℕ) → IsMultiple m first → first + n * m ≤ end → AllByRecursion P (spaced first m n)
all-spaced P m end each first zero h l = tt
all-spaced P m end each first (suc n) h l =
    (each first h (omega (arith, suc-mul n m)), all-spaced P m end each (first + m) n (multiple_next m first h) (omega (arith, suc-mul n m)))
